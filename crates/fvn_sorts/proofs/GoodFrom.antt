-- What was collected without a fault is a good signature.
use Rattle.std.proofs.Common.{◌≡◌, ◌≤◌, List, [], ◌∷◌, map, length, sym, ap, subst, ◌∙◌, Some, ◌⊎◌, inl, inr, arith}
use Rattle.std.specs.List.{Contains}
use Rattle.std.proofs.lemmas.Bool.{cases_lt}
use Rattle.std.proofs.lemmas.List.{length-map}
use Rattle.fvn_terms.specs.declared.plain.OpId.{OpId}
use Rattle.fvn_terms.specs.declared.plain.SortId.{SortId}
use Rattle.fvn_terms.specs.declared.declarations.Rank.{Rank}
use Rattle.fvn_terms.specs.declared.declarations.OpDecl.{OpDecl}
use Rattle.fvn_terms.specs.declared.declarations.Declarations.{Declarations}
use Rattle.fvn_terms.specs.Term.{none}
use Rattle.fvn_terms.specs.Signature.{kind, declared, axioms, AtOrBelow, HasKind, HaveKinds}
use Rattle.fvn_terms.specs.Equality.{IsCommutative, IsAssociative, constant, identity as identity_of}
use Rattle.fvn_forms.specs.SortOrder.{at_or_below}
use Rattle.fvn_forms.specs.Ranks.{IsResult, ranks_of, result}
use Rattle.fvn_forms.specs.Good.{TakesKinds, IsOfKind, IsWithinLimits, IsGood}
use Rattle.fvn_forms.proofs.SortTests.{at_or_below-true, at_or_below-complete}
use Rattle.fvn_signature_draft.specs.declared.collected.Declaration.{Declaration}
use Rattle.fvn_signature_draft.specs.declared.collected.Collected.{Collected}
use Rattle.fvn_sorts.specs.declared.conditions.fault.SigFault.TheVariants.{SortCycle, KindsDiffer, AxiomShape, AxiomsDiffer, IdentityBad, NotPreregular, NotAssocSorts, NotCollapsing, TooMany}
use Rattle.fvn_signature_draft.specs.Collected.{IsClosed, declarations_of, first_axioms, rank_meant, meant_or_kind, completed}
use Rattle.fvn_forms.specs.FitsKinds.{TakesTwoAlike, TakesTwoOfItsKind}
use Rattle.fvn_sorts.specs.Faults.{HasNoFault, HasBadShape}
use Rattle.fvn_sorts.specs.inner.Searches.{has_lowest}
use Rattle.fvn_base.proofs.Decided.{unrefuted, decided_by, both_or, some_or_none}
use Rattle.fvn_signature_draft.proofs.CompletedKinds.{declared-is, rank-declared, completed-kinded}
use Rattle.fvn_sorts.proofs.ShapeLemmas.{same_axioms, differ_from_first}
use Rattle.fvn_sorts.proofs.ResultLemmas.{same_sorts, same_sort_or, agree_of, result_lowest, lowest_result}
use Rattle.fvn_signature_draft.proofs.Operators.{operators-long, declared_of}

-- a list is two of one sort, or not
two_alike_or : (xs : List SortId) → ((k : SortId) × (xs ≡ k ∷ k ∷ [])) ⊎ ((k : SortId) × (xs ≡ k ∷ k ∷ []) → ⊥)
two_alike_or (x ∷ y ∷ []) = elim (same_sort_or x y) [ inl e ↦ inl (x, ap (λ z. x ∷ z ∷ []) (sym e)) | inr n ↦ inr (λ w. n (let e = w.1 in cc)) ]
two_alike_or xs = inr (λ w. let e = w.1 in cc)

module _ (d : Declarations) where
  no_args_or : (ss : List SortId) → HaveKinds d none (map (kind d) ss) ⊎ (HaveKinds d none (map (kind d) ss) → ⊥)
  no_args_or [] = inl tt
  no_args_or (s ∷ ss) = inr (λ h. h)

  -- an operator is a constant of the kind, or is not
  has_kind_or : (e : OpId) (k : SortId) → HasKind d (constant e) k ⊎ (HasKind d (constant e) k → ⊥)
  has_kind_or e k = elim (some_or_none (λ (r : Rank). HaveKinds d none (map (kind d) r.args) × (kind d r.result ≡ k)) (λ r. both_or (no_args_or r.args) (same_sort_or (kind d r.result) k)) (declared d e).ranks) [
    | inl w ↦ inl (record { rank = w.0; listed = w.1.0; args = w.1.1.0; result = w.1.1.1 })
    | inr n ↦ inr (λ w. n w.rank w.listed (w.args, w.result))
  ]

module _ (c : Collected) (closed : IsClosed c) (clean : HasNoFault c) where
  -- the declarations of an operator have its axioms
  declared_axioms : (f : OpId) (e : Declaration) → Contains (declarations_of c f) e → axioms (completed c) f ≡ e.axioms
  declared_axioms f e h = ap (λ (o : OpDecl). o.axioms) (declared-is c closed f) ∙ sym (unrefuted (same_axioms e.axioms (first_axioms (declarations_of c f))) (λ n. clean (AxiomsDiffer f) (differ_from_first (declarations_of c f) e h n)))

  shape_of : (f : OpId) (r : Rank) → Contains (declared (completed c) f).ranks r → (e : Declaration) × ((HasBadShape c e → ⊥) × ((rank_meant c e ≡ r) × (axioms (completed c) f ≡ e.axioms)))
  shape_of f r h =
      let w = rank-declared c closed f r h in
      let here = declared_of c f w.0 w.1.0 in
      (w.0, (λ bad. clean (AxiomShape f) (here.0.0, w.0, here.0.1, here.0.2, (here.1, bad)), (w.1.1, declared_axioms f w.0 w.1.0)))

  commutative : (f : OpId) (r : Rank) → IsCommutative (axioms (completed c) f) → Contains (declared (completed c) f).ranks r → TakesTwoAlike (completed c) r
  commutative f r comm h =
      let w = shape_of f r h in
      let args = map (kind (completed c)) (rank_meant c w.0).args in
      subst (TakesTwoAlike (completed c)) w.1.1.0 (unrefuted (two_alike_or args) (λ n. w.1.0 (inl (subst IsCommutative w.1.1.1 comm, n))))

  associative : (f : OpId) (r : Rank) → IsAssociative (axioms (completed c) f) → Contains (declared (completed c) f).ranks r → TakesTwoOfItsKind (completed c) r
  associative f r assoc h =
      let w = shape_of f r h in
      let args = map (kind (completed c)) (rank_meant c w.0).args in
      let k = kind (completed c) (rank_meant c w.0).result in
      subst (TakesTwoOfItsKind (completed c)) w.1.1.0 (unrefuted (same_sorts args (k ∷ k ∷ [])) (λ n. w.1.0 (inr (subst IsAssociative w.1.1.1 assoc, n))))

  identity : (f e : OpId) (r : Rank) → identity_of (axioms (completed c) f) ≡ Some e → Contains (declared (completed c) f).ranks r → HasKind (completed c) (constant e) (kind (completed c) r.result)
  identity f e r named h = unrefuted (has_kind_or (completed c) e (kind (completed c) r.result)) (λ n. clean (IdentityBad f) record { identity = e; named = named; rank = r; listed = h; bad = n })

  preregular : (f : OpId) (args : List SortId) → TakesKinds (completed c) f args → (r : SortId) × IsResult (completed c) f args r
  preregular f args takes = unrefuted (decided_by (has_lowest (completed c) (ranks_of (completed c) f) args) (lowest_result (completed c) f args) (λ w. result_lowest (completed c) f args w.0 w.1)) (λ n. clean (NotPreregular f args) (takes, λ r is. n (r, is)))

  associative_sorts : (f : OpId) (s q r : SortId) → IsAssociative (axioms (completed c) f) → IsOfKind (completed c) f s → IsOfKind (completed c) f q → IsOfKind (completed c) f r → result (completed c) f (result (completed c) f (s ∷ q ∷ []) ∷ r ∷ []) ≡ result (completed c) f (s ∷ result (completed c) f (q ∷ r ∷ []) ∷ [])
  associative_sorts f s q r assoc a b e = unrefuted (same_sort_or _ _) (λ n. clean (NotAssocSorts f s q r) record { associative = assoc; first = a; second = b; third = e; bad = n })

  collapse : (f e : OpId) (s : SortId) → identity_of (axioms (completed c) f) ≡ Some e → IsOfKind (completed c) f s → AtOrBelow (completed c) s (result (completed c) f (s ∷ result (completed c) e [] ∷ []))
  collapse f e s named of_kind =
      let sum : SortId = result (completed c) f (s ∷ result (completed c) e [] ∷ []) in
      unrefuted (decided_by (at_or_below (completed c) s sum) (at_or_below-true (completed c) s sum) (at_or_below-complete (completed c))) (λ n. clean (NotCollapsing f s) record { identity = e; named = named; of_kind = of_kind; bad = n })

  limits : IsWithinLimits (completed c)
  limits = record {
    sorts = elim (cases_lt 64 c.sorts) as (λ _. c.sorts ≤ 64) [ inl l ↦ absurd (clean TooMany (inl l)) | inr l ↦ l ];
    operators = elim (cases_lt 256 c.operators) as (λ _. length (completed c).ops ≤ 256) [ inl l ↦ absurd (clean TooMany (inr (inl l))) | inr l ↦ omega (arith, operators-long c) ];
    arguments = λ f r h.
        let w = rank-declared c closed f r h in
        let here = (declared_of c f w.0 w.1.0).0 in
        let long : length r.args ≡ length w.0.rank.args = ap (λ (q : Rank). length q.args) (sym w.1.1) ∙ length-map w.0.rank.args (meant_or_kind c w.0.partial) in
        elim (cases_lt 8 (length w.0.rank.args)) as (λ _. length r.args ≤ 8) [ inl l ↦ absurd (clean TooMany (inr (inr (here.0, w.0, here.1, here.2, l)))) | inr l ↦ let m : length w.0.rank.args ≤ 8 = l in omega arith ];
  }

  pub good_from : IsGood (completed c)
  good_from = record {
    kinded = completed-kinded c closed;
    acyclic = λ s q h k. clean (SortCycle s) (q, (h, k));
    fits = record {
      agree = λ f r q hr hq. agree_of (completed c) (declared (completed c) f).ranks (clean (KindsDiffer f)) r q hr hq;
      commutative = commutative;
      associative = associative;
      identity = identity;
    };
    preregular = preregular;
    associative_sorts = associative_sorts;
    collapse = collapse;
    limits = limits;
  }
