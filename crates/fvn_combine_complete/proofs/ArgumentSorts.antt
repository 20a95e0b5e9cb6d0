-- The sorts that the ranks of an operator have for its arguments, and operators whose result does not rise.
use Rattle.std.proofs.Common.{◌≡◌, ◌⊎◌, ℕ, zero, suc, List, [], ◌∷◌, map, refl, sym, ap, ◌∙◌, subst, inl, inr, Contains, Some, None, slice_get}
use Rattle.std.specs.List.{AllZip}
use Rattle.std.proofs.lemmas.List.Elements.{Contains-append_cases}
use Rattle.fvn_base.proofs.Membership.{contains_here, contains_later, contains_cases, contains_none, map_contains}
use Rattle.fvn_base.proofs.Options.{Some-injective}
use Rattle.fvn_terms.specs.declared.plain.OpId.{OpId}
use Rattle.fvn_terms.specs.declared.plain.SortId.{SortId}
use Rattle.fvn_terms.specs.declared.declarations.Axioms.{Axioms}
use Rattle.fvn_terms.specs.declared.declarations.Axioms.TheVariants.{Free, Comm, AssocComm, AssocCommId}
use Rattle.fvn_terms.specs.declared.declarations.Rank.{Rank}
use Rattle.fvn_terms.specs.declared.declarations.Declarations.{Declarations}
use Rattle.fvn_terms.specs.Signature.{kind, declared, axioms, AtOrBelow}
use Rattle.fvn_terms.specs.Equality.{IsAssociative, identity}
use Rattle.fvn_forms.specs.Flat.{fconstant}
use Rattle.fvn_forms.specs.Good.{IsGood, TakesKinds}
use Rattle.fvn_forms.specs.LeastSort.{KeepsKindsOfVariables}
use Rattle.fvn_forms.specs.Ranks.{swapped_args, swapped_ranks, swaps, kind_rank, written_ranks, ranks_of, result}
use Rattle.fvn_forms.proofs.LeastSort.{sort_in-kind}
use Rattle.fvn_forms.proofs.Results.{result-is, result-kind, TakesKinds-pair}
use Rattle.fvn_forms.proofs.SortOrder.{AtOrBelow-kind}
use Rattle.fvn_forms.proofs.Sums.{constant_settled}
use Rattle.fvn_flat.specs.SolvedLists.{IsSimple}
use Rattle.fvn_combine_complete.specs.Neutral.{Absorbs}

module _ (d : Declarations) (good : IsGood d) where
  own_keeps : KeepsKindsOfVariables d (λ x. x.sort)
  own_keeps x i = refl

  -- a kind absorbs an identity
  pub kind_absorbs : (o : OpId) → IsAssociative (axioms d o) → (r : Rank) → Contains (declared d o).ranks r → (e : OpId) → identity (axioms d o) ≡ Some e → (a : SortId) → kind d a ≡ a → kind d a ≡ kind d r.result → Absorbs d o e a
  kind_absorbs o assoc r listed e is a own of =
      let unit = result d e [] in
      let unit_of = sort_in-kind d good (λ x. x.sort) own_keeps (fconstant e) (constant_settled d e e) (kind d r.result) (good.fits.identity o e r is listed) in
      let takes = TakesKinds-pair d good o a unit assoc (record { rank = r; listed = listed; kind_is = of }) (record { rank = r; listed = listed; kind_is = unit_of }) in
      let same = result-kind d good o (a ∷ unit ∷ []) r takes listed ∙ sym of ∙ own in
      subst (AtOrBelow d (result d o (a ∷ unit ∷ []))) same (AtOrBelow-kind d (result d o (a ∷ unit ∷ [])))

  module _ (f : OpId) (simple : IsSimple (axioms d f)) where
    -- a rank declares the sort a for the argument at p, or, where f is commutative, for some argument
    pub record IsDeclaredAt (p : ℕ) (a : SortId) : Type 0 where
      pub q : ℕ
      pub rank : Rank
      pub listed : Contains (declared d f).ranks rank
      pub at : slice_get rank.args q ≡ Some a
      pub placed : (p ≡ q) ⊎ (axioms d f ≡ Comm)

    -- the sort is a kind, or declared there
    abbrev pub IsArgumentSort : ℕ → SortId → Type 0
    IsArgumentSort p a = (kind d a ≡ a) ⊎ IsDeclaredAt p a

    mapped_kind : (l : List SortId) (p : ℕ) (a : SortId) → slice_get (map (kind d) l) p ≡ Some a → kind d a ≡ a
    mapped_kind [] p a e = absurd (let n : None ≡ Some a = e in cc)
    mapped_kind (x ∷ l) zero a e = let is : kind d x ≡ a = Some-injective e in ap (kind d) (sym is) ∙ good.kinded.own x ∙ is
    mapped_kind (x ∷ l) (suc p) a e = mapped_kind l p a e

    abbrev AreArgumentSorts : List SortId → Type 0
    AreArgumentSorts args = (p : ℕ) (a : SortId) → slice_get args p ≡ Some a → IsArgumentSort p a

    turned : (p q : ℕ) (a : SortId) → axioms d f ≡ Comm → IsArgumentSort p a → IsArgumentSort q a
    turned p q a c (inl own) = inl own
    turned p q a c (inr h) = inr (record { q = h.q; rank = h.rank; listed = h.listed; at = h.at; placed = inr c })

    written : (r : Rank) → Contains (written_ranks d f) r → AreArgumentSorts r.args
    written r among p a at = elim (Contains-append_cases (declared d f).ranks (map (kind_rank d) (declared d f).ranks) r among) [
      | inl h ↦ inr (record { q = p; rank = r; listed = h; at = at; placed = inl refl })
      | inr h ↦ (let m = map_contains (kind_rank d) (declared d f).ranks r h in inl (mapped_kind m.0.args p a (ap (λ o. slice_get o.args p) m.1.1 ∙ at)))
    ]

    in_swapped_args : axioms d f ≡ Comm → (args : List SortId) (s : SortId) → AreArgumentSorts args → (r : Rank) → Contains (swapped_args args s) r → AreArgumentSorts r.args
    in_swapped_args c [] s are r among = absurd (contains_none r among)
    in_swapped_args c (x ∷ []) s are r among = absurd (contains_none r among)
    in_swapped_args c (x ∷ y ∷ z ∷ args) s are r among = absurd (contains_none r among)
    in_swapped_args c (x ∷ y ∷ []) s are r among = elim (contains_cases (record { args = y ∷ x ∷ []; result = s }) [] r among) [
      | inr none ↦ absurd (contains_none r none)
      | inl is ↦ subst (λ (o : Rank). AreArgumentSorts o.args) is both
    ]
      where
        both : AreArgumentSorts (y ∷ x ∷ [])
        both zero a at = turned 1 0 a c (are 1 a at)
        both (suc zero) a at = turned 0 1 a c (are 0 a at)
        both (suc (suc p)) a at = absurd (let n : None ≡ Some a = at in cc)

    in_swapped : axioms d f ≡ Comm → (rs : List Rank) → ((r : Rank) → Contains rs r → AreArgumentSorts r.args) → (r : Rank) → Contains (swapped_ranks rs) r → AreArgumentSorts r.args
    in_swapped c [] are r among = absurd (contains_none r among)
    in_swapped c (o ∷ rs) are r among = elim (Contains-append_cases (swapped_args o.args o.result) (swapped_ranks rs) r among) [
      | inl h ↦ in_swapped_args c o.args o.result (are o (contains_here o rs)) r h
      | inr h ↦ in_swapped c rs (λ p m. are p (contains_later o rs p m)) r h
    ]

    argument_sorts : (r : Rank) → Contains (ranks_of d f) r → AreArgumentSorts r.args
    argument_sorts r among = elim (Contains-append_cases (written_ranks d f) (swaps (axioms d f) (written_ranks d f)) r among) [
      | inl h ↦ written r h
      | inr h ↦ go (axioms d f) refl simple h
    ]
      where
        go : (x : Axioms) → axioms d f ≡ x → IsSimple x → Contains (swaps x (written_ranks d f)) r → AreArgumentSorts r.args
        go Free e h m = absurd (contains_none r m)
        go Comm e h m = in_swapped e (written_ranks d f) written r m
        go AssocComm e h m = absurd h
        go (AssocCommId o) e h m = absurd h

    -- where each sort of one list is below whatever sorts of arguments those of another are below, the result does not rise
    pub result_stays : (low high : List SortId) → TakesKinds d f low → TakesKinds d f high
        → ((args : List SortId) → AreArgumentSorts args → AllZip (AtOrBelow d) low args → AllZip (AtOrBelow d) high args)
        → AtOrBelow d (result d f high) (result d f low)
    result_stays low high takes_low takes_high fits =
        let served = (result-is d good f low takes_low).serves in
        (result-is d good f high takes_high).least (result d f low) (record {
          rank = served.rank;
          listed = served.listed;
          fits = fits served.rank.args (argument_sorts served.rank served.listed) served.fits;
          gives = served.gives;
        })
