-- The conditions on the declarations of an operator.
use Rattle.std.proofs.Common.{◌≡◌, ℕ, ◌+◌, ◌<◌, ◌≤◌, List, [], ◌∷◌, map, length, get_or, refl, sym, ap, subst, ◌∙◌, Some, ◌⊎◌, ◌↔◌, inl, inr, Bool, true, false, not, nat_eq, IsTrue, arith}
use Rattle.std.specs.List.{Contains, Any}
use Rattle.std.proofs.lemmas.Bool.{cases_eq, cases_lt, eq-eqb, false≢true}
use Rattle.std.proofs.lemmas.List.{get_or_read, get_or_past, length-map}
use Rattle.std.proofs.lemmas.List.Elements.{All-contains}
use Rattle.fvn_sorts.specs.declared.conditions.shapes.Condition.{Condition}
use Rattle.fvn_sorts.specs.declared.conditions.shapes.Condition.TheVariants.{Kinds, Shape, Same, Identity}
use Rattle.fvn_terms.specs.declared.plain.OpId.{OpId}
use Rattle.fvn_terms.specs.declared.plain.SortId.{SortId}
use Rattle.fvn_terms.specs.declared.declarations.Axioms.{Axioms}
use Rattle.fvn_terms.specs.declared.declarations.Axioms.TheVariants.{Free, Comm, AssocComm, AssocCommId}
use Rattle.fvn_terms.specs.declared.declarations.Rank.{Rank}
use Rattle.fvn_terms.specs.declared.declarations.OpDecl.{OpDecl}
use Rattle.fvn_terms.specs.declared.declarations.Declarations.{Declarations}
use Rattle.fvn_terms.specs.Signature.{kind, declared, axioms, unknown, HasKind, HaveKinds}
use Rattle.fvn_terms.specs.Term.{none}
use Rattle.fvn_forms.specs.SortOrder.{sort_number}
use Rattle.fvn_terms.specs.Equality.{IsCommutative, IsAssociative, constant, identity}
use Rattle.fvn_base.proofs.Membership.{contains_here, contains_none}
use Rattle.fvn_signature_draft.specs.declared.collected.Declaration.{Declaration}
use Rattle.fvn_signature_draft.specs.declared.collected.Collected.{Collected}
use Rattle.fvn_forms.specs.FitsKinds.{TakesTwoAlike, TakesTwoOfItsKind}
use Rattle.fvn_forms.proofs.SortTests.{same_sort-true}
use Rattle.fvn_signature_draft.specs.Collected.{IsClosed, op_number, declarations_of, first_axioms, rank_meant, completed}
use Rattle.fvn_sorts.specs.Faults.{Differ, HasBadShape, HasBadIdentity, IsOnCycle, HasFault}
use Rattle.fvn_sorts.specs.inner.Searches.{fault_at}
use Rattle.fvn_base.proofs.Decided.{unrefuted}
use Rattle.fvn_terms.proofs.AxiomWords.{associative_commutes}
use Rattle.fvn_signature_draft.proofs.Operators.{operators-long, declared_of}
use Rattle.fvn_signature_draft.proofs.CompletedKinds.{below-range}

-- the kinds of two arguments, each by what stands at its place
pub kinds_of_two : (h f : SortId → SortId) (some all : List SortId) (x y : SortId) → some ≡ all → length some ≡ 2 → x ≡ h (f (get_or some 0 (sort_number 0))) → y ≡ h (f (get_or some 1 (sort_number 0))) → map h (map f all) ≡ x ∷ y ∷ []
kinds_of_two h f some all x y same long first second = subst (λ (l : List SortId). map h (map f l) ≡ x ∷ y ∷ []) same (go some long first second) where
  go : (l : List SortId) → length l ≡ 2 → x ≡ h (f (get_or l 0 (sort_number 0))) → y ≡ h (f (get_or l 1 (sort_number 0))) → map h (map f l) ≡ x ∷ y ∷ []
  go [] e p q = absurd (omega (arith, e))
  go (s ∷ []) e p q = absurd (omega (arith, e))
  go (s ∷ t ∷ []) e p q = ap (λ k. k ∷ h (f t) ∷ []) (sym p) ∙ ap (λ k. x ∷ k ∷ []) (sym q)
  go (s ∷ t ∷ u ∷ l) e p q = absurd (omega (arith, e))

-- where the kinds are two, so are the arguments
pub two_long : (h f : SortId → SortId) (args : List SortId) (x y : SortId) → map h (map f args) ≡ x ∷ y ∷ [] → length args ≡ 2
two_long h f args x y e = sym (length-map (map f args) h ∙ length-map args f) ∙ ap (λ l. length l) e

-- lists with the same elements have the same first one
same_first : {x y k q : SortId} → x ∷ y ∷ [] ≡ k ∷ q ∷ [] → x ≡ k
same_first e = cc

-- two of one kind are the same
pub same_two : {x y k q : SortId} → x ∷ y ∷ [] ≡ k ∷ q ∷ [] → k ≡ q → x ≡ y
same_two {x} {y} {k} {q} e h = let a : x ≡ k = cc in let b : y ≡ q = cc in a ∙ h ∙ sym b

-- whether the declaration is bad, by what its arguments, its axioms and its result are
module _ (c : Collected) (e : Declaration) where
  -- where it does not take two of one kind
  pub bad_alone : {b : Bool} → (TakesTwoAlike (completed c) (rank_meant c e) → ⊥) → IsTrue b ↔ IsCommutative e.axioms → IsTrue b ↔ HasBadShape c e
  bad_alone {b} alone tells = (λ h. inl (tells.0 h, alone), back) where
    back : HasBadShape c e → IsTrue b
    back (inl p) = tells.1 p.0
    back (inr p) = tells.1 (associative_commutes e.axioms p.0)

  module _ (k : SortId) (two : map (kind (completed c)) (rank_meant c e).args ≡ k ∷ k ∷ []) where
    -- where its axioms do not join its arguments
    pub never_bad : (IsAssociative e.axioms → ⊥) → HasBadShape c e → ⊥
    never_bad free (inl p) = p.1 (k, two)
    never_bad free (inr p) = free p.0

    -- where they do
    pub bad_result : {b : Bool} {r : SortId} → IsAssociative e.axioms → r ≡ kind (completed c) (rank_meant c e).result → b ≡ not (nat_eq r.0 k.0) → IsTrue b ↔ HasBadShape c e
    bad_result {b} {r} joined is tells = (forth, back) where
      forth : IsTrue b → HasBadShape c e
      forth h = inr (joined, λ t. false≢true (sym (tells ∙ ap not (eq-eqb r.0 k.0 (ap (λ (s : SortId). s.0) (is ∙ same_first (sym t ∙ two))))) ∙ h))

      by : (t : Bool) → nat_eq r.0 k.0 ≡ t → (TakesTwoOfItsKind (completed c) (rank_meant c e) → ⊥) → IsTrue b
      by false h other = tells ∙ ap not h
      by true h other = absurd (other (subst (λ q. map (kind (completed c)) (rank_meant c e).args ≡ q ∷ q ∷ []) (sym (same_sort-true r k h) ∙ is) two))

      back : HasBadShape c e → IsTrue b
      back (inl p) = absurd (p.1 (k, two))
      back (inr p) = by (nat_eq r.0 k.0) refl p.1

-- none among one more
pub none_more : {A : Type 0} (P : A → Type 0) (xs : List A) (i : ℕ) (x : A) → i < length xs → x ≡ get_or xs i x → ((k : ℕ) (d : A) → k < i → P (get_or xs k d) → ⊥) → (P x → ⊥) → (k : ℕ) (d : A) → k < i + 1 → P (get_or xs k d) → ⊥
none_more P xs i x within is before here k d l p = go (cases_lt k i) where
  go : (k < i) ⊎ (i ≤ k) → ⊥
  go (inl m) = before k d m p
  go (inr m) =
      let e : k ≡ i = omega arith in
      here (subst P (ap (λ n. get_or xs n d) e ∙ sym (get_or_read xs i x within is d)) p)

-- a declaration with other axioms than the first differs from it
pub differ_from_first : (es : List Declaration) (e : Declaration) → Contains es e → (e.axioms ≡ first_axioms es → ⊥) → Differ (λ e g. e.axioms ≡ g.axioms) es
differ_from_first [] e h n = absurd (contains_none e h)
differ_from_first (g ∷ es) e h n = record { one = e; other = g; one_listed = h; other_listed = contains_here g es; differ = n }

pub none_differ : (c : Collected) (f : OpId) (a : Axioms) → ((k : ℕ) (d : Declaration) → k < length c.declarations → ((get_or c.declarations k d).op ≡ f) × ((get_or c.declarations k d).axioms ≡ a → ⊥) → ⊥) → ((x y : Axioms) → (x ≡ y) ⊎ (x ≡ y → ⊥)) → Differ (λ e g. e.axioms ≡ g.axioms) (declarations_of c f) → ⊥
none_differ c f a each decide w = w.differ (same w.one w.one_listed ∙ sym (same w.other w.other_listed)) where
  same : (e : Declaration) → Contains (declarations_of c f) e → e.axioms ≡ a
  same e h =
      let w = declared_of c f e h in
      let here = w.0 in
      let at : (get_or c.declarations here.0 e) ≡ e = here.2 in
      unrefuted (decide e.axioms a) (λ n. each here.0 e here.1 (ap (λ (g : Declaration). g.op) at ∙ w.1, λ q. n (ap (λ (g : Declaration). g.axioms) (sym at) ∙ q)))

pub same_axioms : (x y : Axioms) → (x ≡ y) ⊎ (x ≡ y → ⊥)
same_axioms Free Free = inl refl
same_axioms Comm Comm = inl refl
same_axioms AssocComm AssocComm = inl refl
same_axioms (AssocCommId f) (AssocCommId g) = go (cases_eq f.0 g.0) where
  go : (f.0 ≡ g.0) ⊎ (f.0 ≡ g.0 → ⊥) → (AssocCommId f ≡ AssocCommId g) ⊎ (AssocCommId f ≡ AssocCommId g → ⊥)
  go (inl e) = inl (ap (λ n. AssocCommId (op_number n)) e)
  go (inr n) = inr (λ e. n (let h : f ≡ g = cc in ap (λ (o : OpId). o.0) h))
same_axioms x y = inr (λ e. cc)

module _ (d : Declarations) where
  -- a constant of a kind, by its ranks
  pub no_constant : (e : OpId) (k : SortId) → ((i : ℕ) (r : Rank) → i < length (declared d e).ranks → (get_or (declared d e).ranks i r).args ≡ [] → kind d (get_or (declared d e).ranks i r).result ≡ k → ⊥) → HasKind d (constant e) k → ⊥
  no_constant e k each h = each h.listed.0 h.rank h.listed.1 (ap (λ (r : Rank). r.args) h.listed.2 ∙ no_args h.rank.args h.args) (ap (λ (r : Rank). kind d r.result) h.listed.2 ∙ h.result) where
    no_args : (ss : List SortId) → HaveKinds d none (map (kind d) ss) → ss ≡ []
    no_args [] p = refl
    no_args (s ∷ ss) p = absurd p

-- an identity that is not a constant of the kind that some rank gives
bad_identity_of : (c : Collected) (f e : OpId) → identity (axioms (completed c) f) ≡ Some e → Any (λ r. HasKind (completed c) (constant e) (kind (completed c) r.result) → ⊥) (declared (completed c) f).ranks ↔ HasBadIdentity c f
bad_identity_of c f e named = (forth, back) where
  forth : Any (λ r. HasKind (completed c) (constant e) (kind (completed c) r.result) → ⊥) (declared (completed c) f).ranks → HasBadIdentity c f
  forth a = record { identity = e; named = named; rank = a.1; listed = (a.0, a.2, a.3); bad = a.4 }

  back : HasBadIdentity c f → Any (λ r. HasKind (completed c) (constant e) (kind (completed c) r.result) → ⊥) (declared (completed c) f).ranks
  back w =
      let same : w.identity ≡ e = let q : Some w.identity ≡ Some e = sym w.named ∙ named in cc in
      (w.listed.0, w.rank, w.listed.1, w.listed.2, λ h. w.bad (subst (λ i. HasKind (completed c) (constant i) (kind (completed c) w.rank.result)) (sym same) h))

pub bad_identity : (c : Collected) (d : Declarations) → d ≡ completed c → (f e : OpId) → identity (axioms d f) ≡ Some e → Any (λ r. HasKind d (constant e) (kind d r.result) → ⊥) (declared d f).ranks ↔ HasBadIdentity c f
bad_identity c d is f e = rw is (bad_identity_of c f e)

-- nothing fails of an operator that was not declared
declares_nothing : (c : Collected) (f : OpId) → c.operators ≤ f.0 → declared (completed c) f ≡ unknown
declares_nothing c f l = get_or_past (completed c).ops f.0 unknown (omega (arith, operators-long c))

pub no_rank : (c : Collected) (f : OpId) → c.operators ≤ f.0 → (r : Rank) → Contains (declared (completed c) f).ranks r → ⊥
no_rank c f l r h = contains_none r (subst (λ (o : OpDecl). Contains o.ranks r) (declares_nothing c f l) h)

known_operator : (c : Collected) → IsClosed c → (e : Declaration) → Contains c.declarations e → e.op.0 < c.operators
known_operator c closed e h = All-contains (λ e. e.op.0 < c.operators) c.declarations e closed.operators h

pub nothing_fails : (c : Collected) → IsClosed c → (f : OpId) → c.operators ≤ f.0 → (k : Condition) → HasFault c (fault_at k f) → ⊥
nothing_fails c closed f l Kinds w = no_rank c f l w.one w.one_listed
nothing_fails c closed f l Shape w =
    let m : w.1.op.0 < c.operators = known_operator c closed w.1 (w.0, w.2, w.3) in
    let e : w.1.op.0 ≡ f.0 = ap (λ (o : OpId). o.0) w.4.0 in
    omega arith
nothing_fails c closed f l Same w =
    let here = declared_of c f w.one w.one_listed in
    let m : w.one.op.0 < c.operators = known_operator c closed w.one here.0 in
    let e : w.one.op.0 ≡ f.0 = ap (λ (o : OpId). o.0) here.1 in
    omega arith
nothing_fails c closed f l Identity w = no_rank c f l w.rank w.listed

-- what is on a cycle is a sort
pub cycle_in_range : (c : Collected) → IsClosed c → (s : SortId) → IsOnCycle c s → s.0 < c.sorts
cycle_in_range c closed s w = (below-range c closed s w.0 w.1.0).0
