-- The sides of a problem's pairs in turn, and their flat forms.
use Rattle.std.proofs.Common.{◌⊎◌, ℕ, List, [], ◌∷◌, map, sym, subst, inl, inr}
use Rattle.std.specs.Prelude.{All}
use Rattle.std.specs.List.{AllZip}
use Rattle.std.proofs.lemmas.List.Elements.{All-nil, All-head, All-tail}
use Rattle.fvn_base.proofs.Membership.{contains_here, contains_later, contains_cases, contains_none}
use Rattle.fvn_terms.specs.declared.plain.Var.{Var}
use Rattle.fvn_terms.specs.declared.plain.Plain.{Plain}
use Rattle.fvn_terms.specs.declared.declarations.Declarations.{Declarations}
use Rattle.fvn_terms.specs.Term.{Term}
use Rattle.fvn_terms.specs.Plain.{term}
use Rattle.fvn_terms.specs.Substitution.{Substitution, apply, Occurs}
use Rattle.fvn_terms.specs.Equality.{BEqual}
use Rattle.fvn_terms.specs.Sorts.{IsWellSorted}
use Rattle.fvn_terms.specs.Theory.{Equations}
use Rattle.fvn_terms.specs.Variants.{OccursInSome, IsVariant, IsWithin}
use Rattle.fvn_terms.specs.Laws.{RewritingLaws}
use Rattle.fvn_terms.proofs.Equal.{BEqual-apply}
use Rattle.fvn_terms.proofs.Occurrences.{BEqual-occurs}
use Rattle.fvn_forms.specs.Flat.{FlatTerm, plain}
use Rattle.fvn_forms.specs.FitsKinds.{FitsKinds}
use Rattle.fvn_forms.proofs.ToCanon.{to_canon}
use Rattle.fvn_flat.specs.Fits.{Fits, AllFit}
use Rattle.fvn_flat.specs.Problems.{flat_pairs}
use Rattle.fvn_flat.specs.Solving.{FlatPairs}
use Rattle.fvn_rewrite_laws.proofs.Lists.{each_equal_back, list_before}
use Rattle.fvn_problems.specs.Problems.{AreOfOneKind}
use Rattle.fvn_problems.specs.Variables.{OccursInSides}
use Rattle.fvn_vunify.specs.Sides.{sides_in_turn}
use Rattle.fvn_cmd_unify.specs.Asked.{pairs_of}
use Rattle.fvn_cmd_vunify.specs.Asked.{sides_of}

abbrev BothFit : Declarations → FlatTerm × FlatTerm → Type 0
BothFit d p = Fits d p.0 × Fits d p.1

pub turn_fits : (d : Declarations) (pairs : FlatPairs) → All (BothFit d) pairs → AllFit d (sides_in_turn pairs)
turn_fits d [] h = tt
turn_fits d (p ∷ pairs) h =
    let one = All-head (BothFit d) p pairs h in
    (one.0, (one.1, turn_fits d pairs (All-tail (BothFit d) p pairs h)))

-- what occurs in some term of a list
here_some : (x : Var) (t : Term) (ts : List Term) → Occurs x t → OccursInSome x (t ∷ ts)
here_some x t ts o = let i = contains_here t ts in (i.0, t, i.1, i.2, o)

later_some : (x : Var) (t : Term) (ts : List Term) → OccursInSome x ts → OccursInSome x (t ∷ ts)
later_some x t ts o = let i = contains_later t ts o.1 (o.0, o.2, o.3) in (i.0, o.1, i.1, i.2, o.4)

cases_some : (x : Var) (t : Term) (ts : List Term) → OccursInSome x (t ∷ ts) → Occurs x t ⊎ OccursInSome x ts
cases_some x t ts o = elim (contains_cases t ts o.1 (o.0, o.2, o.3)) [
  | inl e ↦ inl (subst (Occurs x) (sym e) o.4)
  | inr i ↦ inr (i.0, o.1, i.1, i.2, o.4)
]

none_some : (x : Var) → OccursInSome x [] → ⊥
none_some x o = contains_none o.1 (o.0, o.2, o.3)

pub sides_occur : (pairs : List (Plain × Plain)) (x : Var) → OccursInSome x (sides_of (pairs_of pairs)) → OccursInSides pairs x
sides_occur [] x o = none_some x o
sides_occur (p ∷ pairs) x o = elim (cases_some x (term p.0) (term p.1 ∷ sides_of (pairs_of pairs)) o) [
  | inl a ↦ inl (inl a)
  | inr r ↦ elim (cases_some x (term p.1) (sides_of (pairs_of pairs)) r) [
    | inl b ↦ inl (inr b)
    | inr c ↦ inr (sides_occur pairs x c)
  ]
]

pub occur_sides : (pairs : List (Plain × Plain)) (x : Var) → OccursInSides pairs x → OccursInSome x (sides_of (pairs_of pairs))
occur_sides [] x o = absurd o
occur_sides (p ∷ pairs) x (inl (inl a)) = here_some x (term p.0) (term p.1 ∷ sides_of (pairs_of pairs)) a
occur_sides (p ∷ pairs) x (inl (inr b)) = later_some x (term p.0) (term p.1 ∷ sides_of (pairs_of pairs)) (here_some x (term p.1) (sides_of (pairs_of pairs)) b)
occur_sides (p ∷ pairs) x (inr c) = later_some x (term p.0) (term p.1 ∷ sides_of (pairs_of pairs)) (later_some x (term p.1) (sides_of (pairs_of pairs)) (occur_sides pairs x c))

module _ (d : Declarations) where
  -- each side is equal to its flat form
  pub sides_flat : FitsKinds d → (pairs : List (Plain × Plain)) → All (AreOfOneKind d) pairs → AllZip (BEqual d) (sides_of (pairs_of pairs)) (map plain (sides_in_turn (flat_pairs d (pairs_of pairs))))
  sides_flat fits [] h = tt
  sides_flat fits (p ∷ pairs) h =
      let k = All-head (AreOfOneKind d) p pairs h in
      (to_canon d fits (term p.0) k.0 k.1.0, (to_canon d fits (term p.1) k.0 k.1.1, sides_flat fits pairs (All-tail (AreOfOneKind d) p pairs h)))

  each_under : (s : Substitution) → IsWellSorted d s → (ts us : List Term) → AllZip (BEqual d) ts us → AllZip (BEqual d) (map (apply s) ts) (map (apply s) us)
  each_under s sorted [] [] h = tt
  each_under s sorted [] (u ∷ us) h = absurd h
  each_under s sorted (t ∷ ts) [] h = absurd h
  each_under s sorted (t ∷ ts) (u ∷ us) h = (BEqual-apply d s sorted.0 h.0, each_under s sorted ts us h.1)

  -- equal lists have the same variables
  pub each_occurs : (x : Var) (ts us : List Term) → AllZip (BEqual d) ts us → OccursInSome x us → OccursInSome x ts
  each_occurs x [] [] h o = absurd (none_some x o)
  each_occurs x [] (u ∷ us) h o = absurd h
  each_occurs x (t ∷ ts) [] h o = absurd h
  each_occurs x (t ∷ ts) (u ∷ us) h o = elim (cases_some x u us o) [
    | inl a ↦ here_some x t ts (BEqual-occurs x d t u h.0 a)
    | inr r ↦ later_some x t ts (each_occurs x ts us h.1 r)
  ]

  pub each_back : (ts us : List Term) → AllZip (BEqual d) ts us → AllZip (BEqual d) us ts
  each_back ts us h = each_equal_back d ts us h

  module _ (equations : Equations) (rewriting : RewritingLaws d equations) (ts us : List Term) (equal : AllZip (BEqual d) ts us) where
    -- the variants of a list, and the bounds on its sequences, are those of each that is equal to it
    pub variant_along : (vs : List Term) (s : Substitution) → IsVariant d equations [] ts vs s → IsVariant d equations [] us vs s
    variant_along vs s h = record {
      well_sorted = h.well_sorted;
      values = λ x o. h.values x (each_occurs x ts us equal o);
      stay = All-nil _;
      irreducible = h.irreducible;
      steps = h.steps;
      sequence = list_before d equations rewriting h.steps (map (apply s) ts) (map (apply s) us) vs (each_under s h.well_sorted us ts (each_back ts us equal)) h.sequence;
    }

    pub within_along : (most : ℕ) (s : Substitution) → IsWellSorted d s → IsWithin d equations most ts s → IsWithin d equations most us s
    within_along most s sorted h j vs q = h j vs (list_before d equations rewriting j (map (apply s) us) (map (apply s) ts) vs (each_under s sorted ts us equal) q)
