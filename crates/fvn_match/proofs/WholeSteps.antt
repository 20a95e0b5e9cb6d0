-- The sum of chosen pieces, as it is built.
use Rattle.std.proofs.Common.{◌≡◌, ℕ, ◌≤◌, zero, suc, false, List, [], ◌∷◌, ◌++◌, length, Option, Some, None, sym, ap, ◌∙◌, subst, arith}
use Rattle.std.specs.Prelude.{nat_eq, sum as std_sum}
use Rattle.std.specs.List.{AllByRecursion}
use Rattle.std.proofs.lemmas.List.{nil_from_length, length-append}
use Rattle.fvn_terms.specs.declared.plain.OpId.{OpId}
use Rattle.fvn_terms.specs.declared.declarations.Declarations.{Declarations}
use Rattle.fvn_terms.specs.Signature.{kind, axioms}
use Rattle.fvn_forms.specs.Flat.{FlatTerm, fconstant}
use Rattle.fvn_forms.specs.Canon.{empty_sum, sum, build}
use Rattle.fvn_terms.specs.Equality.{identity}
use Rattle.fvn_forms.specs.Settled.{IsPiece}
use Rattle.fvn_forms.specs.FitsKinds.{FitsKinds}
use Rattle.fvn_flat.specs.Fits.{AllFit, Takes}
use Rattle.fvn_match.specs.inner.Tallies.{repeated}
use Rattle.fvn_match.specs.inner.Goals.{pieces_of, IsFlatOf, SumFits}
use Rattle.fvn_match.specs.inner.Searching.{IsEmptySum, IsWhole}
use Rattle.fvn_match.specs.declared.goals.SumGoal.{SumGoal}
use Rattle.fvn_match.proofs.Tallies.{each_repeated, length_repeated}
use Rattle.fvn_match.proofs.Runs.{length_references}
use Rattle.fvn_match.proofs.SumFitting.{flat_fit, takes_pieces, built_is_sum}

-- an identity is the sum of nothing
pub identity_is_sum : (d : Declarations) (f e : OpId) (t : FlatTerm) → identity (axioms d f) ≡ Some e → t ≡ fconstant e → IsEmptySum d f (Some t)
identity_is_sum d f e t i is = (is ∙ sym (ap (empty_sum d f) i), λ none. let z : Some e ≡ None = sym i ∙ none in cc)

pub not_zero : (n : ℕ) → nat_eq n 0 ≡ false → 1 ≤ n
not_zero zero e = cc
not_zero (suc n) e = omega arith

-- what is popped off a list
pub popped_off : (l rest : List FlatTerm) (t : FlatTerm) → l ≡ rest ++ t ∷ [] → length rest ≡ 0 → l ≡ t ∷ []
popped_off l rest t e none = e ∙ ap (λ r. r ++ t ∷ []) (nil_from_length rest none)

pub two_or_more : (l rest : List FlatTerm) (t : FlatTerm) → l ≡ rest ++ t ∷ [] → 1 ≤ length rest → 2 ≤ length l
two_or_more l rest t e some = let a = ap length e in let b = length-append rest (t ∷ []) in omega arith

module _ (d : Declarations) (goal : SumGoal) (fit : SumFits d goal) (chosen : List ℕ) (sized : length chosen ≡ length goal.left.now) where
  counted : length (repeated (pieces_of goal) chosen) ≡ std_sum chosen
  counted = length_repeated (pieces_of goal) chosen (sized ∙ fit.long ∙ sym (length_references goal.pieces.now))

  pub whole_of_none : (o : Option FlatTerm) → length (repeated (pieces_of goal) chosen) ≡ 0 → IsEmptySum d goal.op o → IsWhole d goal chosen o
  whole_of_none None e h = (sym counted ∙ e, h)
  whole_of_none (Some t) e h = (h.0 ∙ ap (sum d goal.op) (sym (nil_from_length (repeated (pieces_of goal) chosen) e)), λ none. absurd (h.1 none))

  pub whole_of_one : (t : FlatTerm) → repeated (pieces_of goal) chosen ≡ t ∷ [] → IsWhole d goal chosen (Some t)
  whole_of_one t e = (ap (sum d goal.op) (sym e), λ none. let a = ap length e in let b = counted in omega arith)

  module _ (fits : FitsKinds d) (l : List FlatTerm) (is : l ≡ repeated (pieces_of goal) chosen) where
    flat : AllByRecursion (IsFlatOf d (kind d fit.rank.result)) l
    flat = subst (AllByRecursion (IsFlatOf d (kind d fit.rank.result))) (sym is) (each_repeated (IsFlatOf d (kind d fit.rank.result)) (pieces_of goal) chosen fit.pieces)

    pieces : AllByRecursion (IsPiece d goal.op) l
    pieces = subst (AllByRecursion (IsPiece d goal.op)) (sym is) (each_repeated (IsPiece d goal.op) (pieces_of goal) chosen fit.each_is_one)

    pub chosen_fit : AllFit d l
    chosen_fit = flat_fit d (kind d fit.rank.result) l flat

    pub chosen_taken : 2 ≤ length l → Takes d goal.op l
    chosen_taken two = takes_pieces d fits goal.op fit.associative fit.rank fit.listed l flat pieces two

    pub whole_of_many : 2 ≤ length l → (t : FlatTerm) → t ≡ build d goal.op l → IsWhole d goal chosen (Some t)
    whole_of_many two t e = (
      e ∙ built_is_sum d fits goal.op fit.associative fit.rank fit.listed l flat pieces two ∙ ap (sum d goal.op) is,
      λ none. let a = ap length is in let b = counted in omega arith,
    )
