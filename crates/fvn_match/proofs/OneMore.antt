-- Sums and one more among them.
use Rattle.std.proofs.Common.{◌≡◌, ℕ, ◌+◌, ◌≤◌, zero, suc, List, [], ◌∷◌, length, drop, get_or, Option, refl, sym, ap, ◌∙◌, subst, arith}
use Rattle.std.specs.Prelude.{◌↔◌, Result, IfOk}
use Rattle.std.specs.List.{insert}
use Rattle.fvn_terms.specs.declared.plain.Var.{Var}
use Rattle.fvn_terms.specs.declared.declarations.Declarations.{Declarations}
use Rattle.fvn_flat.specs.Bindings.{Bindings}
use Rattle.fvn_match.specs.inner.Candidates.{Values, IsSolution, Finds}
use Rattle.fvn_match.specs.inner.Goals.{IsOneMore, SumHolds, SumsHold, SumFits, SumsFit, sum_weight, sums_weight}
use Rattle.fvn_match.specs.declared.goals.SumGoal.{SumGoal}
use Rattle.fvn_match.proofs.Finding.{if_found_same}

-- the first of some sums, and the others
pub first_parted : (sums : List SumGoal) (goal : SumGoal) → 1 ≤ length sums → goal ≡ get_or sums 0 goal → sums ≡ goal ∷ drop 1 sums
first_parted [] goal some is = absurd (omega arith)
first_parted (g ∷ sums) goal some is = ap (λ h. h ∷ sums) (sym is)

-- another name of the same sums
pub one_more_named : (goal : SumGoal) (sums all named : List SumGoal) → IsOneMore goal sums all → named ≡ all → IsOneMore goal sums named
one_more_named goal sums all named more e = (more.0, e ∙ more.1)

inserted_weight : (goal : SumGoal) (i : ℕ) (sums : List SumGoal) → sums_weight (insert sums i goal) ≡ sum_weight goal + sums_weight sums
inserted_weight goal zero sums = refl
inserted_weight goal (suc i) [] = refl
inserted_weight goal (suc i) (g ∷ sums) = let k = inserted_weight goal i sums in omega arith

-- the weights add up
pub more_weight : (goal : SumGoal) (sums all : List SumGoal) → IsOneMore goal sums all → sums_weight all ≡ sum_weight goal + sums_weight sums
more_weight goal sums all more = ap sums_weight more.1 ∙ inserted_weight goal more.0 sums

module _ (d : Declarations) (goal : SumGoal) where
  inserted_fit : (i : ℕ) (sums : List SumGoal) → SumFits d goal → SumsFit d sums → SumsFit d (insert sums i goal)
  inserted_fit zero sums fit rest = (fit, rest)
  inserted_fit (suc i) [] fit rest = (fit, rest)
  inserted_fit (suc i) (g ∷ sums) fit rest = (rest.0, inserted_fit i sums fit rest.1)

  -- where all of them fit
  pub more_fit : (sums all : List SumGoal) → IsOneMore goal sums all → SumFits d goal → SumsFit d sums → SumsFit d all
  more_fit sums all more fit rest = subst (SumsFit d) (sym more.1) (inserted_fit more.0 sums fit rest)

  inserted_hold : (i : ℕ) (sums : List SumGoal) (c : Values) → SumsHold d (insert sums i goal) c ↔ (SumHolds d goal c × SumsHold d sums c)
  inserted_hold zero sums c = (λ h. h, λ h. h)
  inserted_hold (suc i) [] c = (λ h. h, λ h. h)
  inserted_hold (suc i) (g ∷ sums) c =
      let k = inserted_hold i sums c in
      (λ h. let j = k.0 h.1 in (j.0, (h.0, j.1)), λ h. (h.1.0, k.1 (h.0, h.1.1)))

  -- they ask what it asks and what the others ask, in whatever order
  pub more_hold : (sums all : List SumGoal) → IsOneMore goal sums all → (c : Values) → SumsHold d all c ↔ (SumHolds d goal c × SumsHold d sums c)
  more_hold sums all more c = subst (λ l. SumsHold d l c ↔ (SumHolds d goal c × SumsHold d sums c)) (sym more.1) (inserted_hold more.0 sums c)

  pub found_more : (sums all : List SumGoal) → IsOneMore goal sums all → (b : Bindings) (vars : List Var) (X : Values → Type 0) → {E : Type 0} (r : Result (Option Bindings) E) →
      IfOk r (Finds vars (IsSolution d b (λ c. X c × SumsHold d all c))) → IfOk r (Finds vars (IsSolution d b (λ c. X c × (SumHolds d goal c × SumsHold d sums c))))
  found_more sums all more b vars X r f =
      if_found_same vars d b (λ c. X c × SumsHold d all c) (λ c. X c × (SumHolds d goal c × SumsHold d sums c))
      (λ c k a. let z = more_hold sums all more c in (λ h. (h.0, z.0 h.1), λ h. (h.0, z.1 h.1))) r f
