-- Why a search for unifiers in a theory stops at the pairs of a variant.
use Rattle.std.specs.Prelude.{◌≡◌, ◌≢◌, ◌⊎◌, Contains}
use Rattle.fvn_terms.specs.declared.plain.Var.{Var}
use Rattle.fvn_terms.specs.Term.{Term, var}
use Rattle.fvn_terms.specs.Substitution.{Substitution, apply}
use Rattle.fvn_terms.specs.Equality.{BEqual}
use Rattle.fvn_terms.specs.Unifiers.{Problem, IsUnifier}
use Rattle.fvn_forms.specs.Flat.{FlatTerm}
use Rattle.fvn_forms.specs.Canon.{canon}
use Rattle.fvn_flat.specs.Drawn.{OccursInValues}
use Rattle.fvn_flat.specs.Problems.{variables_of}
use Rattle.fvn_flat.specs.Successors.{Narrowed, OccursIn, IsRenamed}
use Rattle.fvn_flat.specs.declared.solver.Pairs.{Pairs}
use Rattle.fvn_cover.specs.declared.variant.Variant.{Variant}
use Rattle.fvn_exploring.specs.declared.ends.ExpandEnd.{ExpandEnd}
use Rattle.fvn_exploring.specs.declared.ends.ExpandEnd.TheVariants.{Whole, Steps, Size, Basis, Unifiers}
use Rattle.fvn_exploring.specs.Setting.{Setting}
use Rattle.fvn_exploring.specs.Children.{narrowed}
use Rattle.fvn_exploring.specs.Causes.{IsStepsCause, IsSizeCause, IsSystemCause, IsUnifiersCause}
use Rattle.fvn_vunify.specs.Sides.{two_by_two, problem_over}

-- The problem asks to make the variant's terms equal two by two, the variant's variables perhaps renamed.
pub record IsPairsProblem (g : Setting) (v : Variant) (given : Pairs) : Type 0 where
  pub from : Narrowed
  pub renamed_before : IsRenamed g.declarations v.vars (narrowed v) from
  pub is : given.pairs ≡ two_by_two from.terms

-- On the variant's variables s is what the variant makes of them, its variables perhaps renamed, and then a unifier
-- that is drawn for its terms two by two; this moves the variables of these terms alone, to terms over new ones.
pub record IsDrawnSolution (g : Setting) (drawn : Problem → Substitution → Type 0) (v : Variant)
    (s : Substitution) : Type 0 where
  pub from : Narrowed
  pub renamed_before : IsRenamed g.declarations v.vars (narrowed v) from
  pub unifier : Substitution
  pub problem : Problem
  pub is_problem : problem ≡ problem_over from.terms
  pub unifies : IsUnifier g.declarations problem unifier
  pub is_drawn : drawn problem unifier
  pub others_stay : (x : Var) → (Contains (variables_of problem) x → ⊥) → unifier x ≡ var x
  pub new : (x : Var) → OccursInValues (variables_of problem) unifier x → OccursIn g.declarations v.vars from x → ⊥
  pub values : (x : Var) → Contains v.vars x → BEqual g.declarations (s x) (apply unifier (from.values x))

-- the flat form of what a drawn solution of the variant's pairs makes of one of its variables, or of a fixed term
pub record IsOfSolution (g : Setting) (drawn : Problem → Substitution → Type 0) (v : Variant)
    (t : FlatTerm) : Type 0 where
  pub by : Substitution
  pub solution : IsDrawnSolution g drawn v by
  pub is : ((x : Var) × Contains v.vars x × (t ≡ canon g.declarations (by x)))
      ⊎ ((w : Term) × Contains g.fixed w × (t ≡ canon g.declarations (apply by w)))

module _ (g : Setting) (drawn : Problem → Substitution → Type 0) (v : Variant) where
  -- why the pairs of v were not solved to the end
  abbrev pub IsPairsCause : ExpandEnd → Type 0
  IsPairsCause Whole = Unit {0}
  IsPairsCause (Steps start end) = IsStepsCause g drawn (IsPairsProblem g v) (IsOfSolution g drawn v) start end
  IsPairsCause (Size cause) = IsSizeCause g drawn (IsPairsProblem g v) (IsOfSolution g drawn v) cause
  IsPairsCause (Basis f system) = IsSystemCause g drawn (IsPairsProblem g v) (IsOfSolution g drawn v) f system
  IsPairsCause (Unifiers given list) = IsUnifiersCause g drawn (IsPairsProblem g v) (IsOfSolution g drawn v) given list

  -- the pairs of v meet a bound
  pub record MeetsBound : Type 0 where
    pub end : ExpandEnd
    pub not_whole : end ≢ Whole
    pub cause : IsPairsCause end
