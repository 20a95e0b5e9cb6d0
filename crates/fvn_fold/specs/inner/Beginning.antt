-- How an exploration begins.
use Rattle.std.specs.Prelude.{List, []}
use Rattle.std.specs.List.{AllZip}
use Rattle.fvn_terms.specs.declared.plain.Var.{Var}
use Rattle.fvn_terms.specs.Substitution.{Substitution}
use Rattle.fvn_terms.specs.Unifiers.{Problem}
use Rattle.fvn_forms.specs.Flat.{FlatTerm, fpack}
use Rattle.fvn_flat.specs.Bindings.{Bindings, IsInstanceBy}
use Rattle.fvn_flat.specs.Fits.{Fits}
use Rattle.fvn_flat.specs.Variables.{with_all_variables}
use Rattle.fvn_rewrite_laws.specs.Normalised.{IsForm}
use Rattle.fvn_exploring.specs.declared.ends.ExploreEnd.{ExploreEnd}
use Rattle.fvn_exploring.specs.declared.ends.ExploreEnd.TheVariants.{Complete, Levels, Variants, Steps, Size, Basis, Unifiers}
use Rattle.fvn_exploring.specs.Setting.{Setting}
use Rattle.fvn_exploring.specs.Causes.{IsStepsCause, IsSizeCause}
use Rattle.fvn_exploring.specs.LevelRuns.{IsStart}
use Rattle.fvn_exploring.specs.Explorations.{IsPosed, IsTold}
use Rattle.fvn_fold.specs.declared.beginning.Begun.{Begun}
use Rattle.fvn_fold.specs.declared.beginning.Begun.TheVariants.{Start, End}
use Rattle.fvn_fold.specs.declared.beginning.Rested.{Rested}
use Rattle.fvn_fold.specs.declared.beginning.Rested.TheVariants.{Forms, End as RestedEnd}

-- the variables of the forms, each once, in order of first occurrence
abbrev pub variables_of_forms : List FlatTerm → List Var
variables_of_forms ts = with_all_variables (fpack ts) []

-- u is a normal form of t, renamed
pub record IsRenamedForm (g : Setting) (names : Bindings) (t u : FlatTerm) : Type 0 where
  pub form : FlatTerm
  pub is_form : IsForm g.declarations g.equations t g.bounds form
  pub renamed : IsInstanceBy g.declarations names form u
  pub fits : Fits g.declarations u

-- an end that comes before anything is kept
abbrev pub IsEarlyEnd : Setting → (Problem → Substitution → Type 0) → List FlatTerm → ExploreEnd → Type 0
IsEarlyEnd g drawn start Complete = ⊥
IsEarlyEnd g drawn start (Levels v) = ⊥
IsEarlyEnd g drawn start (Variants v) = ⊥
IsEarlyEnd g drawn start (Steps from to) = IsStepsCause g drawn (IsPosed g []) (IsTold g drawn start []) from to
IsEarlyEnd g drawn start (Size cause) = IsSizeCause g drawn (IsPosed g []) (IsTold g drawn start []) cause
IsEarlyEnd g drawn start (Basis f system) = ⊥
IsEarlyEnd g drawn start (Unifiers given list) = ⊥

module _ (g : Setting) (drawn : Problem → Substitution → Type 0) (start : List FlatTerm) where
  -- the normal forms of all, renamed, or why one has none
  abbrev pub AreRested : Bindings → Rested → Type 0
  AreRested names (Forms terms) = AllZip (IsRenamedForm g names) start terms.items
  AreRested names (RestedEnd end) = IsEarlyEnd g drawn start end

  -- the first variant, or why there is none
  abbrev pub IsBegun : Begun → Type 0
  IsBegun (Start v) = IsStart g start v
  IsBegun (End end) = IsEarlyEnd g drawn start end
