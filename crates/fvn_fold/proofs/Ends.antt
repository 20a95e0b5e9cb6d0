-- Why an exploration ends, from why the expansion of a member does.
use Rattle.std.proofs.Common.{◌≡◌, List, inr}
use Rattle.std.specs.Prelude.{Contains}
use Rattle.fvn_terms.specs.Substitution.{Substitution}
use Rattle.fvn_terms.specs.Unifiers.{Problem}
use Rattle.fvn_forms.specs.Flat.{FlatTerm}
use Rattle.fvn_flat.specs.declared.solver.Pairs.{Pairs}
use Rattle.fvn_flat.specs.declared.solver.SizeCause.{SizeCause}
use Rattle.fvn_flat.specs.declared.solver.SizeCause.TheVariants.{Problem as OfProblem, Binding, Term as OfTerm}
use Rattle.fvn_exploring.specs.declared.limits.Limits.{Limits}
use Rattle.fvn_exploring.specs.declared.ends.Deep.{Deep}
use Rattle.fvn_exploring.specs.declared.ends.ExpandEnd.{ExpandEnd}
use Rattle.fvn_exploring.specs.declared.ends.ExpandEnd.TheVariants.{Whole, Steps, Size, Basis, Unifiers}
use Rattle.fvn_exploring.specs.declared.ends.Explored.{Explored}
use Rattle.fvn_exploring.specs.Setting.{Setting}
use Rattle.fvn_exploring.specs.Causes.{IsSizeCause, IsOfSuccessor, IsNarrowingProblem}
use Rattle.fvn_exploring.specs.Expansions.{IsExpandCause}
use Rattle.fvn_exploring.specs.Explorations.{IsPosed, IsTold, IsExploreCause}
use Rattle.fvn_exploring.specs.Ends.{explore_end}
use Rattle.fvn_fold.proofs.Gathers.{any_member}

module _ (g : Setting) (drawn : Problem → Substitution → Type 0) (start : List FlatTerm) (kept : List Deep) (m : Deep) (listed : Contains kept m) where
  posed : (given : Pairs) → IsNarrowingProblem g m.variant given → IsPosed g kept given
  posed given h = any_member (λ m. IsNarrowingProblem g m.variant given) kept m listed h

  told : (t : FlatTerm) → IsOfSuccessor g drawn m.variant t → IsTold g drawn start kept t
  told t h = inr (any_member (λ m. IsOfSuccessor g drawn m.variant t) kept m listed h)

  size_cause : (cause : SizeCause) → IsSizeCause g drawn (IsNarrowingProblem g m.variant) (IsOfSuccessor g drawn m.variant) cause → IsSizeCause g drawn (IsPosed g kept) (IsTold g drawn start kept) cause
  size_cause (OfProblem given) h = (posed given h.0, h.1)
  size_cause (Binding list) h = record { given = h.given; posed = posed h.given h.posed; large = h.large }
  size_cause (OfTerm end) h = record { start = h.start; told = told h.start h.told; steps = h.steps; reached = h.reached; large = h.large }

  pub member_cause : (limits : Limits) (x : Explored) → x.kept ≡ kept → (end : ExpandEnd) → IsExpandCause g drawn m.variant end → IsExploreCause g drawn start limits x (explore_end end)
  member_cause limits x is Whole h = tt
  member_cause limits x is (Steps from to) h = rw is record { told = told from h.told; fits = h.fits; reached = h.reached; reducible = h.reducible }
  member_cause limits x is (Size cause) h = rw is (size_cause cause h)
  member_cause limits x is (Basis f system) h = rw is record { given = h.given; posed = posed h.given h.posed; basis = h.basis }
  member_cause limits x is (Unifiers given list) h = rw is record { posed = posed given h.posed; many = h.many; unifiers = h.unifiers; are_drawn = h.are_drawn; apart = h.apart }
