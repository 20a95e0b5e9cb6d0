-- What a search has found when it ends.
use Rattle.std.specs.Prelude.{◌≡◌, ◌<◌, ℕ, List, length}
use Rattle.fvn_terms.specs.declared.plain.Var.{Var}
use Rattle.fvn_terms.specs.declared.declarations.Declarations.{Declarations}
use Rattle.fvn_terms.specs.Substitution.{Substitution}
use Rattle.fvn_terms.specs.Unifiers.{IsUnifier}
use Rattle.fvn_flat.specs.Solving.{problem_of, IsTooLarge}
use Rattle.fvn_flat.specs.declared.solver.Pairs.{Pairs}
use Rattle.fvn_flat.specs.declared.solver.SolveEnd.{SolveEnd}
use Rattle.fvn_flat.specs.declared.solver.SolveEnd.TheVariants.{Complete, Basis, Unifiers, Size}
use Rattle.fvn_flat.specs.declared.solver.SizeCause.TheVariants.{Problem, Binding, Term}
use Rattle.fvn_cover.specs.declared.variant.Variant.{Variant}
use Rattle.fvn_axunify.specs.Coarser.{HoldsCoarser}
use Rattle.fvn_axunify.specs.inner.Members.{AreKept, IsReached}

module _ (d : Declarations) (given : Pairs) (vars : List Var) where
  -- the end of a search that has found these, none too large from the start
  abbrev pub IsEndOf : (most size : ℕ) → List Variant → SolveEnd → Type 0
  IsEndOf most size kept Complete = (length kept < most) × ((u : Substitution) → IsUnifier d (problem_of given) u → IsReached d given vars kept u)
  IsEndOf most size kept (Basis f system) = (length kept < most) × HoldsCoarser d given (IsReached d given vars kept) f system
  IsEndOf most size kept Unifiers = length kept ≡ most
  IsEndOf most size kept (Size (Problem p)) = ⊥
  IsEndOf most size kept (Size (Binding list)) = (length kept < most) × IsTooLarge d given size list.bindings
  IsEndOf most size kept (Size (Term t)) = ⊥

  -- unifiers, none an instance of another, and an end
  pub record IsFound (first most size : ℕ) (kept : List Variant) (end : SolveEnd) : Type 0 where
    pub are : AreKept d given vars first kept
    pub end_of : IsEndOf most size kept end
