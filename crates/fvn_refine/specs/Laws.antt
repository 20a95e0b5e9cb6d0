-- The law of refinements.
use Rattle.std.specs.Prelude.{List, Any}
use Rattle.fvn_terms.specs.declared.plain.Var.{Var}
use Rattle.fvn_terms.specs.declared.declarations.Declarations.{Declarations}
use Rattle.fvn_terms.specs.Substitution.{Substitution}
use Rattle.fvn_terms.specs.Sorts.{IsWellSorted}
use Rattle.fvn_terms.specs.Unifiers.{IsInstance}
use Rattle.fvn_forms.specs.Good.{IsGood}
use Rattle.fvn_flat.specs.Bindings.{Bindings, BindingsFit}
use Rattle.fvn_flat.specs.Solving.{substitution}
use Rattle.fvn_refine.specs.Refinements.{AreBound, HaveKindsAsSorts, AreRefinements, IsCoveredOnKinds}

-- A well-sorted substitution that is covered on kinds is an instance of one of the refinements.
abbrev pub RefinementsCover : Type 0
RefinementsCover =
    (d : Declarations) → IsGood d → (vars : List Var) (s : Bindings) → BindingsFit d s → AreBound d vars s → HaveKindsAsSorts d vars s →
    (rs : List Bindings) → AreRefinements d vars s rs → (u : Substitution) → IsWellSorted d u → IsCoveredOnKinds d vars s u →
    Any (λ r. IsInstance d vars u (substitution r)) rs
