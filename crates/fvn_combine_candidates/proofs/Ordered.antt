-- Wheels over minimal solutions.
use Rattle.std.proofs.Common.{◌≡◌, ℕ, List, sym, subst}
use Rattle.std.specs.Prelude.{Option}
use Rattle.fvn_terms.specs.declared.plain.OpId.{OpId}
use Rattle.fvn_terms.specs.declared.declarations.Declarations.{Declarations}
use Rattle.fvn_lindio.specs.declared.system.Solution.{Solution}
use Rattle.fvn_acunify.specs.declared.theory.OneTheory.{OneTheory}
use Rattle.fvn_combine_nodes.specs.Table.{NodeTable}
use Rattle.fvn_combine_leaves.specs.declared.reading.Sums.{Sums}
use Rattle.fvn_combine_choices.specs.Binding.{AreAsked}
use Rattle.fvn_acunify_product.specs.Wheels.{Wheel}
use Rattle.fvn_combine_candidates.specs.Turning.{IsFullFor, IsWheel}

-- the choices among the minimal solutions are a wheel over them
pub wheel_is : (d : Declarations) (t : NodeTable) (class : ℕ → ℕ) (tag : ℕ → Option OpId) (e : Sums) (basis : List Solution) → (y : OneTheory) → AreAsked d t class tag e.operator e.columns y.constants y.may_be_zero
    → (w : Wheel) → w.basis ≡ basis → w.constants ≡ y.constants → w.may_be_zero ≡ y.may_be_zero → IsFullFor d t class e w.full → IsWheel d t class tag e basis w
wheel_is d t class tag e basis y asked w over constants marks full = record {
  over = over;
  asked = subst (λ cs. AreAsked d t class tag e.operator e.columns cs w.may_be_zero) (sym constants) (subst (AreAsked d t class tag e.operator e.columns y.constants) (sym marks) asked);
  full = full;
}
