-- The arguments so far, the form so far, and the measures of the recursion.
use Rattle.std.proofs.Common.{◌+◌, ◌*◌}
use Rattle.fvn_theory.specs.Equations.{equations_of}
use Rattle.fvn_rewrite.specs.inner.Making.{IsReachedFrom}
use Rattle.fvn_rewrite.proofs.InsideAxioms.{ArePartlyReached}
use Rattle.fvn_rewrite.proofs.inside.+inside.Given as goal

abbrev pub decreases-inside_all : goal.decreases-inside_all
decreases-inside_all l = 4 * l.depth

abbrev pub decreases-arguments_first : goal.decreases-arguments_first
decreases-arguments_first l = 4 * l.depth + 1

abbrev pub decreases-settle : goal.decreases-settle
decreases-settle l = 4 * l.depth + 2

abbrev pub decreases-inside : goal.decreases-inside
decreases-inside l = 4 * l.depth + 3

abbrev pub invariant-inside_all-loop-t : goal.invariant-inside_all-loop-t
invariant-inside_all-loop-t l = ArePartlyReached l.pass.sig.now (equations_of l.pass.rules.now.equations) l.ts l.t-index l.fn.left l.forms.items l.spare

abbrev pub decreases-settle-loop-now : goal.decreases-settle-loop-now
decreases-settle-loop-now l = l.now.left

abbrev pub invariant-settle-loop-now : goal.invariant-settle-loop-now
invariant-settle-loop-now l = IsReachedFrom l.pass.sig.now (equations_of l.pass.rules.now.equations) l.fn.start.form l.fn.start.left l.now.form l.now.left
