-- The arguments so far, the operator so far, and the measures of the recursion.
use Rattle.std.proofs.Common.{◌+◌, ◌*◌}
use Rattle.fvn_terms.specs.Term.{app}
use Rattle.fvn_theory.specs.Equations.{equations_of}
use Rattle.fvn_rewrite.specs.inner.SortedTerms.{terms_of}
use Rattle.fvn_rewrite.proofs.InsideOut.{ArePartlyMade, IsSettling}
use Rattle.fvn_rewrite.proofs.making.+make.Given as goal

abbrev pub decreases-make_all : goal.decreases-make_all
decreases-make_all l = 4 * l.depth

abbrev pub decreases-turn : goal.decreases-turn
decreases-turn l = 4 * l.depth + 1

abbrev pub decreases-settle : goal.decreases-settle
decreases-settle l = 4 * l.depth + 2

abbrev pub decreases-make : goal.decreases-make
decreases-make l = 4 * l.depth + 3

abbrev pub invariant-make_all-loop-p : goal.invariant-make_all-loop-p
invariant-make_all-loop-p l = ArePartlyMade l.pass.sig.now (equations_of l.pass.rules.now.equations) l.bound l.ps l.p-index l.fn.left l.values.items l.spare

abbrev pub decreases-settle-loop-value : goal.decreases-settle-loop-value
decreases-settle-loop-value l = l.spare

abbrev pub invariant-settle-loop-value : goal.invariant-settle-loop-value
invariant-settle-loop-value l = IsSettling l.pass.sig.now (equations_of l.pass.rules.now.equations) (app l.fn.f (terms_of l.fn.args.items)) l.fn.left l.head l.now.items l.spare
