-- The terms so far may be fixed.
use Rattle.std.proofs.Common.{take}
use Rattle.std.specs.Prelude.{All}
use Rattle.fvn_tests_vunify.specs.Asked.{IsFixable}
use Rattle.fvn_tests_vunify.proofs.tests.fixed.are_fixable.Given as goal

abbrev pub invariant-loop-t : goal.invariant-loop-t
invariant-loop-t g l = All (IsFixable (g.E.Expander.setting l.expander) l.first) (take l.t-index l.terms)
