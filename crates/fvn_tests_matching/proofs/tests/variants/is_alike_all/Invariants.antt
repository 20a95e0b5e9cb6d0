-- The variants so far are alike.
use Rattle.std.proofs.Common.{take}
use Rattle.std.specs.Prelude.{All}
use Rattle.fvn_cover.specs.Covering.{AreAlike}
use Rattle.fvn_tests_matching.proofs.tests.variants.is_alike_all.Given as goal

abbrev pub invariant-loop-b : goal.invariant-loop-b
invariant-loop-b l = All (AreAlike l.a) (take l.b-index l.list)
