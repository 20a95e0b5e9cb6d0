-- The variants so far are alike all others.
use Rattle.std.proofs.Common.{take}
use Rattle.std.specs.Prelude.{All}
use Rattle.fvn_cover.specs.Covering.{AreAlike}
use Rattle.fvn_tests_matching.proofs.tests.variants.are_all_alike.Given as goal

abbrev pub invariant-loop-a : goal.invariant-loop-a
invariant-loop-a l = All (λ a. All (AreAlike a) l.others) (take l.a-index l.list)
