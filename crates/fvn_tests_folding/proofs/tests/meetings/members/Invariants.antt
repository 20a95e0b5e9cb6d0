-- the variants so far
use Rattle.std.specs.Prelude.{All}
use Rattle.fvn_tests_folding.specs.Nothing.{IsOfNothing}
use Rattle.fvn_tests_folding.proofs.tests.meetings.members.Given as goal

abbrev pub invariant-loop : goal.invariant-loop
invariant-loop l = All IsOfNothing l.all.items
