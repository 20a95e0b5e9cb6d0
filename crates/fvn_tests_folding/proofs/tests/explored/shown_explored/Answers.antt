-- no term is fixed
use Rattle.fvn_tests_folding.proofs.Members.{any_start}
use Rattle.fvn_tests_folding.proofs.tests.explored.shown_explored.Goals as goal

pub explore-requires-clause-fixed : goal.explore-requires-clause-fixed
explore-requires-clause-fixed g c lives order = any_start (g.E.Expander.setting c.args.expander.now) c.requires.fixed _
