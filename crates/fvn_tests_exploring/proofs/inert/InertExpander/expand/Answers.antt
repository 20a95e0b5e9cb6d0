-- Nothing steps, so nothing has to lift.
use Rattle.fvn_tests_exploring.proofs.NoEquations.{no_list_step}
use Rattle.fvn_tests_exploring.proofs.inert.InertExpander.expand.Goals as goal

pub returns-clause-whole : goal.returns-clause-whole
returns-clause-whole c = λ is s keeps us l. absurd (no_list_step c.args.self.now.declarations.now _ us l)
