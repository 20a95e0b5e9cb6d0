-- The code is that of the run's status.
use Rattle.std.proofs.Common.{◌∙◌}
use Rattle.fvn.proofs.program.Goals as goal

pub returns-clause-report : goal.returns-clause-report
returns-clause-report g c = (c.run-status.result, c.from.ensures ∙ c.exit_number.ensures, c.run-status.ensures.report, c.run-status.ensures.unwritten)
