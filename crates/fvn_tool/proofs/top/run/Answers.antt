-- The report of a run follows from its outcome.
use Rattle.std.proofs.Common.{ap}
use Rattle.fvn_tool.proofs.Claims.{report}
use Rattle.fvn_tool.proofs.top.run.Goals as goal

pub returns-clause-report : goal.returns-clause-report
returns-clause-report g c =
    report c.verdicts_are_exact.ensures c.answers_are_exact.ensures c.explored_answers_are_exact.ensures c.questions_are_determined.ensures _ c.conclude.ensures.outcome
    c.conclude.ensures.read_fault c.conclude.ensures.write_fault
    c.conclude.ensures.usage (λ none. ap g.S.Source.left (c.conclude.ensures.unread none))
    (λ silent. ap g.K.Sink.written (c.conclude.ensures.unwritten silent)) c.conclude.ensures.failed_read c.conclude.ensures.failed_write
