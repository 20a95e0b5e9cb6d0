-- What `conclude` promises and requires, where the search does not find it.
use Rattle.std.proofs.Common.{subst}
use Rattle.fvn_cmd.specs.Texts.{bytes_of}
use Rattle.fvn_cmd.specs.Statuses.{IsSpoken}
use Rattle.fvn_tool.proofs.Outcomes.{outcome_spoken, leaves_whole, spoken_not_silent}
use Rattle.fvn_tool.proofs.top.conclude.Goals as goal

pub returns-in-Ok-write_all-clause-outcome : goal.returns-in-Ok-write_all-clause-outcome
returns-in-Ok-write_all-clause-outcome g c = leaves_whole _ c.in-Ok.answer.status (bytes_of c.in-Ok.answer.text) _ (outcome_spoken c.in-Ok.ensures.outcome) c.in-Ok.ensures.outcome (rw (← c.as_slice.ensures) c.in-Ok-write_all.ensures.ok)

pub returns-in-Ok-write_all-clause-unwritten : goal.returns-in-Ok-write_all-clause-unwritten
returns-in-Ok-write_all-clause-unwritten g c h = absurd (spoken_not_silent c.in-Ok.answer.status (outcome_spoken c.in-Ok.ensures.outcome) h)

pub returns-in-Ok-write_all-clause-read_fault : goal.returns-in-Ok-write_all-clause-read_fault
returns-in-Ok-write_all-clause-read_fault g c e = absurd (subst IsSpoken e (outcome_spoken c.in-Ok.ensures.outcome))

pub returns-in-Ok-write_all-clause-no_read_fault : goal.returns-in-Ok-write_all-clause-no_read_fault
returns-in-Ok-write_all-clause-no_read_fault g c never e = subst IsSpoken e (outcome_spoken c.in-Ok.ensures.outcome)

pub returns-in-Ok-write_all-clause-write_fault : goal.returns-in-Ok-write_all-clause-write_fault
returns-in-Ok-write_all-clause-write_fault g c e = absurd (subst IsSpoken e (outcome_spoken c.in-Ok.ensures.outcome))

pub returns-in-Ok-write_all-clause-no_write_fault : goal.returns-in-Ok-write_all-clause-no_write_fault
returns-in-Ok-write_all-clause-no_write_fault g c never e = subst IsSpoken e (outcome_spoken c.in-Ok.ensures.outcome)
