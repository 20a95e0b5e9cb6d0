-- The line of a fault.
use Rattle.std.proofs.Common.{refl}
use Rattle.fvn_cmd_terminates.proofs.Told.{fault_line}
use Rattle.fvn_cmd_terminates.proofs.replying.tell_fault.Goals as goal

pub returns-clause-text : goal.returns-clause-text
returns-clause-text c =
    fault_line c.args.declared.now c.args.declared.now.signature _ refl c.names.ensures c.args.fault.now c.in_ok-text.text.items _ c.in_ok-text.ensures
    c.in_ok-answer.ensures.text
