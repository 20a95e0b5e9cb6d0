-- An answer without lines is the line of its end.
use Rattle.fvn_cmd_verify.proofs.Told.{last_line}
use Rattle.fvn_cmd_verify.proofs.telling.tell_end.Goals as goal

pub returns-clause-text : goal.returns-clause-text
returns-clause-text c = last_line c.args.declared.now c.args.end.now c.in_ok-text.text.items (rw c.new.ensures.items at c.in_ok-text.ensures)
