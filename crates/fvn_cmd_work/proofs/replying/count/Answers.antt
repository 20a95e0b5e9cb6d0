-- The end of the search, alone.
use Rattle.std.proofs.Common.{ap}
use Rattle.fvn_answer.specs.Writing.{bytes_of as lines_in}
use Rattle.fvn_cmd_work.proofs.Replied.{count-told}
use Rattle.fvn_cmd_work.proofs.replying.count.Goals as goal

pub returns : goal.returns
returns c =
    count-told c.args.declared.now c.args.problem.now c.in_ok-end.end c.in_ok-end.ensures.found _ (ap lines_in c.new-lines.ensures.items) _ c.in_ok-text.ensures _ c.status_of_end.ensures
