-- nothing is new, or an expansion was not whole
use Rattle.std.proofs.Common.{inr}
use Rattle.fvn_fold.proofs.Rounds.{none_left, over_or_whole}
use Rattle.fvn_fold.proofs.exploring.is_over.Goals as goal

pub returns-then-is_empty : goal.returns-then-is_empty
returns-then-is_empty c = inr (none_left c.args.level.now.next c.is_empty.result c.is_empty.ensures c.if-is_empty.true)

pub returns : goal.returns
returns c = over_or_whole c.args.level.now.next.items c.args.level.now.end c.is_whole.result c.is_whole.ensures
