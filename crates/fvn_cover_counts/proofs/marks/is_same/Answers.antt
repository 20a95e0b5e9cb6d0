-- the words decide
use Rattle.fvn_cover_counts.proofs.MarkRefusals.{same_unkept}
use Rattle.fvn_cover_counts.proofs.marks.is_same.Goals as goal

pub returns : goal.returns
returns c = same_unkept c.args.a c.args.b
