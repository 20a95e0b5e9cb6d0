-- a marked candidate is left out, another one is added
use Rattle.std.proofs.Common.{refl}
use Rattle.fvn_fold.proofs.levels.with_candidate.Goals as goal

pub returns-then-mark : goal.returns-then-mark
returns-then-mark c = rw c.if-mark.true refl

pub returns : goal.returns
returns c = rw c.if-mark.false c.in_ok-after.ensures
