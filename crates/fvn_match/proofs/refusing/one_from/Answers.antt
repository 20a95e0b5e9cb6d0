-- None, or one.
use Rattle.std.proofs.Common.{arith}
use Rattle.fvn_match.proofs.refusing.one_from.Goals as goal

pub returns-then-m-k : goal.returns-then-m-k
returns-then-m-k c = omega arith

pub returns-else-m-k : goal.returns-else-m-k
returns-else-m-k c = omega arith
