-- A pattern without variables is its own value.
use Rattle.std.proofs.Common.{refl}
use Rattle.fvn_match.proofs.known.own_value.Goals as goal

pub returns-then-is_closed : goal.returns-then-is_closed
returns-then-is_closed c = (c.is_closed.ensures c.if-is_closed.true, refl)
