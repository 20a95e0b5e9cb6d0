-- The place of the new sum.
use Rattle.std.proofs.Common.{refl}
use Rattle.fvn_match.proofs.waiting.with_sum.Goals as goal

pub returns : goal.returns
returns c = (c.place-i.result, rw (c.in_ok-insert.ensures.items, c.in_ok-extend_from_slice.ensures.items, c.in_ok-all.ensures.items) refl)
