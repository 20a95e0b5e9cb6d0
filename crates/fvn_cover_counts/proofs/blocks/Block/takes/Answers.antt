-- the same operators
use Rattle.std.proofs.lemmas.Bool.{false≢true}
use Rattle.fvn_cover_counts.proofs.blocks.Block.takes.Goals as goal

pub returns-then-not-has_room : goal.returns-then-not-has_room
returns-then-not-has_room c = λ t. absurd (false≢true t)

pub returns : goal.returns
returns c = λ t. c.is_like.ensures.0 t
