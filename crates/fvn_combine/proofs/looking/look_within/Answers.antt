-- What is read and known is handed on.
use Rattle.fvn_combine.proofs.looking.look_within.Goals as goal

pub look_inferred-requires : goal.look_inferred-requires
look_inferred-requires c = record { closed = c.requires.closed; reading = c.requires.reading; heads = c.requires.heads; sorted = c.requires.sorted }

pub look_further-requires : goal.look_further-requires
look_further-requires c = record { closed = c.requires.closed; reading = c.requires.reading; heads = c.requires.heads; sorted = c.requires.sorted }
