-- All heads are different.
use Rattle.fvn_combine_inferring.proofs.EitherHead.{either_differ}
use Rattle.fvn_combine_inferring.proofs.possible.are_headed_apart.Goals as goal

pub returns-in-Some-possible_heads : goal.returns-in-Some-possible_heads
returns-in-Some-possible_heads c t =
    either_differ c.args.sig.now c.args.table.now c.args.state.now c.args.known.now.sorted c.args.i c.args.j c.in-Some.p c.in-Some-possible_heads.q c.in-Some.ensures c.in-Some-possible_heads.ensures (c.are_unlike.ensures t)
