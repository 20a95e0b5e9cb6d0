-- The last state is closed, and what it asks for is asked for.
use Rattle.fvn_combine.proofs.Trees.{closed_last}
use Rattle.fvn_combine.proofs.Inferring.{looked_last}
use Rattle.fvn_combine.proofs.looking.look.Goals as goal

pub look_at-requires : goal.look_at-requires
look_at-requires c = closed_last c.args.task.now c.args.tree.now c.in-Some.ensures.0 c.in-Some.state.now c.in-Some.ensures.1 c.requires

pub returns-after-not-is_fact : goal.returns-after-not-is_fact
returns-after-not-is_fact c = looked_last c.args.task.now c.args.tree.now c.in-Some.ensures.0 c.in-Some.state.now c.in-Some.ensures.1 c.in_ok-looked-in-Some.looked c.in_ok-looked-in-Some.ensures
