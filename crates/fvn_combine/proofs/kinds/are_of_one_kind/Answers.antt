-- Classes are of one kind each where the nodes that name them are of the kinds of their members.
use Rattle.fvn_combine.proofs.OneKind.{of_one_kind, each_of_its_kind}
use Rattle.fvn_combine.proofs.kinds.are_of_one_kind.Goals as goal

pub returns : goal.returns
returns c = (
  λ e. of_one_kind c.args.task.now c.recall.ensures c.args.state.now c.requires (c.are_of_their_kinds.ensures.0 e),
  λ h. c.are_of_their_kinds.ensures.1 (each_of_its_kind c.args.task.now c.recall.ensures c.args.state.now c.requires h),
)
