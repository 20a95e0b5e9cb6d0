-- The members of the refinements.
use Rattle.fvn_axunify.proofs.Sorted.{are_bound}
use Rattle.fvn_axunify.proofs.Covering.{all_members, with_refined}
use Rattle.fvn_axunify.proofs.members.with_refinements.Goals as goal

pub refine-requires-clause-bound : goal.refine-requires-clause-bound
refine-requires-clause-bound c =
    are_bound c.args.task.now.sig.now c.args.task.now.problem.now c.args.task.now.vars.now c.args.task.now.first c.args.task.now.limits.size c.requires.asked c.args.g.now c.requires.given

pub with_each-requires-clause-members : goal.with_each-requires-clause-members
with_each-requires-clause-members c =
    all_members c.args.task.now.sig.now c.args.task.now.problem.now c.args.task.now.vars.now c.args.task.now.first c.args.task.now.limits.size c.requires.asked c.args.g.now c.requires.given
    c.in_ok-more.more.items c.in_ok-more.ensures.exact c.in_ok-more.ensures.fit c.in_ok-more.ensures.sorts

pub returns : goal.returns
returns c =
    with_refined c.args.task.now.sig.now c.args.task.now.problem.now c.args.task.now.vars.now c.args.task.now.first c.args.task.now.limits.size c.requires.asked c.args.g.now c.requires.given
    c.in_ok-more.more.items c.in_ok-more.ensures.exact c.refinements_cover.ensures c.args.task.now.limits.unifiers c.args.kept c.in_ok-after.after c.in_ok-after.ensures
