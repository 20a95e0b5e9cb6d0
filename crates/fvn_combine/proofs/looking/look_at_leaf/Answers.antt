-- An open leaf covers one that stands for each unifier that its state admits.
use Rattle.fvn_combine.proofs.Opening.{is_ready, covers_admitted, covers_one}
use Rattle.fvn_combine.proofs.looking.look_at_leaf.Goals as goal

pub open-requires-clause-ready : goal.open-requires-clause-ready
open-requires-clause-ready c = is_ready c.args.task.now c.recall.ensures c.args.state.now c.args.labels.items c.requires.leaf c.requires.kinds

pub returns : goal.returns
returns c =
    let all = covers_admitted c.args.task.now c.recall.ensures c.args.state.now c.sorted_unifiers_go_with.ensures c.sorted_leaves_cover.ensures c.readings_tell.ensures c.bases_make_systems.ensures c.alive_bases_make_alive.ensures c.in_ok-leaf.leaf c.in_ok-leaf.ensures.opened c.in_ok-leaf.ensures.all in (
      c.in_ok-leaf.ensures.opened,
      covers_one c.args.task.now c.recall.ensures c.args.state.now c.more_general_is_a_preorder.ensures c.loose_classes_are_variables.ensures c.in_ok-leaf.leaf c.in_ok-leaf.ensures.opened all,
      c.in_ok-leaf.ensures.few,
    )
