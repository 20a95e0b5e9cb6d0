-- Nothing is noted at first; then what one more node contains.
use Rattle.std.proofs.Common.{◌<◌, length, sym, subst}
use Rattle.std.proofs.lemmas.List.Elements.{All-nil}
use Rattle.fvn_combine_inferring.specs.inner.Sizes.{IsSaid, AreSaid, size}
use Rattle.fvn_combine_inferring.proofs.sizes.insides.Goals as goal

pub loop-i-init : goal.loop-i-init
loop-i-init c values go = subst (AreSaid (size c.args.state.now values)) (sym c.new-list.ensures.items) (All-nil (IsSaid (size c.args.state.now values)))

pub note_node-requires-clause-within : goal.note_node-requires-clause-within
note_node-requires-clause-within c = subst (λ ns. c.loop-i.i < length ns) c.nodes-i-end.ensures c.loop-i-test.true
