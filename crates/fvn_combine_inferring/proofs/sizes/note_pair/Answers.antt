-- One pair more.
use Rattle.std.proofs.Common.{sym, subst}
use Rattle.fvn_combine_inferring.specs.inner.Sizes.{AreInside}
use Rattle.fvn_combine_inferring.proofs.Pairing.{one_pair}
use Rattle.fvn_combine_inferring.proofs.sizes.note_pair.Goals as goal

pub returns : goal.returns
returns c =
    subst (AreInside c.args.sig.now c.args.table.now c.args.state.now c.args.sorted) (sym c.in_ok-push.ensures.items)
    (one_pair c.args.sig.now c.args.table.now c.args.state.now c.requires.closed c.args.sorted c.args.pair c.requires.pair c.class_of-small.result c.class_of-large.result c.class_of-small.ensures c.class_of-large.ensures c.args.list.now.items c.requires.list)
