-- All nodes are checked.
use Rattle.std.proofs.Common.{◌<◌, subst}
use Rattle.fvn_combine_loose.specs.Loose.{height_of}
use Rattle.fvn_combine_loose.proofs.Checked.{loose_from, positive}
use Rattle.fvn_combine_loose.proofs.checking.is_loose.Goals as goal

pub returns : goal.returns
returns c t =
    let bottom : 0 < height_of c.args.state.now c.args.heights.now c.args.z = subst (λ n. 0 < n) c.height_at.ensures (positive c.height_at.result c.if-height_at-eq0.false) in
    loose_from c.args.sig.now c.args.table.now c.args.state.now c.args.marks.now c.args.heights.now c.args.z c.requires.fine (c.is_built.ensures t) c.requires.bottom bottom
