-- One more number has the label.
use Rattle.std.proofs.Common.{get_or, refl}
use Rattle.fvn_module_names.proofs.ClassLemmas.{relabelled-more}
use Rattle.fvn_module_names.proofs.classes.relabel.Goals as goal

pub loop-i-preserved : goal.loop-i-preserved
loop-i-preserved c =
    relabelled-more c.args.labels.now c.loop-i.labels c.args.listed.now c.loop-i.i-index (get_or c.args.listed.now c.loop-i.i-index 0) c.args.label
    c.loop-i-test.true refl (c.requires c.loop-i.i-index 0 c.loop-i-test.true) c.loop-i.invariant
