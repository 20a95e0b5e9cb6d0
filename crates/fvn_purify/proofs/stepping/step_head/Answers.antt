-- One more head.
use Rattle.fvn_purify.specs.Parts.{outline}
use Rattle.fvn_purify.proofs.Stepped.{head_step}
use Rattle.fvn_purify.proofs.stepping.step_head.Goals as goal

pub returns : goal.returns
returns c =
    head_step c.args.sig.now (outline c.args.classes.now) c.requires.fit c.args.leaf.now c.requires.leaf c.as_slice.result.now c.as_slice.ensures c.len.result c.len.ensures c.as_slice-2.result.now c.as_slice-2.ensures
    c.in_ok-options.options.items c.as_slice-3.result.now c.in_ok-options.ensures c.as_slice-3.ensures.value c.in_ok-list.list c.in_ok-list.ensures c.requires.more
