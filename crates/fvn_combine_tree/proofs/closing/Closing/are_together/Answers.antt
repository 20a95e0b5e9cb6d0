-- At a place where they differ they are not together.
use Rattle.std.proofs.Common.{◌<◌, length, get_or, refl, sym, ◌∙◌, arith}
use Rattle.std.proofs.lemmas.List.{get_or_default}
use Rattle.fvn_combine_nodes.specs.States.{class_of}
use Rattle.fvn_combine_tree.specs.inner.Closing.{state_of}
use Rattle.fvn_combine_tree.proofs.Alike.{together-at, together-from}
use Rattle.fvn_combine_tree.proofs.closing.Closing.are_together.Goals as goal

pub returns-then-index : goal.returns-then-index
returns-then-index c = (
  λ e. cc,
  λ h.
      let names = c.args.self.now.names.items in
      let t = c.loop-i-test.true in
      let u : c.loop-i.i < length c.args.ls.now = let n = c.if-ks-ls.false in omega arith in
      let k = get_or c.args.ks.now c.loop-i.i 0 in
      let l = get_or c.args.ls.now c.loop-i.i 0 in
      let a = get_or_default names k c.index.result.now 0 (c.requires.left c.loop-i.i 0 t) in
      let b = get_or_default names l c.index-in-loop-i.result.now 0 (c.requires.right c.loop-i.i 0 u) in
      absurd (c.if-index.true (c.index.ensures ∙ a ∙ together-at (class_of (state_of c.args.self.now)) c.args.ks.now c.args.ls.now h c.loop-i.i t u ∙ sym b ∙ sym c.index-in-loop-i.ensures)),
)

pub returns : goal.returns
returns c =
    let end = c.loop-i-test.false in (
      λ e. together-from (class_of (state_of c.args.self.now)) c.args.ks.now c.args.ls.now c.if-ks-ls.false (λ k l. c.loop-i.invariant k (omega arith)),
      λ h. refl,
    )
