-- A leaf with all heads and ways is one split.
use Rattle.std.proofs.Common.{◌≤◌, ◌∙◌, length, sym, subst, arith}
use Rattle.fvn_purify.specs.Parts.{outline}
use Rattle.fvn_purify.specs.Cursor.{IsAheadOf}
use Rattle.fvn_purify.specs.inner.Choices.{IsSound, IsLeaf}
use Rattle.fvn_purify.proofs.Leaves.{leaf_whole}
use Rattle.fvn_purify.proofs.stepping.take_step.Goals as goal

pub returns-in_ok-split-in-Choosing : goal.returns-in_ok-split-in-Choosing
returns-in_ok-split-in-Choosing c split =
    let d = c.args.sig.now in
    let o = outline c.args.classes.now in
    let l = c.in-Choosing.leaf in
    let sound : IsLeaf d o l = subst (IsSound d o) c.in-Choosing.is c.requires.sound in
    let heads : length o.places.headed ≤ length l.heads = let a = c.if-len.false in let e = c.len.ensures in let f = c.len-in-Choosing.ensures in omega arith in
    let swaps : length o.places.pairs ≤ length l.swaps = let a = c.if-len-2.false in let e = c.len-in-Choosing-2.ensures in let f = c.len-in-Choosing-3.ensures in omega arith in
    let h = leaf_whole d o c.requires.fit l sound heads swaps split in (
      λ k. h.0 (subst (λ p. IsAheadOf d o p split) c.in-Choosing.is k) ∙ sym c.in_ok-split-in-Choosing.ensures,
      λ e. subst (λ p. IsAheadOf d o p split) (sym c.in-Choosing.is) (h.1 (e ∙ c.in_ok-split-in-Choosing.ensures)),
    )
