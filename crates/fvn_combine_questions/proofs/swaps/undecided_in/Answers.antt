-- One more node; where node i has no swap, it is as partitions ask with all.
use Rattle.std.proofs.Common.{below_more}
use Rattle.fvn_combine_questions.specs.inner.Swaps.{AreDecided}
use Rattle.fvn_combine_questions.proofs.Swapping.{decided_from}
use Rattle.fvn_combine_questions.proofs.swaps.undecided_in.Goals as goal

pub loop-j-preserved : goal.loop-j-preserved
loop-j-preserved c = below_more (λ k. AreDecided c.args.sig.now c.args.table.now c.args.state.now c.args.i k) c.loop-j.j c.loop-j.invariant c.in-None.ensures

pub returns-then-not-is_commutative : goal.returns-then-not-is_commutative
returns-then-not-is_commutative c = λ j m f g ks ls left right.
    decided_from c.args.sig.now c.args.table.now c.args.state.now c.requires.closed c.args.i j f g ks ls left right
    (λ e is same a b v w p q. absurd (c.is_commutative.ensures c.if-not-is_commutative.true f ks left is)) f g ks ls left right
