-- a member that is not covered stays
use Rattle.std.proofs.Common.{sym, ◌∙◌}
use Rattle.std.proofs.lemmas.Bool.{false≢true}
use Rattle.fvn_cover.specs.Covering.{CoversVariant}
use Rattle.fvn_cover.proofs.Leftovers.{left_gone, left_stays}
use Rattle.fvn_cover.proofs.pruning.without_covered.Goals as goal

pub loop-k-preserved-in_ok-push : goal.loop-k-preserved-in_ok-push
loop-k-preserved-in_ok-push c =
    rw c.in_ok-push.ensures.items (left_stays (CoversVariant c.args.sig.now c.args.v.now) c.loop-k.yielded c.loop-k.left.items c.in-Some.k c.loop-k.invariant (λ h. false≢true (sym c.if-not-branch.true ∙ c.in_ok-is_covering.ensures.1 h)))

pub loop-k-preserved : goal.loop-k-preserved
loop-k-preserved c =
    left_gone (CoversVariant c.args.sig.now c.args.v.now) c.loop-k.yielded c.loop-k.left.items c.in-Some.k c.loop-k.invariant (c.in_ok-is_covering.ensures.0 c.if-not-branch.false)
