-- One first summand more.
use Rattle.std.proofs.Common.{◌+◌, subst}
use Rattle.std.specs.Prelude.{length}
use Rattle.fvn_flat.specs.Forms.{args_of}
use Rattle.fvn_rewrite_rules.specs.Given.{headed}
use Rattle.fvn_narrow.specs.inner.Pairing.{StandsAgain}
use Rattle.fvn_narrow.specs.inner.Turns.{IsTryFrom, IsTryBefore, ForEach, TryLifts}
use Rattle.fvn_narrow.proofs.Joined.{more_found, so_far_so, try_grows}
use Rattle.fvn_narrow.proofs.Two.{first_more, first_pairs_again}
use Rattle.fvn_narrow.proofs.summing.at_pairs.Goals as goal

pub loop-i-preserved-then-again : goal.loop-i-preserved-then-again
loop-i-preserved-then-again g c =
    let n = c.args.tools.now in
    let r = n.rewriter.now in
    let unifiers = g.S.Solves.most_unifiers n.solver.now in
    let v = c.args.start.now.variant in
    let ts = args_of c.args.sum.now.at.now in
    let rules = headed r.rules c.args.f in
    let i = c.loop-i.i in
    let again : StandsAgain ts 0 i = subst (λ l. StandsAgain l 0 i) c.args-ts.ensures.exact (c.stands_again-again.ensures c.if-again.true) in
    so_far_so r unifiers (g.S.Solves.drawn n.solver.now) v (ForEach (TryLifts r unifiers v) (IsTryBefore c.args.f ts rules i)) (ForEach (TryLifts r unifiers v) (IsTryBefore c.args.f ts rules (i + 1))) c.loop-i.children.items
    (λ h try k. h try (first_pairs_again c.args.f ts rules i again try k)) c.loop-i.invariant

pub loop-i-preserved : goal.loop-i-preserved
loop-i-preserved g c =
    let n = c.args.tools.now in
    let unifiers = g.S.Solves.most_unifiers n.solver.now in
    let may = g.S.Solves.drawn n.solver.now in
    let v = c.args.start.now.variant in
    let r = n.rewriter.now in
    let ts = args_of c.args.sum.now.at.now in
    let rules = headed r.rules c.args.f in
    let i = c.loop-i.i in
    more_found r unifiers may v (TryLifts r unifiers v) (try_grows r unifiers v)
    (IsTryBefore c.args.f ts rules i) (IsTryFrom c.args.f ts rules (i, length ts)) (IsTryBefore c.args.f ts rules (i + 1)) (first_more c.args.f ts rules i)
    c.loop-i.children.items c.in_ok-next.next c.in_ok-all.all.items c.in_ok-all.end c.loop-i.invariant c.in_ok-next.ensures c.in_ok-all.ensures (c.is_whole.ensures.0 c.if-not-is_whole.false)
