-- One pair more.
use Rattle.std.proofs.Common.{◌+◌, subst}
use Rattle.fvn_flat.specs.Forms.{args_of}
use Rattle.fvn_rewrite_rules.specs.Given.{headed}
use Rattle.fvn_narrow.specs.inner.Pairing.{StandsAgain}
use Rattle.fvn_narrow.specs.inner.Turns.{IsTryAt, IsTryFrom, ForEach, TryLifts}
use Rattle.fvn_narrow.proofs.Joined.{more_found, so_far_so, try_grows}
use Rattle.fvn_narrow.proofs.Two.{pair_more, pair_again}
use Rattle.fvn_narrow.proofs.summing.at_pairs_from.Goals as goal

pub loop-j-preserved-then-again : goal.loop-j-preserved-then-again
loop-j-preserved-then-again g c =
    let n = c.args.tools.now in
    let r = n.rewriter.now in
    let unifiers = g.S.Solves.most_unifiers n.solver.now in
    let v = c.args.start.now.variant in
    let ts = args_of c.args.sum.now.at.now in
    let rules = headed r.rules c.args.f in
    let i = c.args.i in
    let j = c.loop-j.j in
    let again : StandsAgain ts (i + 1) j = subst (λ l. StandsAgain l (i + 1) j) c.args-ts.ensures.exact (c.stands_again-again.ensures c.if-again.true) in
    so_far_so r unifiers (g.S.Solves.drawn n.solver.now) v (ForEach (TryLifts r unifiers v) (IsTryFrom c.args.f ts rules (i, j))) (ForEach (TryLifts r unifiers v) (IsTryFrom c.args.f ts rules (i, j + 1))) c.loop-j.children.items
    (λ h try k. h try (pair_again c.args.f ts rules i j again try k)) c.loop-j.invariant

pub loop-j-preserved : goal.loop-j-preserved
loop-j-preserved g c =
    let n = c.args.tools.now in
    let unifiers = g.S.Solves.most_unifiers n.solver.now in
    let may = g.S.Solves.drawn n.solver.now in
    let v = c.args.start.now.variant in
    let r = n.rewriter.now in
    let ts = args_of c.args.sum.now.at.now in
    let rules = headed r.rules c.args.f in
    let i = c.args.i in
    let j = c.loop-j.j in
    more_found r unifiers may v (TryLifts r unifiers v) (try_grows r unifiers v)
    (IsTryFrom c.args.f ts rules (i, j)) (IsTryAt c.args.f ts rules (i, j)) (IsTryFrom c.args.f ts rules (i, j + 1)) (pair_more c.args.f ts rules i j)
    c.loop-j.children.items c.in_ok-next.next c.in_ok-all.all.items c.in_ok-all.end c.loop-j.invariant c.in_ok-next.ensures c.in_ok-all.ensures (c.is_whole.ensures.0 c.if-not-is_whole.false)
