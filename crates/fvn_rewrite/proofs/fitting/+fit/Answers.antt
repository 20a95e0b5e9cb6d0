-- One more pattern, and a pattern whose arguments are fitted.
use Rattle.std.proofs.Common.{◌≡◌, ◌<◌, length, Some, sym, subst, arith}
use Rattle.std.proofs.lemmas.Option.{IfSome_then}
use Rattle.fvn_flat.specs.Fits.{Fits}
use Rattle.fvn_flat.proofs.Instances.{each_at}
use Rattle.fvn_flat.proofs.Smaller.{places_at}
use Rattle.fvn_rewrite.specs.inner.SortedTerms.{operator_of, IsValue}
use Rattle.fvn_rewrite.specs.inner.Fitting.{AreValues, IsFreeHead}
use Rattle.fvn_rewrite.proofs.Seen.{args_fall}
use Rattle.fvn_rewrite.proofs.Values.{parts_are_values}
use Rattle.fvn_rewrite.proofs.Bound.{fitted_whole, fitted_more}
use Rattle.fvn_rewrite.proofs.fitting.+fit.Goals as goal

pub fit-fit_all-requires : goal.fit-fit_all-requires
fit-fit_all-requires t c =
    let d = c.args.sig.now in (
      omega (arith, args_fall c.args.p.now c.args-in-None.result.now c.args-in-None.ensures.exact),
      (c.args-in-None.ensures.fit d c.recall_good.ensures.fits c.requires.pattern, (subst (AreValues d) (sym c.args-in-None-2.ensures) (parts_are_values d c.args.v.now c.requires.value), c.requires.bindings)),
    )

pub fit-returns-in_ok-all-in-None : goal.fit-returns-in_ok-all-in-None
fit-returns-in_ok-all-in-None t c =
    let d = c.args.sig.now in
    let b = c.args.bound.items in
    let f = c.in-Some-free_head.f in
    let head : IsFreeHead d c.args.p.now f = rw c.in-Some-free_head.is at c.free_head.ensures in
    let heads : operator_of c.args.v.now ≡ Some f = c.is_headed_by-headed.ensures c.if-not-headed.false in
    IfSome_then c.in_ok-all-in-None.all c.in_ok-all-in-None.ensures
    (λ all j. fitted_whole d c.args.p.now f c.args.v.now b all.items c.args-in-None.result.now c.args-in-None-2.result.now c.args-in-None.ensures.exact c.args-in-None-2.ensures head c.requires.pattern.flat heads j)

pub fit_all-fit-requires : goal.fit_all-fit-requires
fit_all-fit-requires t c =
    let d = c.args.sig.now in
    let ps = c.args.ps.now in
    let vs = c.args.vs.now in
    let room : c.loop-i.i < length vs = omega (arith, c.loop-i-test.true, c.if-vs-count.false) in (
      omega (arith, places_at ps c.loop-i.i c.index-ps-i.result c.loop-i-test.true c.index-ps-i.is),
      (each_at (Fits d) ps c.requires.patterns c.loop-i.i c.index-ps-i.result c.loop-i-test.true c.index-ps-i.is, (each_at (IsValue d) vs c.requires.values c.loop-i.i c.index-vs-i.result room c.index-vs-i.is, c.loop-i.invariant.bindings)),
    )

pub fit_all-loop-i-preserved : goal.fit_all-loop-i-preserved
fit_all-loop-i-preserved t c =
    let vs = c.args.vs.now in
    let room : c.loop-i.i < length vs = omega (arith, c.loop-i-test.true, c.if-vs-count.false) in
    fitted_more c.args.sig.now c.args.ps.now vs c.loop-i.i c.index-ps-i.result c.index-vs-i.result c.args.bound.items c.loop-i.all.items c.in-Some.more.items c.loop-i-test.true room c.index-ps-i.is c.index-vs-i.is c.loop-i.invariant (rw c.in-Some.is at c.in_ok-next.ensures)
