-- Another head, or an argument without an instance; one term more.
use Rattle.std.proofs.Common.{All, sym, ◌∙◌, subst, inl, inr, arith}
use Rattle.std.proofs.lemmas.Bool.{false≢true}
use Rattle.std.proofs.lemmas.List.{take_all}
use Rattle.std.proofs.lemmas.List.Elements.{All-more}
use Rattle.fvn_flat.specs.Fits.{Fits}
use Rattle.fvn_flat.proofs.Instances.{each_at}
use Rattle.fvn_flat.proofs.Smaller.{places_at}
use Rattle.fvn_match.specs.inner.Heads.{IsLost}
use Rattle.fvn_match.proofs.KeptHeads.{args_have_fewer, lost_by_head, lost_by_argument}
use Rattle.fvn_match.proofs.heads.+keep.Goals as goal

pub may_keep-returns-then-not-headed : goal.may_keep-returns-then-not-headed
may_keep-returns-then-not-headed t c = λ e.
    lost_by_head c.args.sig.now c.recall_good.ensures.fits c.args.p.now c.args.f c.requires.kept c.requires.pattern c.args.t.now
    (λ h. false≢true (sym c.if-not-headed.true ∙ c.is_headed-headed.ensures.1 h))

pub may_keep-may_stand-stays-requires : goal.may_keep-may_stand-stays-requires
may_keep-may_stand-stays-requires t c =
    let d = c.args.sig.now in (
      omega (arith, args_have_fewer c.args.t.now c.args-ts.result.now c.args-ts.ensures.exact),
      (
        each_at (Fits d) c.args-ps.result.now (c.args-ps.ensures.fit d c.recall_good.ensures.fits c.requires.pattern) c.loop-q.q-index c.q-item.result c.loop-q-test.true c.q-item.is,
        c.args-ts.ensures.fit d c.recall_good.ensures.fits c.requires.target,
      ),
    )

pub may_keep-returns-then-not-stays : goal.may_keep-returns-then-not-stays
may_keep-returns-then-not-stays t c = λ e.
    lost_by_argument c.args.sig.now c.recall_good.ensures.fits c.args.p.now c.args.f c.requires.kept c.requires.pattern c.args.t.now c.requires.target
    c.args-ps.result.now c.args-ts.result.now c.args-ps.ensures.exact c.args-ts.ensures.exact
    c.loop-q.q-index c.q-item.result c.loop-q-test.true c.q-item.is (c.may_stand-stays.ensures c.if-not-stays.true)

pub may_stand-may_keep-may-requires : goal.may_stand-may_keep-may-requires
may_stand-may_keep-may-requires t c =
    let d = c.args.sig.now in
    let ts = c.args.ts.now in (
      omega (arith, places_at ts c.loop-u.u-index c.u-item.result c.loop-u-test.true c.u-item.is),
      (rw c.in-Some.is at c.kept_head.ensures, (c.requires.pattern, each_at (Fits d) ts c.requires.targets c.loop-u.u-index c.u-item.result c.loop-u-test.true c.u-item.is)),
    )

pub may_stand-loop-u-preserved : goal.may_stand-loop-u-preserved
may_stand-loop-u-preserved t c =
    let P = IsLost c.args.sig.now c.args.q.now in
    All-more P c.args.ts.now c.loop-u.u-index c.u-item.result c.loop-u-test.true c.loop-u.invariant (subst P c.u-item.is (c.may_keep-may.ensures c.if-may.false))

pub may_stand-returns-then-few : goal.may_stand-returns-then-few
may_stand-returns-then-few t c = λ e. record {
  head = c.in-Some.g;
  kept = rw c.in-Some.is at c.kept_head.ensures;
  lost = inr (omega (arith, c.if-few.true, c.count_headed.ensures, c.count_headed-in-Some.ensures));
}

pub may_stand-returns-after-loop-u : goal.may_stand-returns-after-loop-u
may_stand-returns-after-loop-u t c = λ e. record {
  head = c.in-Some.g;
  kept = rw c.in-Some.is at c.kept_head.ensures;
  lost = inl (subst (All (IsLost c.args.sig.now c.args.q.now)) (take_all c.loop-u.u-index c.args.ts.now c.loop-u-test.false) c.loop-u.invariant);
}
