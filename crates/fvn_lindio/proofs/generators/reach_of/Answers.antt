-- One point more, and all of them in the end.
use Rattle.std.proofs.Common.{◌≡◌, ◌*◌, ◌≤◌, arith, ap, ◌∙◌, sym, subst, FitsSigned, w64, rules}
use Rattle.std.specs.Prelude.{unsigned_abs}
use Rattle.std.proofs.lemmas.Int.{to_z-of_z}
use Rattle.fvn_lindio.specs.Systems.{above, below}
use Rattle.fvn_lindio.specs.declared.level.Point.{Point}
use Rattle.fvn_lindio.proofs.ValueLemmas.{above-le}
use Rattle.fvn_lindio.proofs.ReachLemmas.{reach_more, reach_all}
use Rattle.fvn_lindio.proofs.generators.reach_of.Goals as goal

pub loop-p-preserved : goal.loop-p-preserved
loop-p-preserved c =
    let p = c.p-item.result in
    let i = c.loop-p.p-index in
    let fits : FitsSigned w64 p.value = search rules in
    let e = to_z-of_z w64 p.value fits in
    let down : c.fall.result ≡ below p.value = c.fall.ensures ∙ ap below e in
    let up : c.rise.result ≡ above p.value = c.rise.ensures ∙ ap above e in
    let size : unsigned_abs p.value ≤ 1000 * 65535 * 65535 = subst (λ (q : Point). unsigned_abs q.value ≤ 1000 * 65535 * 65535) (sym c.p-item.is) (c.requires i p c.loop-p-test.true) in
    let sizes = above-le p.value (1000 * 65535 * 65535) size in (
      reach_more below c.args.points.now i p c.loop-p.low c.max-low.result c.loop-p-test.true c.p-item.is (omega arith) (omega arith) c.loop-p.invariant.0,
      reach_more above c.args.points.now i p c.loop-p.high c.max-high.result c.loop-p-test.true c.p-item.is (omega arith) (omega arith) c.loop-p.invariant.1,
      omega (arith, sizes.1),
      omega (arith, sizes.0),
    )

pub returns-clause-low : goal.returns-clause-low
returns-clause-low c = reach_all below c.args.points.now c.loop-p.p-index c.loop-p.low c.loop-p-test.false c.loop-p.invariant.0

pub returns-clause-high : goal.returns-clause-high
returns-clause-high c = reach_all above c.args.points.now c.loop-p.p-index c.loop-p.high c.loop-p-test.false c.loop-p.invariant.1
