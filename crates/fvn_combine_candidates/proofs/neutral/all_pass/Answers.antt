-- One sort more, and in the end all of the kind.
use Rattle.std.proofs.Common.{refl, ap, arith}
use Rattle.std.proofs.lemmas.Bool.{iff_false}
use Rattle.fvn_combine_candidates.proofs.Absorbing.{more_pass, all_absorb}
use Rattle.fvn_combine_candidates.proofs.neutral.all_pass.Goals as goal

pub returns-then-not-passes : goal.returns-then-not-passes
returns-then-not-passes c = (λ e. cc, λ all. absurd (iff_false c.passes.ensures c.if-not-passes.true (all c.args.of)))

pub returns-then-not-passes-2 : goal.returns-then-not-passes-2
returns-then-not-passes-2 c = (λ e. cc, λ all. absurd (iff_false c.passes-in-loop-s.ensures c.if-not-passes-2.true (all (record { 0 = c.loop-s.s }))))

pub loop-s-preserved : goal.loop-s-preserved
loop-s-preserved c =
    more_pass c.args.sig.now c.args.f c.args.e c.args.of c.loop-s.s (record { 0 = c.loop-s.s }) refl c.loop-s.invariant (c.passes-in-loop-s.ensures.0 c.if-not-passes-2.false)

pub returns : goal.returns
returns c =
    let d = c.args.sig.now in (
      λ _. all_absorb d c.recall_good.ensures c.recall_completed.ensures c.args.f c.args.e c.args.of (c.passes.ensures.0 c.if-not-passes.false)
          (λ a l. c.loop-s.invariant a (let m = ap (λ k. k.sorts) c.declarations.ensures in let p = c.loop-s-test.false in omega (arith, l, m, p))),
      λ _. refl,
    )
