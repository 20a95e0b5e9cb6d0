-- One more rank.
use Rattle.std.proofs.Common.{sym, ◌∙◌, arith}
use Rattle.std.proofs.lemmas.Bool.{false≢true}
use Rattle.std.proofs.lemmas.Option.{slice_get_within}
use Rattle.fvn_forms.specs.Ranks.{ranks_of}
use Rattle.fvn_refine.proofs.Greatest.{none_passed}
use Rattle.fvn_refine.proofs.direct.first_low.Goals as goal

pub loop-i-init : goal.loop-i-init
loop-i-init c = λ j r later within e low. absurd (omega (arith, later, within))

pub loop-i-preserved : goal.loop-i-preserved
loop-i-preserved c =
    none_passed c.args.sig.now c.args.s (ranks_of c.args.sig.now c.args.f) c.args.from c.loop-i.i c.rank.result.now c.rank.ensures
    (λ h. false≢true (sym c.if-leq.false ∙ c.leq.ensures.1 h)) c.loop-i.invariant

pub returns-then-leq : goal.returns-then-leq
returns-then-leq c = record { at = c.rank.result.now; is = c.rank.ensures; low = c.leq.ensures.0 c.if-leq.true; before = c.loop-i.invariant }

pub returns : goal.returns
returns c = λ j r later e low.
    let within = slice_get_within (ranks_of c.args.sig.now c.args.f) j r e in
    c.loop-i.invariant j r later (omega (arith, within, c.loop-i-test.false, c.loop-i.auto.i-end, c.rank_count-i-end.ensures)) e low
