-- One more rank.
use Rattle.std.proofs.Common.{arith}
use Rattle.std.proofs.lemmas.Option.{slice_get_within}
use Rattle.fvn_forms.specs.Ranks.{ranks_of}
use Rattle.fvn_refine.proofs.Greatest.{served_more}
use Rattle.fvn_refine.proofs.direct.are_served.Goals as goal

pub loop-i-init : goal.loop-i-init
loop-i-init c = λ j r later within e low. absurd (omega (arith, later, within))

pub loop-i-preserved : goal.loop-i-preserved
loop-i-preserved c =
    served_more c.args.sig.now c.args.s (ranks_of c.args.sig.now c.args.f) c.args.from c.loop-i.i c.rank.result.now c.args.args.now c.rank.ensures
    (c.is_served.ensures c.if-not-is_served.false) c.loop-i.invariant

pub returns : goal.returns
returns c = λ _ j r later e low.
    let within = slice_get_within (ranks_of c.args.sig.now c.args.f) j r e in
    c.loop-i.invariant j r later (omega (arith, within, c.loop-i-test.false, c.loop-i.auto.i-end, c.rank_count-i-end.ensures)) e low
