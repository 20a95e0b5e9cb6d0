-- One more rank.
use Rattle.std.proofs.Common.{◌≤◌, [], length, sym, subst, arith}
use Rattle.fvn_forms.specs.Ranks.{ranks_of}
use Rattle.fvn_refine.specs.inner.Found.{AreArguments}
use Rattle.fvn_refine.proofs.Steps.{arguments_none, arguments_more, arguments_all}
use Rattle.fvn_refine.proofs.arguments.arguments.Goals as goal

pub loop-i-init : goal.loop-i-init
loop-i-init c =
    subst (AreArguments c.args.sig.now c.args.s []) (sym c.new-rows.ensures.items) (arguments_none c.args.sig.now c.args.s (ranks_of c.args.sig.now c.args.f))

pub loop-i-preserved : goal.loop-i-preserved
loop-i-preserved c =
    arguments_more c.args.sig.now c.args.s (ranks_of c.args.sig.now c.args.f) c.loop-i.i c.rank.result.now c.rank.ensures
    c.loop-i.rows.items c.in_ok-rows.rows.items c.loop-i.invariant c.in_ok-rows.ensures

pub returns : goal.returns
returns c =
    let past : length (ranks_of c.args.sig.now c.args.f) ≤ c.loop-i.i = omega (arith, c.loop-i-test.false, c.loop-i.auto.i-end, c.rank_count-i-end.ensures) in
    arguments_all c.args.sig.now c.args.s (ranks_of c.args.sig.now c.args.f) c.loop-i.i c.loop-i.rows.items past c.loop-i.invariant
