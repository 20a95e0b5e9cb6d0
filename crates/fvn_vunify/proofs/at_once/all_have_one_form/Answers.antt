-- Two more terms.
use Rattle.std.proofs.Common.{◌+◌, arith}
use Rattle.fvn_flat.specs.Fits.{Fits}
use Rattle.fvn_flat.proofs.Instances.{each_at}
use Rattle.fvn_vunify.proofs.AtOnce.{alike_more, alike_all}
use Rattle.fvn_vunify.proofs.at_once.all_have_one_form.Goals as goal

pub have_one_form-requires-clause-left : goal.have_one_form-requires-clause-left
have_one_form-requires-clause-left g c = λ κs w.
    each_at (Fits (g.E.Expander.setting c.args.expander.now).declarations) c.args.terms.now c.requires.terms c.loop-i.i c.index-terms-i.result (omega (arith, c.loop-i-test.true)) c.index-terms-i.is

pub have_one_form-requires-clause-right : goal.have_one_form-requires-clause-right
have_one_form-requires-clause-right g c = λ κs w.
    each_at (Fits (g.E.Expander.setting c.args.expander.now).declarations) c.args.terms.now c.requires.terms (c.loop-i.i + 1) c.index-terms-i-in-loop-i.result (omega (arith, c.loop-i-test.true)) c.index-terms-i-in-loop-i.is

pub loop-i-init : goal.loop-i-init
loop-i-init g c = record { within = omega arith; left = λ h. h }

pub loop-i-preserved : goal.loop-i-preserved
loop-i-preserved g c = record {
  within = omega (arith, c.loop-i-test.true);
  left = alike_more (g.E.Expander.setting c.args.expander.now) c.args.terms.now c.loop-i.i c.index-terms-i.result c.index-terms-i-in-loop-i.result (omega (arith, c.loop-i-test.true)) c.index-terms-i.is c.index-terms-i-in-loop-i.is
      (c.in_ok-alike.ensures c.if-not-alike.false) c.loop-i.invariant.left;
}

pub returns : goal.returns
returns g c = λ yes. alike_all (g.E.Expander.setting c.args.expander.now) c.args.terms.now c.loop-i.i (omega (arith, c.loop-i-test.false)) c.loop-i.invariant.left
