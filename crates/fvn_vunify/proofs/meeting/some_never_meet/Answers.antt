-- Two more terms.
use Rattle.std.proofs.Common.{◌+◌, arith}
use Rattle.fvn_flat.specs.Fits.{Fits}
use Rattle.fvn_flat.proofs.Instances.{each_at}
use Rattle.fvn_vunify.proofs.Apart.{left_more, some_here}
use Rattle.fvn_vunify.proofs.meeting.some_never_meet.Goals as goal

pub clash-apart-requires : goal.clash-apart-requires
clash-apart-requires c = record {
  first = each_at (Fits c.args.sig.now) c.args.terms.now c.requires c.loop-i.i c.index-terms-i.result (omega (arith, c.loop-i-test.true)) c.index-terms-i.is;
  second = each_at (Fits c.args.sig.now) c.args.terms.now c.requires (c.loop-i.i + 1) c.index-terms-i-in-loop-i.result (omega (arith, c.loop-i-test.true)) c.index-terms-i-in-loop-i.is;
}

pub loop-i-init : goal.loop-i-init
loop-i-init c = record { within = omega arith; left = λ p m. m }

pub returns-then-apart : goal.returns-then-apart
returns-then-apart c = λ yes.
    some_here c.args.terms.now c.loop-i.i c.index-terms-i.result c.index-terms-i-in-loop-i.result (omega (arith, c.loop-i-test.true)) c.index-terms-i.is c.index-terms-i-in-loop-i.is c.loop-i.invariant.left
    c.args.sig.now (c.clash-apart.ensures c.if-apart.true)

pub loop-i-preserved : goal.loop-i-preserved
loop-i-preserved c = record {
  within = omega (arith, c.loop-i-test.true);
  left = left_more c.args.terms.now c.loop-i.i c.index-terms-i.result c.index-terms-i-in-loop-i.result (omega (arith, c.loop-i-test.true)) c.index-terms-i.is c.index-terms-i-in-loop-i.is c.loop-i.invariant.left;
}
