-- One more class.
use Rattle.std.proofs.Common.{◌≤◌, take_all, get_or, refl, subst, arith, zero-le}
use Rattle.std.specs.Prelude.{sum_by}
use Rattle.fvn_combine_inferring.specs.Rows.{many}
use Rattle.fvn_combine_inferring.proofs.Told.{count_more, count_same}
use Rattle.fvn_combine_inferring.proofs.bounds.count_summands.Goals as goal

pub loop-k-init : goal.loop-k-init
loop-k-init c = record { few = zero-le; least = λ values go. zero-le }

pub has_summand-requires-clause-within : goal.has_summand-requires-clause-within
has_summand-requires-clause-within c = c.requires.within c.loop-k.k-index 0 c.loop-k-test.true

pub loop-k-preserved : goal.loop-k-preserved
loop-k-preserved c =
    let xs = c.args.list.now in
    let i = c.loop-k.k-index in
    let n = c.loop-k.invariant.few in
    record {
      few = omega (arith, n);
      least = λ values go.
          count_more c.args.sig.now c.args.table.now c.args.state.now c.args.known.now.sorted c.args.addition.now.operator values xs i c.loop-k.count (get_or xs i 0) c.loop-k-test.true refl (c.has_summand.ensures c.if-not-has_summand.false values go) (c.loop-k.invariant.least values go);
    }

pub loop-k-preserved-then-not-has_summand : goal.loop-k-preserved-then-not-has_summand
loop-k-preserved-then-not-has_summand c =
    let n = c.loop-k.invariant.few in
    record {
      few = omega (arith, n);
      least = λ values go. count_same c.args.sig.now c.args.table.now c.args.state.now c.args.known.now.sorted c.args.addition.now.operator values c.args.list.now c.loop-k.k-index c.loop-k.count c.loop-k-test.true (c.loop-k.invariant.least values go);
    }

pub returns : goal.returns
returns c values go =
    subst (λ l. c.loop-k.count ≤ sum_by (many c.args.sig.now c.args.state.now c.args.addition.now.operator values) l) (take_all c.loop-k.k-index c.args.list.now c.loop-k-test.false) (c.loop-k.invariant.least values go)
