-- one summand more
use Rattle.std.proofs.Common.{true, false, ◌∙◌, ◌≡◌, ◌+◌, ◌∷◌, [], ap, arith}
use Rattle.fvn_forms.specs.InOrder.{count}
use Rattle.fvn_match.specs.inner.Summands.{references, IsTakenAway}
use Rattle.fvn_match.proofs.Tallies.{count_take_more, count_take_le}
use Rattle.fvn_match.proofs.summands.take.Goals as goal

pub returns-then-not-take_one : goal.returns-then-not-take_one
returns-then-not-take_one c =
    let xs = references c.args.pieces.now in
    let us = c.summands-u-items.result.now in
    let i = c.loop-u.u-index in
    let u = c.u-item.result in
    let less : IsTakenAway xs c.loop-u.left.items c.take_one.new.left.items (u ∷ []) false = rw c.if-not-take_one.true at c.take_one.ensures in
    let q = less.0 in
    let a = c.loop-u.invariant.taken q in
    let b = count_take_more q us i u (omega arith) c.u-item.is in
    let e = count_take_le q us (i + 1) in
    let f : count q us ≡ count q _ = ap (count q) c.summands-u-items.ensures in
    (q, omega (arith, less.1))

pub loop-u-preserved : goal.loop-u-preserved
loop-u-preserved c =
    let xs = references c.args.pieces.now in
    let us = c.summands-u-items.result.now in
    let i = c.loop-u.u-index in
    let u = c.u-item.result in
    let done : IsTakenAway xs c.loop-u.left.items c.take_one.new.left.items (u ∷ []) true = rw c.if-not-take_one.false at c.take_one.ensures in
    record {
      long = done.0 ∙ c.loop-u.invariant.long;
      taken = λ q. let a = c.loop-u.invariant.taken q in let b = count_take_more q us i u (omega arith) c.u-item.is in let e = done.1 q in omega arith;
    }
