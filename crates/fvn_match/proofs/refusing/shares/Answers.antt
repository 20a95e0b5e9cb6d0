-- One number more.
use Rattle.std.proofs.Common.{◌≤◌, length, arith}
use Rattle.fvn_match.proofs.Copies.{quotients_le, quotients-drop, quotients-past}
use Rattle.fvn_match.proofs.refusing.shares.Goals as goal

pub loop-i-init : goal.loop-i-init
loop-i-init c = omega arith

pub overflow_add-n : goal.overflow_add-n
overflow_add-n c =
    let e = quotients-drop c.args.k c.args.ns.now c.loop-i.i 0 (omega arith) in
    let most = quotients_le c.args.k c.requires.some c.args.ns.now in
    omega (arith, e, most, c.loop-i.invariant, c.requires.small)

pub loop-i-preserved : goal.loop-i-preserved
loop-i-preserved c = let e = quotients-drop c.args.k c.args.ns.now c.loop-i.i 0 (omega arith) in omega (arith, e, c.loop-i.invariant)

pub returns : goal.returns
returns c =
    let past : length c.args.ns.now ≤ c.loop-i.i = omega arith in
    let e = quotients-past c.args.k c.args.ns.now c.loop-i.i past in
    omega (arith, e, c.loop-i.invariant)
