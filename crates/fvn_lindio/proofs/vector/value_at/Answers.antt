-- One coefficient more, in numbers that fit.
use Rattle.std.proofs.Common.{ℤ, pos, ◌≤◌, ◌*◌, ◌+◌, get_or, take, sym, subst, arith}
use Rattle.fvn_lindio.specs.Systems.{above, below}
use Rattle.fvn_lindio.specs.inner.Search.{IsValue}
use Rattle.fvn_lindio.proofs.ValueLemmas.{value-more, value-more_size, value_read}
use Rattle.fvn_lindio.proofs.vector.value_at.Goals as goal

pub loop-i-preserved : goal.loop-i-preserved
loop-i-preserved c =
    let row = c.args.row.now in
    let x = c.args.x.now in
    let i = c.loop-i.i in
    let v = c.loop-i.value in
    let coefficient = get_or row i (pos 0) in
    let part = get_or x i 0 in
    let bound = c.requires.bounded i (pos 0) c.loop-i-test.true in
    let narrow : part ≤ 65535 = c.requires.narrow i 0 (omega arith) in
    let so_far = subst (λ (z : ℤ). IsValue (take i row) x z × (above z ≤ i * 4294836225) × (below z ≤ i * 4294836225)) c.loop-i.value-is c.loop-i.invariant in
    let sizes = value-more_size v coefficient part i bound narrow so_far.1 so_far.2 in
    let e = value_read v coefficient part c.loop-i.value-bits c.from.result bound narrow (omega (arith, so_far.1)) (omega (arith, so_far.2)) (sym c.loop-i.value-is) c.from.ensures in
    subst (λ (z : ℤ). IsValue (take (i + 1) row) x z × (above z ≤ (i + 1) * 4294836225) × (below z ≤ (i + 1) * 4294836225)) (sym e) (value-more row x i v c.loop-i-test.true so_far.0, sizes.0, sizes.1)
