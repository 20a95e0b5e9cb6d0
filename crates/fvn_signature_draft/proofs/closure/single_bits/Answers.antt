-- The words of one bit, with one bit more.
use Rattle.std.proofs.Common.{◌^◌, arith, ◌<◌}
use Rattle.std.proofs.lemmas.Nat.{one_shl}
use Rattle.std.proofs.lemmas.List.FromFn.{map-range_with_len_more}
use Rattle.fvn_signature_draft.proofs.closure.single_bits.Goals as goal

pub loop-k-preserved : goal.loop-k-preserved
loop-k-preserved c =
    let few : c.loop-k.k < 64 = omega (arith, c.requires, c.loop-k-test.true) in
    rw (c.in_ok-push.ensures.items, c.loop-k.invariant, one_shl c.loop-k.k 64 few, map-range_with_len_more (λ k. 2 ^ k) 0 c.loop-k.k c.loop-k.k (omega arith))
