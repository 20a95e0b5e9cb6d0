-- Where one row ends, the longer one comes later.
use Rattle.std.proofs.Common.{◌≡◌, length, inl, inr}
use Rattle.std.specs.Prelude.{◌⊎◌}
use Rattle.fvn_refine.proofs.InOrder.{before_ended}
use Rattle.fvn_refine.proofs.ordering.is_before.Goals as goal

pub returns : goal.returns
returns c =
    let r = c.loop-v.v-iterator.a.rest.now in
    let q = c.loop-v.v-iterator.b.rest.now in
    let ended : (length r ≡ 0) ⊎ (length q ≡ 0) = elim c.in-None.ensures.steps [ inl p ↦ inl p.1.0 | inr p ↦ inr p.1.0 ] in
    before_ended c.args.row.now c.args.other.now r q c.loop-v.invariant.longer ended c.loop-v.invariant.decide
