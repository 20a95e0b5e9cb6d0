-- The operators that are meant, with one operator more.
use Rattle.std.proofs.Common.{sym, arith}
use Rattle.std.proofs.lemmas.List.FromFn.{map-range_with_len_more}
use Rattle.fvn_signature_draft.specs.Collected.{operator_meant, declarations_of, op_number}
use Rattle.fvn_signature_draft.proofs.completing.completed.Goals as goal

pub loop-op-preserved : goal.loop-op-preserved
loop-op-preserved c =
    let more = map-range_with_len_more (λ n. operator_meant c.args.collected.now (declarations_of c.args.collected.now (op_number n))) 0 c.loop-op.op c.loop-op.op (omega arith) in
    rw (c.in_ok-push.ensures.items, c.loop-op.invariant, c.in_ok-operator.ensures) (sym more)
