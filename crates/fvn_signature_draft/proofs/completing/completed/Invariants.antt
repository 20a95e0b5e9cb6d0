-- The invariant of the operators that are meant.
use Rattle.std.proofs.Common.{◌≡◌, map}
use Rattle.std.specs.List.{range_with_len}
use Rattle.fvn_signature_draft.specs.Collected.{operator_meant, declarations_of, op_number}
use Rattle.fvn_signature_draft.proofs.completing.completed.Given as goal

-- the operators so far
abbrev pub invariant-loop-op : goal.invariant-loop-op
invariant-loop-op l = l.ops.items ≡ map (λ n. operator_meant l.collected (declarations_of l.collected (op_number n))) (range_with_len 0 l.op)
