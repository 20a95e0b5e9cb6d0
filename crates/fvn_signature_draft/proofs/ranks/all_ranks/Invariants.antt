-- The invariant of the ranks of all operators.
use Rattle.std.proofs.Common.{◌≡◌, map}
use Rattle.std.specs.List.{range_with_len}
use Rattle.fvn_forms.specs.Ranks.{ranks_of}
use Rattle.fvn_signature_draft.specs.Collected.{op_number}
use Rattle.fvn_signature_draft.proofs.ranks.all_ranks.Given as goal

-- the operators so far
abbrev pub invariant-loop-op : goal.invariant-loop-op
invariant-loop-op l = l.all.items ≡ map (λ n. ranks_of l.declarations (op_number n)) (range_with_len 0 l.op)
