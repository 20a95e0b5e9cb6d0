-- The pairs of the first statements are joined.
use Rattle.std.proofs.Common.{take, length}
use Rattle.std.specs.List.{range_with_len}
use Rattle.fvn_module_names.specs.inner.Joining.{IsJoinedBy}
use Rattle.fvn_module_names.proofs.Partitions.{all_pairs}
use Rattle.fvn_module_names.proofs.order.join_statements.Given as goal

-- the pairs of the first statements are joined
abbrev pub invariant-loop-statement : goal.invariant-loop-statement
invariant-loop-statement l = IsJoinedBy (range_with_len 0 (length l.sorts)) l.classes (all_pairs l.sorts (take l.statement-index l.statements))
