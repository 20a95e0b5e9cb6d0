-- The invariant of the ranks of an operator's declarations.
use Rattle.std.proofs.Common.{◌≡◌, map, take}
use Rattle.std.specs.Prelude.{filter}
use Rattle.fvn_signature_draft.specs.Collected.{rank_meant, same_op}
use Rattle.fvn_signature_draft.proofs.completing.operator.Given as goal

-- the ranks so far
abbrev pub invariant-loop-declaration : goal.invariant-loop-declaration
invariant-loop-declaration l = l.ranks.items ≡ map (rank_meant l.collected) (filter (λ e. same_op e.op l.op) (take l.declaration-index l.declaration-items))
