-- The pairs that are left decide.
use Rattle.std.proofs.Common.{◌≡◌, drop}
use Rattle.std.specs.List.{list_all}
use Rattle.fvn_problems.specs.inner.Split.{is_alone}
use Rattle.fvn_problems.proofs.split.are_alone.Given as goal

-- the pairs that are left decide
abbrev pub invariant-loop-halves : goal.invariant-loop-halves
invariant-loop-halves l = list_all (λ h. is_alone h.left) l.list ≡ list_all (λ h. is_alone h.left) (drop l.halves-index l.list)
