-- The numbers so far.
use Rattle.std.proofs.Common.{◌≡◌, map, take}
use Rattle.fvn_module_declarations.specs.Operators.{rank_number}
use Rattle.fvn_module_declarations.proofs.shapes.rank_numbers.Given as goal

-- the numbers so far
abbrev pub invariant-loop-sort : goal.invariant-loop-sort
invariant-loop-sort l = l.numbers.items ≡ map (rank_number l.v.sorts l.v.ops) (take l.sort-index l.written)
