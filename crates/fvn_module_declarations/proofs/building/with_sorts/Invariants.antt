-- The first sorts are there.
use Rattle.std.proofs.Common.{◌≡◌, []}
use Rattle.fvn_module_declarations.proofs.building.with_sorts.Given as goal

-- the first sorts are there
abbrev pub invariant-loop : goal.invariant-loop
invariant-loop l = l.builder ≡ record { sorts = l.counter; below = []; operators = 0; declarations = [] }
