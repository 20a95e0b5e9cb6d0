-- The pieces that are left decide.
use Rattle.std.proofs.Common.{◌≡◌, [], drop}
use Rattle.fvn_problems.specs.declared.sorting.Spot.TheVariants.{Wanted}
use Rattle.fvn_problems.specs.inner.Sorting.{run, state, view}
use Rattle.fvn_problems.proofs.sorting.walk_row.Given as goal

-- the pieces that are left decide
abbrev pub invariant-loop-piece : goal.invariant-loop-piece
invariant-loop-piece l = run l.signature l.scope.names (state [] Wanted) l.row ≡ run l.signature l.scope.names (view l.walk) (drop l.piece-index l.row)
