-- The paths so far.
use Rattle.std.proofs.Common.{◌≡◌, ◌++◌}
use Rattle.fvn_places.proofs.PathFacts.{paths_so_far}
use Rattle.fvn_places.proofs.leading.+with_paths.Given as goal

abbrev pub invariant-loop-i : goal.invariant-loop-i
invariant-loop-i l = l.all.items ≡ l.fn.list.items ++ paths_so_far l.path l.ts l.i
