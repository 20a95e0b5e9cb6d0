-- The names so far are replaced.
use Rattle.std.proofs.Common.{◌≡◌, ◌++◌, map, take, drop}
use Rattle.fvn_combine_tree.specs.inner.Closing.{renamed}
use Rattle.fvn_combine_tree.proofs.closing.rename.Given as goal

abbrev pub invariant-loop-name : goal.invariant-loop-name
invariant-loop-name l = l.names ≡ map (renamed l.from l.to) (take l.name-index l.initial.names) ++ drop l.name-index l.initial.names
