-- What is found so far.
use Rattle.std.proofs.Common.{All}
use Rattle.fvn_combine_loose.specs.Loose.{IsLooseClass}
use Rattle.fvn_combine_loose.proofs.heights.find_classes.Given as goal

abbrev pub invariant-loop-z : goal.invariant-loop-z
invariant-loop-z l = All (IsLooseClass l.sig l.table l.state) l.all.items
