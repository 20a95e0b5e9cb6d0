-- What is found so far.
use Rattle.std.proofs.Common.{All}
use Rattle.fvn_combine_loose.specs.Loose.{AreHeights}
use Rattle.fvn_combine_loose.proofs.heights.all_heights.Given as goal

abbrev pub invariant-loop-z : goal.invariant-loop-z
invariant-loop-z l = All (λ h. AreHeights l.sig l.table l.state l.facts.sorted h) l.all.items
