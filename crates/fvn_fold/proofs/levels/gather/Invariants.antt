-- the children so far, of whole expansions
use Rattle.std.proofs.Common.{◌≡◌}
use Rattle.fvn_fold.specs.inner.Gathering.{all_children, AreWhole}
use Rattle.fvn_fold.proofs.levels.gather.Given as goal

abbrev pub invariant-loop-expansion : goal.invariant-loop-expansion
invariant-loop-expansion l = (l.candidates.items ≡ all_children l.yielded) × AreWhole l.yielded
