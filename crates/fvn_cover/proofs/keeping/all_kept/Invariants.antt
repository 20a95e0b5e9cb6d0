-- the variants so far
use Rattle.std.proofs.Common.{◌≡◌}
use Rattle.fvn_cover.proofs.keeping.all_kept.Given as goal

abbrev pub invariant-loop-v : goal.invariant-loop-v
invariant-loop-v l = l.all.items ≡ l.yielded
