-- The counts so far.
use Rattle.std.proofs.Common.{◌≡◌, take}
use Rattle.fvn_combine_candidates.specs.Tags.{tag_counts}
use Rattle.fvn_combine_candidates.proofs.tagging.option_counts.Given as goal

abbrev pub invariant-loop-c : goal.invariant-loop-c
invariant-loop-c l = l.counts.items ≡ take l.c-index (tag_counts l.shared)
