-- What is noted so far was noted before.
use Rattle.std.proofs.Common.{◌≡◌, length}
use Rattle.fvn_combine_questions.specs.inner.Labels.{IsWithin, some_of}
use Rattle.fvn_combine_questions.proofs.labels.sieve.Given as goal

abbrev pub decreases-loop-k : goal.decreases-loop-k
decreases-loop-k l = some_of l.labels.items

abbrev pub invariant-loop-k : goal.invariant-loop-k
invariant-loop-k l = record {
  within : IsWithin l.labels.items l.fn.labels.items;
  as_many : length l.labels.items ≡ length l.fn.labels.items;
}
