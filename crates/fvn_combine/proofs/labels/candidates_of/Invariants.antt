-- The nodes so far have their candidates.
use Rattle.std.proofs.Common.{◌≡◌, length}
use Rattle.fvn_combine.specs.inner.Labels.{AreCandidates}
use Rattle.fvn_combine.proofs.labels.candidates_of.Given as goal

abbrev pub invariant-loop-k : goal.invariant-loop-k
invariant-loop-k l = record {
  candidates : AreCandidates l.task l.state l.known.heads.items l.candidates.items;
  as_many : length l.candidates.items ≡ l.k;
}
