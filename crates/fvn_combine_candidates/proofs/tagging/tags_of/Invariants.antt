-- The tags of the classes so far.
use Rattle.std.proofs.Common.{◌≡◌, ℕ, take, length}
use Rattle.fvn_combine_admissible.specs.Listed.{tag_in}
use Rattle.fvn_combine_candidates.specs.Tags.{tag_by}
use Rattle.fvn_combine_candidates.proofs.tagging.tags_of.Given as goal

abbrev pub invariant-loop-i : goal.invariant-loop-i
invariant-loop-i l = record {
  as_many : length l.tags.items ≡ l.n;
  exact : (k : ℕ) → tag_in l.tags.items k ≡ tag_by (take l.i l.shared) (take l.i l.numbers) k;
}
