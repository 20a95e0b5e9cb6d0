-- As many of the classes so far have a summand.
use Rattle.std.proofs.Common.{ℕ, ◌≤◌, take}
use Rattle.std.specs.Prelude.{sum_by}
use Rattle.fvn_forms.specs.Flat.{FlatTerm}
use Rattle.fvn_combine_inferring.specs.Sorted.{GoWithSorts}
use Rattle.fvn_combine_inferring.specs.Rows.{many}
use Rattle.fvn_combine_inferring.proofs.bounds.count_summands.Given as goal

abbrev pub invariant-loop-k : goal.invariant-loop-k
invariant-loop-k l = record {
  few : l.count ≤ l.k-index;
  least : (values : ℕ → FlatTerm) → GoWithSorts l.sig l.table l.state l.known.sorted values → l.count ≤ sum_by (many l.sig l.state l.addition.operator values) (take l.k-index l.list);
}
