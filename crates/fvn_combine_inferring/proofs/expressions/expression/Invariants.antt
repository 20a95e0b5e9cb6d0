-- The list weighs what the class weighs.
use Rattle.std.proofs.Common.{◌≤◌, length}
use Rattle.fvn_combine_inferring.specs.inner.Splits.{IsExpression}
use Rattle.fvn_combine_inferring.proofs.expressions.expression.Given as goal

abbrev pub invariant-loop-step : goal.invariant-loop-step
invariant-loop-step l = record {
  is : IsExpression l.splits l.k l.list.items;
  within : l.place ≤ length l.list.items;
}
