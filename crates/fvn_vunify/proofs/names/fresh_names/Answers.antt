-- Fresh names for all variables of the values.
use Rattle.std.proofs.Common.{◌≢◌, length, sym, ap, ◌∙◌, subst, arith}
use Rattle.std.specs.Prelude.{AllPairs, Contains}
use Rattle.fvn_flat.proofs.ListedVariables.{distinct_pairs}
use Rattle.fvn_vunify.specs.inner.Names.{variables_of_values}
use Rattle.fvn_vunify.proofs.NewNames.{values_distinct, values_held}
use Rattle.fvn_vunify.proofs.names.fresh_names.Goals as goal

pub fresh_variables-requires-clause-once : goal.fresh_variables-requires-clause-once
fresh_variables-requires-clause-once c =
    subst (AllPairs ◌≢◌) (sym (c.as_slice.ensures.value ∙ c.in_ok-vars.ensures)) (distinct_pairs (variables_of_values c.args.v.now) (values_distinct c.args.v.now))

pub returns : goal.returns
returns c = record {
  vars = c.as_slice.result.now;
  named = c.in_ok-names.ensures.named;
  apart = c.in_ok-names.ensures.apart;
  held = λ x o. subst (λ l. Contains l x) (sym (c.as_slice.ensures.value ∙ c.in_ok-vars.ensures)) (values_held c.args.v.now x o);
  small = let n = ap length c.as_slice.ensures.value in omega (arith, n, c.in_ok-names.ensures.next, c.len.ensures);
  fits = c.in_ok-names.ensures.fits;
}
