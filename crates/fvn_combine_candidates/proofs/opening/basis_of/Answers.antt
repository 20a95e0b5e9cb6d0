-- All minimal solutions, in order.
use Rattle.std.proofs.Common.{arith}
use Rattle.fvn_combine_candidates.proofs.Refused.{kept_system}
use Rattle.fvn_combine_candidates.proofs.opening.basis_of.Goals as goal

pub returns-in-Ok-clause-exact : goal.returns-in-Ok-clause-exact
returns-in-Ok-clause-exact c = record {
  whole = record {
    is_basis = record {
      minimal = λ v m. (c.in-Ok.ensures.exact v).0 m;
      ordered = c.in-Ok.ensures.ordered;
      few = omega (arith, c.in-Ok.ensures.few);
      narrow = c.in-Ok.ensures.narrow;
    };
    all = λ v m. (c.in-Ok.ensures.exact v).1 m;
  };
  few = c.in-Ok.ensures.few;
  kept = kept_system c.args.sums.now.system c.basis.result c.in-Ok.solutions c.in-Ok.is c.basis.ensures.too_many c.basis.ensures.too_wide;
}
