-- Names of a good signature are its own where there are no more of them than sorts and operators.
use Rattle.std.proofs.Common.{◌≤◌, length, arith}
use Rattle.std.specs.Prelude.{All}
use Rattle.std.proofs.lemmas.Option.{slice_get_within, get_or_from_slice_get}
use Rattle.std.proofs.Common.{subst}
use Rattle.fvn_terms.specs.declared.declarations.Declarations.{Declarations}
use Rattle.fvn_terms.specs.Signature.{IsSort}
use Rattle.fvn_forms.specs.Good.{IsGood}
use Rattle.fvn_signature.specs.Queries.{IsCompleted}
use Rattle.fvn_syntax.specs.declared.names.Names.{Names}
use Rattle.fvn_problems.specs.Scopes.{AreNamesOf}

-- names of sorts, operators and variables that are no more than there are belong to the signature
pub are-names : (d : Declarations) (names : Names) → IsGood d → IsCompleted d → length names.sorts ≤ d.sorts → length names.ops ≤ length d.ops →
    All (IsSort d) names.variables.sorts → AreNamesOf d names
are-names d names good whole sorts ops variables =
    let s = good.limits.sorts in
    let o = good.limits.operators in
    record {
      numbered = (omega arith, omega arith);
      fitting = record {
        sorts = λ i l. whole.sort_listed (record { 0 = i }) (omega arith);
        kinds = λ q l. (whole.kind_of_sort q l).listed;
        variables = λ i q e. subst (IsSort d) (get_or_from_slice_get names.variables.sorts i q q e) (variables i q (slice_get_within names.variables.sorts i q e));
        ops = λ i l. whole.op_declared (record { 0 = i }) (omega arith);
        sums = λ f r a l. good.fits.associative f r a l;
      };
    }
