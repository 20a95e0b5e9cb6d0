-- Both parts are one.
use Rattle.std.proofs.Common.{sym, ◌∙◌}
use Rattle.std.proofs.lemmas.Bool.{eqb-true, not-false}
use Rattle.fvn_forms.specs.Canon.{same_op}
use Rattle.fvn_forms.proofs.Sums.{same_op_is}
use Rattle.fvn_combine_loose.proofs.Summed.{pair_same}
use Rattle.fvn_combine_loose.proofs.summing.is_one_sum.Goals as goal

pub returns : goal.returns
returns c t =
    let f = c.args.one.0 in
    let g = c.args.other.0 in
    pair_same c.args.one c.args.other (same_op_is f g (not-false (same_op f g) (sym c.ne.ensures ∙ c.if-ne.false))) (eqb-true c.args.one.1 c.args.other.1 t)
