-- Both sums, one after the other.
use Rattle.std.proofs.Common.{◌++◌, ap, ◌∙◌}
use Rattle.fvn_combine_inferring.proofs.Splitting.{sum_is}
use Rattle.fvn_combine_inferring.proofs.rows.sum_of.Goals as goal

pub returns : goal.returns
returns c =
    let first = c.in_ok-list.list.items in
    sum_is c.args.splits.now c.args.a c.args.b first c.in_ok-second.second.items c.extend_from_slice.new.self.items c.in_ok-list.ensures c.in_ok-second.ensures
    (c.in_ok-extend_from_slice.ensures.items ∙ ap (λ l. first ++ l) c.as_slice.ensures.value)
