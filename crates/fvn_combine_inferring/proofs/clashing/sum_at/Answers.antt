-- A sum of two nodes is headed by its operator, or has the value of one of both.
use Rattle.std.proofs.Common.{sym, ◌∙◌}
use Rattle.fvn_combine_inferring.proofs.Clashes.{node_sum}
use Rattle.fvn_combine_inferring.proofs.clashing.sum_at.Goals as goal

pub returns-else-is_of_either-clause-is : goal.returns-else-is_of_either-clause-is
returns-else-is_of_either-clause-is c =
    node_sum c.args.sig.now c.args.table.now c.args.state.now c.args.known.now.sorted c.requires.closed c.recall_well_made.ensures c.requires.sums c.in-Some.f c.in-Some.ensures c.args.i c.requires.within c.in-Some-addends.p (sym c.addends.ensures.is ∙ c.in-Some-addends.is) c.in-Some-addends.ensures.within
