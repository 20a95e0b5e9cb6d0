-- By what is asked of it.
use Rattle.fvn_combine_loose.proofs.Summed.{sorts_of}
use Rattle.fvn_combine_loose.proofs.summing.takes_sums.Goals as goal

pub returns : goal.returns
returns c t = record {
  sum_sort = c.is_sum_sort.ensures c.if-not-is_sum_sort.false;
  headed = c.is_headed.ensures c.if-not-is_headed.false;
  sorts = sorts_of c.args.sig.now c.args.table.now c.args.state.now c.args.facts.now.sorted c.args.sum.1 c.args.sort (c.are_of_sort.ensures t);
}
