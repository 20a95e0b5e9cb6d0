-- What a sort gives is the list in order.
use Rattle.fvn_flat.proofs.SortedLists.{sorted_is_sort}
use Rattle.fvn_flat.proofs.building.sorted.Goals as goal

pub returns : goal.returns
returns c = sorted_is_sort c.args.ts.items c.sort.new.self.items c.in_ok-sort.ensures.permutation c.in_ok-sort.ensures.sorted
