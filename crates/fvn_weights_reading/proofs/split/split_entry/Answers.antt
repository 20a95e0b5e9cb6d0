-- Where no number follows, there is no entry.
use Rattle.fvn_weights_reading.proofs.Splitting.{no-entry-numbers}
use Rattle.fvn_weights_reading.proofs.split.split_entry.Goals as goal

pub returns-in_default-split_numbers-clause-none : goal.returns-in_default-split_numbers-clause-none
returns-in_default-split_numbers-clause-none c =
    no-entry-numbers c.args.row.now c.in-Some.behind.now c.in-Some.first.now c.in-Some.ensures.cases.0 c.in-Some-split_first.second.now c.in-Some-split_first.after.now
    c.in-Some-split_first.ensures.cases.0 c.in_default-split_numbers.ensures.none
