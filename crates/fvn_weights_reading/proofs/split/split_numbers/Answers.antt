-- The numbers end where the count says.
use Rattle.std.proofs.lemmas.List.{take_rest}
use Rattle.fvn_weights_reading.proofs.Splitting.{numbers-split}
use Rattle.fvn_weights_reading.proofs.split.split_numbers.Goals as goal

pub returns-clause-some : goal.returns-clause-some
returns-clause-some c =
    rw (c.new.ensures, c.new-2.ensures, take_rest c.args.row.now c.count_numbers-count.result)
    (numbers-split c.args.row.now c.count_numbers-count.result c.count_numbers-count.ensures.exact c.if-count-eq0.false)
