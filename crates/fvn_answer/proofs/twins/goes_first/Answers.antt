-- One sort, and no text that is lowered.
use Rattle.fvn_answer.proofs.RisingTexts.{first-by}
use Rattle.fvn_answer.proofs.twins.goes_first.Goals as goal

pub returns : goal.returns
returns c r = first-by c.args.signature.now c.args.x c.args.y c.args.printed.now (c.have_one_sort.ensures c.if-not-have_one_sort.false) (c.lowers_none.ensures r)
