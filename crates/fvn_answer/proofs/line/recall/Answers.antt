-- Each kind is named after its first maximal sort.
use Rattle.fvn_answer.proofs.Tops.{tops}
use Rattle.fvn_answer.proofs.line.recall.Goals as goal

pub returns-clause-tops : goal.returns-clause-tops
returns-clause-tops c = tops c.args.signature.now c.recall_good.ensures c.recall_completed.ensures c.direct_subsorts_cover.ensures c.direct_subsorts_of_kinds.ensures
