-- A text with a fault asks no term.
use Rattle.fvn_problems.proofs.QueryTexts.{query-none}
use Rattle.fvn_problems.proofs.laws.refused_queries_ask_nothing.Goals as goal

pub returns : goal.returns
returns c = query-none
