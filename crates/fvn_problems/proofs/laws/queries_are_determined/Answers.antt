-- A text asks one term at most.
use Rattle.fvn_problems.proofs.QueryTexts.{query-only}
use Rattle.fvn_problems.proofs.laws.queries_are_determined.Goals as goal

pub returns : goal.returns
returns c = λ d names bytes q r h k. query-only d names bytes r k q h
