-- Spelling is one to one on term texts.
use Rattle.fvn_problems.proofs.Spelled.{queries-once}
use Rattle.fvn_problems.proofs.laws.queries_are_spelled_once.Goals as goal

pub returns : goal.returns
returns c = queries-once
