-- The law.
use Rattle.fvn_answer.proofs.Turning.{equal-cover}
use Rattle.fvn_answer.proofs.laws.equal_lines_cover.Goals as goal

pub returns : goal.returns
returns c = equal-cover c.bindings_are_spelled_once.ensures
