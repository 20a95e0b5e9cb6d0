-- What is in the slot is promised.
use Rattle.fvn_remembering.proofs.keeping.kept_in.Goals as goal

pub returns : goal.returns
returns g c = (c.requires _ c.in-Some.answer.now).0 c.in-Some.ensures
