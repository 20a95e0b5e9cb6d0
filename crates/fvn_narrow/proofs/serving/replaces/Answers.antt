-- What the last test told.
use Rattle.fvn_narrow.proofs.serving.replaces.Goals as goal

pub returns : goal.returns
returns c = λ yes. c.serves_at.ensures yes
