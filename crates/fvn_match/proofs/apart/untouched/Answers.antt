-- New lists are empty.
use Rattle.fvn_match.proofs.apart.untouched.Goals as goal

pub returns : goal.returns
returns c = record { values = c.new.ensures.items; patterns = c.new-2.ensures.items; targets = c.new-3.ensures.items }
