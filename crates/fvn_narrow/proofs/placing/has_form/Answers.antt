-- The forms are compared.
use Rattle.fvn_narrow.proofs.placing.has_form.Goals as goal

pub returns : goal.returns
returns c = c.same.ensures.exact.0
