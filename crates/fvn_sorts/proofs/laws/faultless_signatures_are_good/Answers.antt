-- What was collected without a fault is a good signature.
use Rattle.fvn_signature_draft.proofs.Components.{completed-is}
use Rattle.fvn_sorts.proofs.GoodFrom.{good_from}
use Rattle.fvn_sorts.proofs.laws.faultless_signatures_are_good.Goals as goal

pub returns : goal.returns
returns c = λ b closed clean. (good_from b closed clean, completed-is b closed)
