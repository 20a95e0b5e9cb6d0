-- Two sorts have one kind exactly where the order connects them.
use Rattle.fvn_signature_draft.proofs.Components.{kinds_are_components}
use Rattle.fvn_signature_draft.proofs.laws.kinds_are_components.Goals as goal

pub returns : goal.returns
returns c = kinds_are_components
