-- What the root tells.
use Rattle.fvn_cohere.proofs.Foreseen.{shape_suits}
use Rattle.fvn_cohere.proofs.outlooks.shape_outlook.Goals as goal

pub returns : goal.returns
returns c = shape_suits c.args.sig.now c.args.shape c.is_variable_root-variable.result c.is_constant_root-identity.result c.is_variable_root-variable.ensures c.is_constant_root-identity.ensures
