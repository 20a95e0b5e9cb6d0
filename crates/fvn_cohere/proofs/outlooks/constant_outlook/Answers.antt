-- A constant is an identity where it is listed.
use Rattle.fvn_cohere.proofs.Foreseen.{constant_suits}
use Rattle.fvn_cohere.proofs.outlooks.constant_outlook.Goals as goal

pub returns : goal.returns
returns c = constant_suits c.args.sig.now c.args.f c.args.es.now c.is_listed.result c.result-sort.result c.requires c.is_listed.ensures c.result-sort.ensures.exact
