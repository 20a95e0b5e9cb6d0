-- A rank with another number of arguments does not serve.
use Rattle.std.proofs.Common.{sym}
use Rattle.fvn_cohere.proofs.Foreseen.{none_serves}
use Rattle.fvn_cohere.proofs.outlooks.may_serve.Goals as goal

pub returns-then-parts-args : goal.returns-then-parts-args
returns-then-parts-args c = sym (none_serves c.args.sig.now c.args.parts.now c.args.args.now c.if-parts-args.true)
