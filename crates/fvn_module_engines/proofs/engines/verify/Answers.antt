-- The signature and the pairs are those of the module and the problem.
use Rattle.std.proofs.Common.{sym, subst}
use Rattle.std.specs.Prelude.{All}
use Rattle.fvn_rewrite_laws.specs.Kinds.{AreOfOneKind}
use Rattle.fvn_module_engines.proofs.engines.verify.Goals as goal

pub verify-requires-clause-rules : goal.verify-requires-clause-rules
verify-requires-clause-rules c = rw c.signature.ensures c.requires.rules

pub verify-requires-clause-kinded : goal.verify-requires-clause-kinded
verify-requires-clause-kinded c = rw (c.signature.ensures, c.as_slice.ensures) c.requires.kinded

pub verify-requires-clause-keeps : goal.verify-requires-clause-keeps
verify-requires-clause-keeps c = rw c.signature.ensures c.requires.keeps

pub returns : goal.returns
returns c = rw (c.signature.ensures, c.as_slice.ensures) at c.in_ok-verdict.ensures
