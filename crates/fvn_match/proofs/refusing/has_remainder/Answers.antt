-- A number that is no multiple.
use Rattle.std.proofs.Common.{sym, ◌∙◌, arith}
use Rattle.std.proofs.lemmas.Bool.{false≢true}
use Rattle.fvn_match.specs.inner.Refusing.{IsMultiple}
use Rattle.fvn_match.proofs.Hopeless.{each_or}
use Rattle.fvn_match.proofs.refusing.has_remainder.Goals as goal

pub returns-then-not-is : goal.returns-then-not-is
returns-then-not-is c = λ yes all. false≢true (sym c.if-not-is.true ∙ c.is_multiple-is.ensures.1 (each_or (IsMultiple c.args.k) c.args.ns.now c.loop-i.i 0 (omega arith) all))
