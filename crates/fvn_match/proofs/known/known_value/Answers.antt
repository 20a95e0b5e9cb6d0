-- The value of a variable, or of a pattern without any.
use Rattle.std.proofs.Common.{sym}
use Rattle.fvn_match.specs.inner.Goals.{bindings_of}
use Rattle.fvn_match.proofs.PairSteps.{variable_is}
use Rattle.fvn_match.proofs.KnownSteps.{known_bound, known_itself}
use Rattle.fvn_match.proofs.known.known_value.Goals as goal

pub returns-in-Some : goal.returns-in-Some
returns-in-Some c = known_bound (bindings_of c.args.bound.now) c.args.p.now c.in-Some.x (variable_is c.args.p.now c.in-Some.x (sym c.in-Some.ensures)) c.get.result c.get.ensures

pub returns-in-None : goal.returns-in-None
returns-in-None c = known_itself (bindings_of c.args.bound.now) c.args.p.now c.own_value.result c.own_value.ensures
