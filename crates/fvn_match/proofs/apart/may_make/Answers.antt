-- A pair that is refused is made by nothing.
use Rattle.std.proofs.Common.{sym}
use Rattle.std.proofs.lemmas.Bool.{false≢true}
use Rattle.fvn_match.specs.inner.Goals.{bindings_of}
use Rattle.fvn_match.proofs.TakingApart.{untouched_fits, untouched_asks}
use Rattle.fvn_match.proofs.apart.may_make.Goals as goal

pub returns-in-None : goal.returns-in-None
returns-in-None c = λ no. absurd (false≢true (sym no))

pub returns-then-not-free : goal.returns-then-not-free
returns-then-not-free c = λ no. absurd (false≢true (sym no))

pub take-requires-clause-fits : goal.take-requires-clause-fits
take-requires-clause-fits c = untouched_fits c.args.sig.now (bindings_of c.args.bound.now) c.requires.values c.untouched-parts.result c.untouched-parts.ensures

pub returns : goal.returns
returns c = λ no v k agrees is.
    (rw no at c.in_ok-may.ensures) v k is ((untouched_asks c.args.sig.now (bindings_of c.args.bound.now) c.untouched-parts.result c.untouched-parts.ensures v).1 agrees)
