-- The places in the terms so far.
use Rattle.std.proofs.Common.{[]}
use Rattle.fvn_narrow.specs.inner.Placing.{StandsAmong, ArePlacesWith}
use Rattle.fvn_narrow.proofs.placing.all_places.Given as goal

abbrev pub invariant-loop-member : goal.invariant-loop-member
invariant-loop-member l = ArePlacesWith l.rules l.terms (StandsAmong l.terms l.member) [] l.all.items
