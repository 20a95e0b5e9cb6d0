-- The places at the ends of the paths so far.
use Rattle.std.proofs.Common.{take}
use Rattle.fvn_narrow.specs.inner.Placing.{ArePlacesWith}
use Rattle.fvn_narrow.proofs.Placed.{AtOne}
use Rattle.fvn_narrow.proofs.placing.with_member.Given as goal

abbrev pub invariant-loop-path : goal.invariant-loop-path
invariant-loop-path l = ArePlacesWith l.rules l.terms (AtOne l.rules l.terms l.member (take l.path-index l.path-items)) l.fn.places.items l.all.items
