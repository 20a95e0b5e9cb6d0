-- What is found of the unifiers so far.
use Rattle.std.proofs.Common.{take}
use Rattle.fvn_vunify.specs.inner.Attempts.{AreTested}
use Rattle.fvn_vunify.proofs.attempts.tested.Given as goal

abbrev pub invariant-loop-s : goal.invariant-loop-s
invariant-loop-s g l = AreTested (g.E.Expander.setting l.expander) l.vars l.renamed (take l.s-index l.unifiers) l.found.items l.end
