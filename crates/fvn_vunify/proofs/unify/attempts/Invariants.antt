-- What is found for the variants so far.
use Rattle.std.proofs.Common.{take}
use Rattle.fvn_vunify.specs.inner.Attempts.{AreAttempts}
use Rattle.fvn_vunify.proofs.unify.attempts.Given as goal

abbrev pub invariant-loop-v : goal.invariant-loop-v
invariant-loop-v g l = AreAttempts (g.E.Expander.setting l.expander) (g.E.Expander.drawn l.expander) l.vars (take l.v-index l.variants) l.found.items l.end
