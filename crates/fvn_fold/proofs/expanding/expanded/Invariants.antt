-- the expansions so far
use Rattle.std.proofs.Common.{take}
use Rattle.fvn_fold.specs.Levels.{AreExpansions}
use Rattle.fvn_fold.proofs.expanding.expanded.Given as goal

abbrev pub invariant-loop-v : goal.invariant-loop-v
invariant-loop-v g l = AreExpansions (g.E.Expander.setting l.expander) (g.E.Expander.drawn l.expander) (take l.v-index l.members) l.es.items
