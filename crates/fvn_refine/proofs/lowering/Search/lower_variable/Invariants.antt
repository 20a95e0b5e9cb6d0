-- The sorts that were tried.
use Rattle.fvn_refine.proofs.Tried.{HasTried}
use Rattle.fvn_refine.proofs.lowering.Search.lower_variable.Given as goal

abbrev pub invariant-loop-n : goal.invariant-loop-n
invariant-loop-n l = HasTried l.self.sig.now l.self.vars.now l.way l.y l.here l.s l.n l.rows.items
