-- Each of the rows so far.
use Rattle.std.proofs.Common.{take}
use Rattle.fvn_forms.specs.Flat.{fvar}
use Rattle.fvn_refine.specs.inner.Found.{AreAllUnder}
use Rattle.fvn_refine.proofs.refining.are_under.Given as goal

abbrev pub invariant-loop-row : goal.invariant-loop-row
invariant-loop-row l = AreAllUnder l.search.sig.now l.search.vars.now (fvar l.y) l.s (take l.row-index l.rows)
