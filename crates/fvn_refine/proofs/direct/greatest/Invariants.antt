-- The row at which the variables so far have values of their sorts.
use Rattle.std.proofs.Common.{take, [], ◌∷◌}
use Rattle.fvn_refine.specs.inner.Found.{Finds, HaveSorts}
use Rattle.fvn_refine.proofs.direct.greatest.Given as goal

abbrev pub invariant-loop-x : goal.invariant-loop-x
invariant-loop-x l = Finds l.search.sig.now l.search.vars.now (HaveSorts l.search.sig.now l.search.vars.now l.subst (take l.x-index l.vars)) (l.row.items ∷ [])
