-- The patterns so far, and the measures of the recursion.
use Rattle.std.proofs.Common.{◌+◌, ◌*◌, take}
use Rattle.fvn_forms.specs.Flat.{fpack}
use Rattle.fvn_flat.specs.Weight.{places, places_all}
use Rattle.fvn_rewrite.specs.inner.Fitting.{AreFitted}
use Rattle.fvn_rewrite.proofs.fitting.+fit.Given as goal

abbrev pub decreases-fit : goal.decreases-fit
decreases-fit l = 2 * places l.p.now

abbrev pub decreases-fit_all : goal.decreases-fit_all
decreases-fit_all l = 2 * places_all (fpack l.ps.now) + 1

abbrev pub invariant-fit_all-loop-i : goal.invariant-fit_all-loop-i
invariant-fit_all-loop-i l = AreFitted l.sig (take l.i l.ps) (take l.i l.vs) l.fn.bound.items l.all.items
