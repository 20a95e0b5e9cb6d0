-- The kinds that are left decide.
use Rattle.std.proofs.Common.{◌≡◌, drop}
use Rattle.fvn_syntax.specs.Resolve.{fit_from}
use Rattle.fvn_syntax.proofs.applying.kinds_fit.Given as goal

-- the kinds that are left decide
abbrev pub invariant-loop-i : goal.invariant-loop-i
invariant-loop-i l = fit_from l.d l.sum l.op 0 l.kinds ≡ fit_from l.d l.sum l.op l.i (drop l.i l.kinds)
