-- The constants that are left decide.
use Rattle.std.proofs.Common.{◌≡◌, drop}
use Rattle.fvn_combine_triangular.specs.inner.Planning.{variable_for}
use Rattle.fvn_combine_triangular.proofs.shares.variable_for.Given as goal

abbrev pub invariant-loop-c : goal.invariant-loop-c
invariant-loop-c l = variable_for l.constants l.columns l.names l.parts l.fresh ≡ variable_for (drop l.c-index l.constants) l.columns l.names l.parts l.fresh
