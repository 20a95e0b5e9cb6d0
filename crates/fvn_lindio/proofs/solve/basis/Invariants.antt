-- The minimal solutions of the rows so far, none of whose prefixes is refused.
use Rattle.fvn_lindio.proofs.Prefixes.{IsDone}
use Rattle.fvn_lindio.specs.Systems.{rows_of}
use Rattle.fvn_lindio.specs.inner.Generators.{vectors_in}
use Rattle.fvn_lindio.proofs.solve.basis.Given as goal

abbrev pub invariant-loop-k : goal.invariant-loop-k
invariant-loop-k l = IsDone l.system.columns (rows_of l.system) l.most l.k (vectors_in l.known.items)
