-- The bindings so far bind no variable twice, and their keys are there.
use Rattle.fvn_problems.specs.Scopes.{unguarded}
use Rattle.fvn_problems.proofs.Keys.{OnceSoFar}
use Rattle.fvn_problems.proofs.written.are_once.Given as goal

-- the bindings so far
abbrev pub invariant-loop-halves : goal.invariant-loop-halves
invariant-loop-halves l = OnceSoFar (unguarded l.signature l.names) l.list l.halves-index l.keys
