-- The bindings before this one are read.
use Rattle.fvn_problems.specs.Scopes.{unguarded}
use Rattle.fvn_problems.proofs.Binding.{BoundSoFar}
use Rattle.fvn_problems.proofs.bindings.bind.Given as goal

-- the bindings before this one are read
abbrev pub invariant-loop-halves : goal.invariant-loop-halves
invariant-loop-halves l = BoundSoFar (unguarded l.signature l.names) l.problem l.list l.halves-index l.pairs.items l.texts l.most
