-- The bindings of the classes so far.
use Rattle.std.proofs.Common.{map}
use Rattle.fvn_combine_nodes.specs.States.{class_of}
use Rattle.fvn_combine_triangular.specs.inner.Planning.{AreClassesBelow}
use Rattle.fvn_combine_triangular.proofs.choice.class_bindings.Given as goal

abbrev pub invariant-loop-k : goal.invariant-loop-k
invariant-loop-k l = AreClassesBelow l.fn.sig l.fn.table (class_of l.fn.state) l.fn.names l.fn.reading.sums (map (λ w. w.items) l.fn.shares) l.fn.binders l.k l.bindings.items
