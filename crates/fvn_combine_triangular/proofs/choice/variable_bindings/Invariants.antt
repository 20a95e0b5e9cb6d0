-- The bindings of the variables so far.
use Rattle.fvn_combine_nodes.specs.States.{class_of}
use Rattle.fvn_combine_triangular.specs.inner.Planning.{AreVariablesBelow}
use Rattle.fvn_combine_triangular.proofs.choice.variable_bindings.Given as goal

abbrev pub invariant-loop-i : goal.invariant-loop-i
invariant-loop-i l = AreVariablesBelow l.fn.table (class_of l.fn.state) l.fn.names l.i l.bindings.items
