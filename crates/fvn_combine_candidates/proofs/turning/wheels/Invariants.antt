-- The wheels of the operators so far.
use Rattle.std.proofs.Common.{map}
use Rattle.fvn_combine_nodes.specs.States.{class_of}
use Rattle.fvn_combine_admissible.specs.Listed.{tag_in}
use Rattle.fvn_acunify_product.specs.Wheels.{wheel_of}
use Rattle.fvn_combine_candidates.specs.inner.Walking.{AreWheelsBelow}
use Rattle.fvn_combine_candidates.proofs.turning.wheels.Given as goal

abbrev pub invariant-loop-i : goal.invariant-loop-i
invariant-loop-i l = AreWheelsBelow l.sig l.table (class_of l.state) (tag_in l.tags) l.sorted l.reading.sums l.bases l.i (map wheel_of l.list.items)
