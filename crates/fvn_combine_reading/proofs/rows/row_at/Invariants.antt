-- The coefficients in the columns so far.
use Rattle.std.proofs.Common.{◌≡◌, map, take}
use Rattle.fvn_combine_nodes.specs.States.{class_of}
use Rattle.fvn_combine_systems.specs.NodeSystems.{coefficient}
use Rattle.fvn_combine_reading.proofs.rows.row_at.Given as goal

abbrev pub invariant-loop-k : goal.invariant-loop-k
invariant-loop-k l = l.coefficients.items ≡ map (coefficient (class_of l.state) l.i l.pair) (take l.k-index l.columns)
