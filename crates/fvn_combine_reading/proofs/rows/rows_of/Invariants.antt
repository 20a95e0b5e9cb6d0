-- The rows of the sums so far.
use Rattle.std.proofs.Common.{◌≡◌, map, take, slice_get}
use Rattle.std.specs.List.{filter}
use Rattle.fvn_lindio.specs.Systems.{coefficients_of}
use Rattle.fvn_combine_nodes.specs.States.{class_of}
use Rattle.fvn_combine_systems.specs.NodeSystems.{is_headed, row_at}
use Rattle.fvn_combine_reading.proofs.rows.rows_of.Given as goal

abbrev pub invariant-loop-i : goal.invariant-loop-i
invariant-loop-i l = coefficients_of l.rows.items ≡ map (row_at l.table (class_of l.state) l.f l.columns) (filter (λ i. is_headed l.f (slice_get l.table.nodes i)) (take l.i-index l.table.subterms))
