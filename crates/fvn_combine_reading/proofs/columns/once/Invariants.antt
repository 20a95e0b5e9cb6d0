-- Each class so far once.
use Rattle.std.proofs.Common.{take}
use Rattle.fvn_combine_nodes.specs.States.{class_of}
use Rattle.fvn_combine_systems.specs.NodeSystems.{IsIdentityClass}
use Rattle.fvn_combine_reading.specs.inner.Collecting.{AreOnce}
use Rattle.fvn_combine_reading.proofs.columns.once.Given as goal

abbrev pub invariant-loop-k : goal.invariant-loop-k
invariant-loop-k l = AreOnce (IsIdentityClass l.table (class_of l.state) l.f) (take l.k-index l.classes) l.once.items
