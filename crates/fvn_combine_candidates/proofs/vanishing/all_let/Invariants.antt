-- The nodes so far do so.
use Rattle.std.proofs.Common.{◌≡◌, ℕ, ◌<◌, Some}
use Rattle.std.specs.Prelude.{slice_get}
use Rattle.fvn_combine_nodes.specs.States.{class_of}
use Rattle.fvn_combine_nodes.specs.declared.table.Node.{Node}
use Rattle.fvn_combine_complete.specs.Neutral.{Absorbs}
use Rattle.fvn_combine_candidates.specs.inner.Letting.{NodeLets}
use Rattle.fvn_combine_candidates.proofs.vanishing.all_let.Given as goal

abbrev pub invariant-loop-i : goal.invariant-loop-i
invariant-loop-i l = (i : ℕ) (n : Node) → i < l.i → slice_get l.table.nodes i ≡ Some n → NodeLets l.sig (class_of l.state) (Absorbs l.sig l.f l.e) l.k i n
