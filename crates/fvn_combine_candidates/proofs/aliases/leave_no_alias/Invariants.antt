-- No alias for the operators so far.
use Rattle.std.proofs.Common.{◌≡◌, ℕ, ◌<◌, [], slice_index, slice_index_or, Some}
use Rattle.std.specs.Prelude.{slice_get}
use Rattle.fvn_lindio.specs.Systems.{vectors_of}
use Rattle.fvn_acunify.specs.ValidChoice.{chosen}
use Rattle.fvn_combine_nodes.specs.States.{class_of}
use Rattle.fvn_combine_leaves.specs.declared.reading.Sums.{Sums}
use Rattle.fvn_combine_admissible.specs.Listed.{tag_in}
use Rattle.fvn_combine_admissible.specs.Aliases.{HasNoAlias}
use Rattle.fvn_combine_candidates.proofs.aliases.leave_no_alias.Given as goal

abbrev pub invariant-loop-i : goal.invariant-loop-i
invariant-loop-i l =
    (i : ℕ) (e : Sums) → i < l.i → slice_get l.reading.sums i ≡ Some e
    → HasNoAlias l.sig l.table (class_of l.state) (tag_in l.tags) e.operator e.columns (chosen (slice_index l.numbers i) (vectors_of (slice_index_or l.bases i [])))
