-- The kinds of the first sorts.
use Rattle.std.proofs.Common.{◌≡◌, ◌+◌, ◌≤◌, ℕ, length, get_or, None}
use Rattle.fvn_signature_draft.specs.declared.collected.Collected.{Collected}
use Rattle.fvn_module_names.specs.inner.Numbering.{HasLabels, IsKnown, IsNumbered}
use Rattle.fvn_module_names.proofs.kinds.sort_kinds.Given as goal

-- the kinds of the first sorts, what is known of each label, and the number of the next kind
abbrev pub invariant-loop-label : goal.invariant-loop-label
invariant-loop-label l = record {
  bound : l.next ≤ length l.labels + l.label-index;
  long : length l.known.items ≡ length l.labels;
  numbered : (c : Collected) → HasLabels c l.labels → IsNumbered c l.kinds.items l.next l.label-index × ((k : ℕ) → IsKnown c l.labels l.label-index k (get_or l.known.items k None));
}
