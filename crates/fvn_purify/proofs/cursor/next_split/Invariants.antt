-- The same splits are to come, and the weight falls.
use Rattle.std.proofs.Common.{◌≤◌}
use Rattle.fvn_purify.specs.Parts.{outline}
use Rattle.fvn_purify.specs.Cursor.{HasSamePending}
use Rattle.fvn_purify.specs.inner.Choices.{IsKept}
use Rattle.fvn_purify.specs.inner.Founds.{cursor}
use Rattle.fvn_purify.specs.Weight.{cursor_weight}
use Rattle.fvn_purify.proofs.cursor.next_split.Given as goal

abbrev pub invariant-steps : goal.invariant-steps
invariant-steps l = record {
  kept : IsKept (cursor l.sig (outline l.classes) l.partials.items);
  less : cursor_weight (cursor l.sig (outline l.classes) l.partials.items) ≤ cursor_weight (cursor l.sig (outline l.classes) l.initial.partials.items);
  same : HasSamePending (cursor l.sig (outline l.classes) l.initial.partials.items) (cursor l.sig (outline l.classes) l.partials.items);
}

abbrev pub decreases-steps : goal.decreases-steps
decreases-steps l = cursor_weight (cursor l.sig (outline l.classes) l.partials.items)
