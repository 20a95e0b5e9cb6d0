-- Laws of what was collected and completed.
use Rattle.std.specs.Prelude.{◌≡◌, ◌↔◌, ◌<◌}
use Rattle.fvn_terms.specs.declared.plain.SortId.{SortId}
use Rattle.fvn_terms.specs.Signature.{kind}
use Rattle.fvn_signature.specs.Joined.{Joined}
use Rattle.fvn_signature_draft.specs.declared.collected.Collected.{Collected}
use Rattle.fvn_signature_draft.specs.Collected.{completed}

-- two declared sorts of what was collected have one kind exactly where the order joins them
abbrev pub KindsAreComponents : Type 0
KindsAreComponents = (c : Collected) (s q : SortId) → s.0 < c.sorts → q.0 < c.sorts →
    (kind (completed c) s ≡ kind (completed c) q) ↔ Joined c.below s q
