-- The draft of what was collected.
use Rattle.std.specs.Prelude.{◌≡◌, ◌≤◌}
use Rattle.fvn_base.specs.declared.limits.TheConstants.{OPERATORS}
use Rattle.fvn_signature.specs.declared.draft.Draft.{Draft}
use Rattle.fvn_signature_draft.specs.declared.collected.Collected.{Collected}
use Rattle.fvn_signature_draft.specs.Collected.{IsClosed, completed}

-- the draft of what was collected
pub record IsDraftOf (c : Collected) (t : Draft) : Type 0 where
  pub is : t.declarations ≡ completed c
  pub closed : IsClosed c
  pub operators : c.operators ≤ OPERATORS
