-- The fields stay, the room stays, and every choice still to come is below the number reached.
use Rattle.std.proofs.Common.{◌≡◌, ℕ, ◌^◌, ◌<◌, ◌≤◌, length}
use Rattle.fvn_acunify.specs.Cursor.{Pending}
use Rattle.fvn_acunify.specs.inner.Prefix.{IsBounded}
use Rattle.fvn_acunify.proofs.choices.Choices.next.Given as goal

abbrev pub invariant-loop-self : goal.invariant-loop-self
invariant-loop-self l = record {
  constants : l.self-inside.constants.items ≡ l.fn.self.constants;
  may_be_zero : l.self-inside.may_be_zero.items ≡ l.fn.self.may_be_zero;
  bounds : l.self-inside.bounds ≡ l.fn.self.bounds;
  basis : l.self-inside.basis ≡ l.fn.self.basis;
  full : l.self-inside.full ≡ l.fn.self.full;
  bounded : IsBounded (length l.self-inside.may_be_zero.items) l.self-inside.constants.items l.self-inside.basis;
  room : length l.self-inside.sums.items ≡ length l.self-inside.may_be_zero.items;
  within : l.self-inside.below ≤ 2 ^ length l.self-inside.basis;
  lower : l.self-inside.below ≤ l.fn.self.below;
  left : (a : ℕ) → Pending l.fn.self a → a < l.self-inside.below;
}

abbrev pub decreases-loop-self : goal.decreases-loop-self
decreases-loop-self l = l.self-inside.below
