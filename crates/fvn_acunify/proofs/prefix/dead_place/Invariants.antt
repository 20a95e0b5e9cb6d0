-- The walk came so far, and every column can still get what is asked.
use Rattle.std.proofs.Common.{[], take}
use Rattle.fvn_acunify.specs.inner.Prefix.{IsOpen}
use Rattle.fvn_acunify.proofs.Prefixes.{IsWalked, IsFullFrom}
use Rattle.fvn_acunify.proofs.prefix.dead_place.Given as goal

abbrev pub invariant-loop-place : goal.invariant-loop-place
invariant-loop-place l = record {
  walked : IsWalked l.constants l.basis l.number l.place l.sums;
  full_from : IsFullFrom l.full l.constants l.basis l.number l.place;
  all_open : IsOpen [] l.constants l.may_be_zero l.bounds (take l.place l.basis) l.sums;
}

abbrev pub decreases-loop-place : goal.decreases-loop-place
decreases-loop-place l = l.place
