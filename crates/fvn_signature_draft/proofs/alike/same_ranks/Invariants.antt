-- The invariant of a comparison of ranks, place by place.
use Rattle.std.proofs.Common.{◌≡◌, length}
use Rattle.fvn_signature_draft.proofs.alike.same_ranks.Given as goal

-- the places that are left decide
abbrev pub invariant-loop-one : goal.invariant-loop-one
invariant-loop-one l = record {
  as_long : length l.one-iterator.a.rest.now ≡ length l.one-iterator.b.rest.now;
  decide : l.one-iterator.a.rest.now ≡ l.one-iterator.b.rest.now → l.some ≡ l.others;
}
