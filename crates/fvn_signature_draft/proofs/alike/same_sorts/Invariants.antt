-- The invariant of a comparison of sorts, place by place.
use Rattle.std.proofs.Common.{◌≡◌, length}
use Rattle.fvn_signature_draft.proofs.alike.same_sorts.Given as goal

-- the places that are left decide
abbrev pub invariant-loop-s : goal.invariant-loop-s
invariant-loop-s l = record {
  as_long : length l.s-iterator.a.rest.now ≡ length l.s-iterator.b.rest.now;
  decide : l.s-iterator.a.rest.now ≡ l.s-iterator.b.rest.now → l.some ≡ l.others;
}
