-- The invariant of a comparison of kinds, place by place.
use Rattle.std.proofs.Common.{◌≡◌, ◌↔◌, map, length}
use Rattle.fvn_terms.specs.Signature.{kind}
use Rattle.fvn_sorts.proofs.conditions.shapes.have_same_kinds.Given as goal

-- the places that are left decide
abbrev pub invariant-loop-s : goal.invariant-loop-s
invariant-loop-s l = record {
  as_long : length l.s-iterator.a.rest.now ≡ length l.s-iterator.b.rest.now;
  decide : (map (kind l.declarations) l.some ≡ map (kind l.declarations) l.others) ↔ (map (kind l.declarations) l.s-iterator.a.rest.now ≡ map (kind l.declarations) l.s-iterator.b.rest.now);
}
