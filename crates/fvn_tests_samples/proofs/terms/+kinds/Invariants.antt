-- The arguments that are left decide.
use Rattle.std.proofs.Common.{◌≡◌, map, length}
use Rattle.fvn_terms.specs.Plain.{terms}
use Rattle.fvn_terms.specs.Signature.{kind, HaveKinds}
use Rattle.fvn_tests_samples.proofs.terms.+kinds.Given as goal

abbrev pub invariant-have_kinds-loop-u : goal.invariant-have_kinds-loop-u
invariant-have_kinds-loop-u l = record {
  as_long : length l.u-iterator.a.rest.now ≡ length l.u-iterator.b.rest.now;
  decide : HaveKinds l.sig (terms l.u-iterator.a.rest.now) (map (kind l.sig) l.u-iterator.b.rest.now) → HaveKinds l.sig l.us (map (kind l.sig) l.list);
}
