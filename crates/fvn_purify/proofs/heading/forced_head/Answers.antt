-- An earlier head, an identity, a member, or nothing.
use Rattle.std.proofs.Common.{refl, subst}
use Rattle.fvn_combine_nodes.specs.States.{class_of}
use Rattle.fvn_purify.specs.Parts.{outline}
use Rattle.fvn_purify.specs.declared.classes.Head.{Head}
use Rattle.fvn_purify.specs.inner.Options.{IsEarlier, by_earlier, by_unit}
use Rattle.fvn_purify.proofs.Firsts.{solid_last}
use Rattle.fvn_purify.proofs.heading.forced_head.Goals as goal

pub returns-in-Some : goal.returns-in-Some
returns-in-Some c = by_earlier (subst (λ l. IsEarlier (class_of c.args.state.now) l c.args.heads.now c.args.i c.in-Some.h) c.as_slice.ensures c.in-Some.ensures)

pub returns-in-Some-unit_in : goal.returns-in-Some-unit_in
returns-in-Some-unit_in c =
    by_unit c.in-Some-unit_in.e refl (subst (λ l. (h : Head) → IsEarlier (class_of c.args.state.now) l c.args.heads.now c.args.i h → ⊥) c.as_slice.ensures c.in-None.ensures) c.in-Some-unit_in.ensures

pub returns-in-None-unit_in : goal.returns-in-None-unit_in
returns-in-None-unit_in c =
    solid_last c.args.sig.now (outline c.args.classes.now) (class_of c.args.state.now) c.args.heads.now c.args.i
    (subst (λ l. (h : Head) → IsEarlier (class_of c.args.state.now) l c.args.heads.now c.args.i h → ⊥) c.as_slice.ensures c.in-None.ensures)
    c.in-None-unit_in.ensures c.solid_in.result c.solid_in.ensures
