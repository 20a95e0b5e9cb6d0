-- The first operator over whose sums the sorts depend on brackets, or none.
use Rattle.std.proofs.Common.{refl}
use Rattle.fvn_sorts.specs.declared.conditions.brackets.Triple.{Triple}
use Rattle.fvn_sorts.specs.declared.conditions.fault.SigFault.TheVariants.{NotAssocSorts}
use Rattle.fvn_signature_draft.specs.Collected.{op_number}
use Rattle.fvn_sorts.specs.Faults.{HasBadBrackets, sort_numbers}
use Rattle.fvn_sorts.specs.inner.Searches.{three_sorts}
use Rattle.fvn_signature_draft.proofs.Operators.{more_operators}
use Rattle.fvn_sorts.proofs.AlikeLemmas.{alike_brackets}
use Rattle.fvn_sorts.proofs.FaultOrder.{only, none_of_operators, first_of_operators}
use Rattle.fvn_sorts.proofs.conditions.stages.bracket_fault.Goals as goal

pub loop-op-preserved : goal.loop-op-preserved
loop-op-preserved c =
    let coll = c.args.collected.now in
    more_operators (λ g. (t : Triple) → HasBadBrackets coll g t.first t.second t.third → ⊥) c.loop-op.op c.loop-op.invariant c.in-None.ensures

pub loop-op-preserved-then-has_earlier_alike : goal.loop-op-preserved-then-has_earlier_alike
loop-op-preserved-then-has_earlier_alike c =
    let coll = c.args.collected.now in
    let w = c.if-has_earlier_alike.ensures refl in
    more_operators (λ g. (t : Triple) → HasBadBrackets coll g t.first t.second t.third → ⊥) c.loop-op.op c.loop-op.invariant (λ t h. c.loop-op.invariant w.0 w.1.0 t (alike_brackets coll c.args.draft.now.declarations c.requires.draft.is w.0 (op_number c.loop-op.op) w.1.1 t.first t.second t.third h))

pub returns-in-Some : goal.returns-in-Some
returns-in-Some c =
    let coll = c.args.collected.now in
    let found = c.in-Some.ensures in
    first_of_operators coll 7 (λ g (t : Triple). NotAssocSorts g t.first t.second t.third) (λ (t : Triple). sort_numbers (three_sorts t)) (only 7) (λ _ _. refl) (λ _ _. refl) c.loop-op.op c.in-Some.t found.0 found.1 c.loop-op.invariant

pub returns : goal.returns
returns c = none_of_operators c.args.collected.now 7 (λ f (t : Triple). NotAssocSorts f t.first t.second t.third) (only 7) (λ f t h. (h.first.rank, h.first.listed)) c.loop-op.op c.loop-op-test.false c.loop-op.invariant
