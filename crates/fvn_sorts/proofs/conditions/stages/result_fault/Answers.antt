-- The first operator without a result over some sorts, or none.
use Rattle.std.proofs.Common.{List, Option, refl, subst}
use Rattle.fvn_terms.specs.declared.plain.SortId.{SortId}
use Rattle.fvn_sorts.specs.declared.conditions.fault.SigFault.TheVariants.{NotPreregular}
use Rattle.fvn_signature_draft.specs.Collected.{op_number}
use Rattle.fvn_sorts.specs.Faults.{HasNoResult, sort_numbers}
use Rattle.fvn_sorts.specs.inner.Searches.{IsFirstList, the_list}
use Rattle.fvn_signature_draft.proofs.Operators.{more_operators}
use Rattle.fvn_sorts.proofs.AlikeLemmas.{alike_no_result}
use Rattle.fvn_sorts.proofs.FaultOrder.{only, none_of_operators, first_of_operators}
use Rattle.fvn_sorts.proofs.conditions.stages.result_fault.Goals as goal

pub loop-op-preserved : goal.loop-op-preserved
loop-op-preserved c =
    let coll = c.args.collected.now in
    more_operators (λ g. (ss : List SortId) → HasNoResult coll g ss → ⊥) c.loop-op.op c.loop-op.invariant (subst (λ (r : Option (List SortId)). IsFirstList the_list (HasNoResult coll (op_number c.loop-op.op)) r) c.in-None.is c.in_ok-list.ensures)

pub loop-op-preserved-then-has_earlier_alike : goal.loop-op-preserved-then-has_earlier_alike
loop-op-preserved-then-has_earlier_alike c =
    let coll = c.args.collected.now in
    let w = c.if-has_earlier_alike.ensures refl in
    more_operators (λ g. (ss : List SortId) → HasNoResult coll g ss → ⊥) c.loop-op.op c.loop-op.invariant (λ ss h. c.loop-op.invariant w.0 w.1.0 ss (alike_no_result coll c.args.draft.now.declarations c.requires.draft.is w.0 (op_number c.loop-op.op) w.1.1 ss h))

pub returns-in-Some : goal.returns-in-Some
returns-in-Some c =
    let coll = c.args.collected.now in
    let found = subst (λ (r : Option (List SortId)). IsFirstList the_list (HasNoResult coll (op_number c.loop-op.op)) r) c.in-Some.is c.in_ok-list.ensures in
    first_of_operators coll 6 NotPreregular (λ (ss : List SortId). sort_numbers ss) (only 6) (λ _ _. refl) (λ _ _. refl) c.loop-op.op c.in-Some.list found.0 found.1 c.loop-op.invariant

pub returns : goal.returns
returns c = none_of_operators c.args.collected.now 6 NotPreregular (only 6) (λ f ss h. (h.0.rank, h.0.listed)) c.loop-op.op c.loop-op-test.false c.loop-op.invariant
