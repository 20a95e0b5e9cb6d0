-- No operator so far has a bad collapse, and at the end none has.
use Rattle.fvn_terms.specs.declared.plain.SortId.{SortId}
use Rattle.fvn_sorts.specs.declared.conditions.fault.SigFault.TheVariants.{NotCollapsing}
use Rattle.fvn_sorts.specs.Faults.{HasBadCollapse}
use Rattle.fvn_signature_draft.proofs.Operators.{more_operators}
use Rattle.fvn_sorts.proofs.FaultOrder.{only, none_of_operators}
use Rattle.fvn_sorts.proofs.conditions.stages.collapse_fault.Goals as goal

pub loop-op-preserved : goal.loop-op-preserved
loop-op-preserved c =
    let coll = c.args.collected.now in
    more_operators (λ g. (s : SortId) → HasBadCollapse coll g s → ⊥) c.loop-op.op c.loop-op.invariant c.in-None.ensures

pub returns : goal.returns
returns c = none_of_operators c.args.collected.now 8 NotCollapsing (only 8) (λ f s h. (h.of_kind.rank, h.of_kind.listed)) c.loop-op.op c.loop-op-test.false c.loop-op.invariant
