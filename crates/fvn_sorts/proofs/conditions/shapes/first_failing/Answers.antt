-- The first operator that fails, or none.
use Rattle.std.proofs.Common.{inl, inr, arith}
use Rattle.std.proofs.lemmas.Bool.{cases_lt, false≢true}
use Rattle.fvn_sorts.specs.Faults.{HasFault}
use Rattle.fvn_sorts.specs.inner.Searches.{fault_at}
use Rattle.fvn_signature_draft.proofs.Operators.{more_operators}
use Rattle.fvn_sorts.proofs.ShapeLemmas.{nothing_fails}
use Rattle.fvn_sorts.proofs.conditions.shapes.first_failing.Goals as goal

pub loop-op-preserved : goal.loop-op-preserved
loop-op-preserved c = more_operators (λ g. HasFault c.args.collected.now (fault_at c.args.condition g) → ⊥) c.loop-op.op c.loop-op.invariant (λ h. false≢true (c.if-fails.ensures.1 h))

pub returns : goal.returns
returns c f h = elim (cases_lt f.0 c.loop-op.op) [
  | inl l ↦ c.loop-op.invariant f l h
  | inr l ↦ nothing_fails c.args.collected.now c.requires.closed f (let past = c.loop-op-test.false in omega arith) c.args.condition h
]
