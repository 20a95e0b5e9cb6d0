-- The lower one of two in order.
use Rattle.std.proofs.Common.{inl, inr}
use Rattle.fvn_terms.specs.Signature.{AtOrBelow}
use Rattle.fvn_forms.proofs.SortOrder.{AtOrBelow-trans}
use Rattle.fvn_cohere.proofs.outlooks.lower.Goals as goal

pub returns-then-leq : goal.returns-then-leq
returns-then-leq c = λ s h. elim h as (λ _. AtOrBelow c.args.sig.now c.args.p s) [
  | inl a ↦ a
  | inr b ↦ AtOrBelow-trans c.args.sig.now (c.leq.ensures.0 c.if-leq.true) b
]

pub returns-then-leq-2 : goal.returns-then-leq-2
returns-then-leq-2 c = λ s h. elim h as (λ _. AtOrBelow c.args.sig.now c.args.q s) [
  | inl a ↦ AtOrBelow-trans c.args.sig.now (c.leq-2.ensures.0 c.if-leq-2.true) a
  | inr b ↦ b
]
