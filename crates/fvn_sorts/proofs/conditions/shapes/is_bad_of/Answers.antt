-- A declaration of another operator is none that is bad.
use Rattle.std.proofs.Common.{sym, ap, ◌∙◌, not}
use Rattle.std.proofs.lemmas.Bool.{false≢true, not-false, eq-eqb}
use Rattle.fvn_terms.specs.declared.plain.OpId.{OpId}
use Rattle.fvn_signature_draft.proofs.Operators.{same_op-true}
use Rattle.fvn_sorts.proofs.conditions.shapes.is_bad_of.Goals as goal

pub returns-then-ne : goal.returns-then-ne
returns-then-ne c = (
  λ h. absurd (false≢true h),
  λ w. absurd (false≢true (sym (c.if-ne.ensures ∙ ap not (eq-eqb c.args.declaration.now.op.0 c.args.op.0 (ap (λ (f : OpId). f.0) w.0))))),
)

pub returns : goal.returns
returns c = (
  λ h. (same_op-true c.args.declaration.now.op c.args.op (not-false _ (sym c.if-ne.ensures)), c.has_bad_shape.ensures.0 h),
  λ w. c.has_bad_shape.ensures.1 w.1,
)
