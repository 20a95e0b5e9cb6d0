-- The test of the sizes decides what is answered.
use Rattle.std.proofs.Common.{sym, subst, ◌∙◌}
use Rattle.std.proofs.lemmas.Bool.{true≢false}
use Rattle.fvn_sorts.specs.Faults.{IsTooLarge}
use Rattle.fvn_module_declarations.specs.Module.{collected_in}
use Rattle.fvn_module_names.specs.Faults.{HasNames}
use Rattle.fvn_module_declarations.proofs.declaring.declare.Goals as goal

pub returns-then-is_too_large-clause-ok : goal.returns-then-is_too_large-clause-ok
returns-then-is_too_large-clause-ok c = (
  subst HasNames c.as_slice-statements.ensures c.in_ok-table.ensures.named,
  c.in_ok-names.ensures,
  subst (λ sts. IsTooLarge (collected_in sts)) c.as_slice-statements.ensures (c.is_too_large.ensures.0 c.if-is_too_large.true),
)

pub fit-requires-clause-small : goal.fit-requires-clause-small
fit-requires-clause-small c = λ large.
    true≢false (sym (c.is_too_large.ensures.1 (subst (λ sts. IsTooLarge (collected_in sts)) (sym c.as_slice-statements.ensures) large)) ∙ c.if-is_too_large.false)
