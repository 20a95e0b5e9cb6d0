-- The identity of one more operator.
use Rattle.std.proofs.Common.{[], take, sym, ap, ◌∙◌}
use Rattle.std.specs.Prelude.{fold}
use Rattle.std.proofs.lemmas.List.{take_all}
use Rattle.fvn_terms.specs.declared.declarations.Declarations.{Declarations}
use Rattle.fvn_rewrite_laws.specs.Identities.{with_operator, with_identity_of}
use Rattle.fvn_cohere.proofs.Steps.{identity-step}
use Rattle.fvn_cohere.proofs.identities.identities.Goals as goal

pub loop-op-preserved : goal.loop-op-preserved
loop-op-preserved c =
    let ops = c.as_slice-op-items.result.now in
    c.in_ok-all.ensures
    ∙ ap (λ l. with_operator l c.identity.result) c.loop-op.invariant
    ∙ ap (with_operator (fold with_identity_of [] (take c.loop-op.op-index ops))) c.identity.ensures
    ∙ sym (identity-step ops c.loop-op.op-index c.op-item.result c.loop-op-test.true c.op-item.is)

pub returns : goal.returns
returns c =
    c.loop-op.invariant
    ∙ ap (fold with_identity_of []) (take_all c.loop-op.op-index c.as_slice-op-items.result.now c.loop-op-test.false ∙ c.as_slice-op-items.ensures ∙ ap (λ (d : Declarations). d.ops) c.declarations.ensures)
