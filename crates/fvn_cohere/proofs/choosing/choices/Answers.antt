-- The choices for what is sought.
use Rattle.std.proofs.Common.{[], ◌∷◌, ◌++◌, List, map, sym, ap, ◌∙◌}
use Rattle.std.specs.Prelude.{filter}
use Rattle.fvn_terms.specs.declared.plain.OpId.{OpId}
use Rattle.fvn_forms.specs.SortOrder.{at_or_below}
use Rattle.fvn_forms.specs.Ranks.{result}
use Rattle.fvn_rewrite_laws.specs.Choices.{variable_shape, identity_shape, sorts_below}
use Rattle.fvn_cohere.specs.inner.Searching.{choices_for}
use Rattle.fvn_cohere.proofs.choosing.choices.Goals as goal

pub returns-in-Loss : goal.returns-in-Loss
returns-in-Loss c =
    let d = c.args.sig.now in
    c.in_ok-all-in-Loss.ensures
    ∙ ap (λ (l : List OpId). map variable_shape (sorts_below d c.args.s) ++ map (identity_shape d) l) (c.as_slice-ids.ensures.value ∙ c.in_ok-below.ensures ∙ ap (filter (λ (e : OpId). at_or_below d (result d e []) c.args.s)) c.requires)
    ∙ sym (ap (λ z. choices_for d z c.args.s) c.in-Loss.is)

pub returns-in-LossAt : goal.returns-in-LossAt
returns-in-LossAt c =
    let d = c.args.sig.now in
    c.in_ok-all-in-LossAt.ensures
    ∙ ap (λ (l : List OpId). map variable_shape (sorts_below d c.args.s) ++ map (identity_shape d) l) (c.as_slice-ids.ensures.value ∙ c.in_ok-below.ensures ∙ ap (filter (λ (e : OpId). at_or_below d (result d e []) c.args.s)) c.requires)
    ∙ sym (ap (λ z. choices_for d z c.args.s) c.in-LossAt.is)

pub returns-in-ToVariable : goal.returns-in-ToVariable
returns-in-ToVariable c =
    let d = c.args.sig.now in
    c.in_ok-all-in-ToVariable.ensures
    ∙ ap (λ (l : List OpId). variable_shape c.args.s ∷ map (identity_shape d) l) (c.as_slice-ids.ensures.value ∙ c.in_ok-below.ensures ∙ ap (filter (λ (e : OpId). at_or_below d (result d e []) c.args.s)) c.requires)
    ∙ sym (ap (λ z. choices_for d z c.args.s) c.in-ToVariable.is)

pub returns : goal.returns
returns c =
    let d = c.args.sig.now in
    c.in_ok-all-in-ToIdentity.ensures
    ∙ ap (λ (l : List OpId). variable_shape c.args.s ∷ map (identity_shape d) l) (c.as_slice-ids.ensures.value ∙ c.in_ok-below.ensures ∙ ap (filter (λ (e : OpId). at_or_below d (result d e []) c.args.s)) c.requires)
    ∙ sym (ap (λ z. choices_for d z c.args.s) c.in-ToIdentity.is)
