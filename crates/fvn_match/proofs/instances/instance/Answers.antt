-- The values of the variables, applied.
use Rattle.std.proofs.Common.{[], ◌++◌, sym, ap, ◌∙◌, subst}
use Rattle.fvn_forms.specs.Canon.{inst}
use Rattle.fvn_flat.specs.Bindings.{BindingsFit, value}
use Rattle.fvn_match.specs.inner.Variables.{AreVariablesOf}
use Rattle.fvn_match.specs.inner.Candidates.{pairs_of}
use Rattle.fvn_match.specs.inner.Goals.{bindings_of}
use Rattle.fvn_match.proofs.KnownForms.{instance_only, values_fit}
use Rattle.fvn_match.proofs.instances.instance.Goals as goal

pub answer-requires : goal.answer-requires
answer-requires c = rw c.as_slice.ensures.value c.in_ok-vars.ensures.once

pub apply-requires-clause-subst : goal.apply-requires-clause-subst
apply-requires-clause-subst c =
    let d = c.args.sig.now in
    let b = bindings_of c.args.bound.now in
    let are = subst (λ l. AreVariablesOf (l ++ []) c.in_ok-vars.vars.items) c.from_ref.ensures.value c.in_ok-vars.ensures in
    let fit = values_fit d b c.args.p.now c.in_ok-vars.vars.items are c.recall_good.ensures c.requires.values c.requires.pattern.kinded.0 c.requires.pattern.kinded.1 in
    subst (BindingsFit d) (ap (λ l. pairs_of l (value b)) (sym c.as_slice.ensures.value) ∙ sym c.in_ok-s.ensures) fit

pub apply-requires-clause-term : goal.apply-requires-clause-term
apply-requires-clause-term c = c.requires.pattern

pub returns : goal.returns
returns c =
    let d = c.args.sig.now in
    let b = bindings_of c.args.bound.now in
    let are = subst (λ l. AreVariablesOf (l ++ []) c.in_ok-vars.vars.items) c.from_ref.ensures.value c.in_ok-vars.ensures in
    let s_is = c.in_ok-s.ensures ∙ ap (λ l. pairs_of l (value b)) c.as_slice.ensures.value in
    instance_only d b c.args.p.now c.in_ok-vars.vars.items are c.in_ok-v.v c.requires.known (c.in_ok-v.ensures.exact ∙ ap (λ s. inst d (value s) c.args.p.now) s_is)
