-- A variable becomes its value, one that does not occur stays, and one that does is replaced.
use Rattle.std.proofs.Common.{[], ◌∷◌, ◌++◌, sym, ap, ◌∙◌, subst}
use Rattle.std.proofs.lemmas.Bool.{false≢true}
use Rattle.fvn_terms.specs.Signature.{kind}
use Rattle.fvn_forms.specs.Canon.{inst}
use Rattle.fvn_flat.specs.Fits.{Fits}
use Rattle.fvn_flat.specs.Bindings.{Bindings, value, BindingsFit}
use Rattle.fvn_combine_unfolding.proofs.Steps.{one_fits, step_free, step_variable}
use Rattle.fvn_combine_unfolding.proofs.replacing.replaced_one.Goals as goal

pub returns-then-is_variable-clause-exact : goal.returns-then-is_variable-clause-exact
returns-then-is_variable-clause-exact c =
    c.in_ok-whole.ensures ∙ step_variable c.args.sig.now (c.args.x, c.args.u.now) c.args.t (c.is_variable.ensures c.if-is_variable.true)

pub returns-then-is_variable-clause-fits : goal.returns-then-is_variable-clause-fits
returns-then-is_variable-clause-fits c =
    subst (Fits c.args.sig.now) (sym c.in_ok-whole.ensures)
    record { flat = c.requires.binding.flat; kinded = (kind c.args.sig.now c.args.x.sort, c.requires.binding.kinded) }

pub returns-then-not-has_var-clause-exact : goal.returns-then-not-has_var-clause-exact
returns-then-not-has_var-clause-exact c =
    step_free c.args.sig.now (c.args.x, c.args.u.now) c.requires.binding c.args.t c.requires.term.flat (λ o. false≢true (sym c.if-not-has_var.true ∙ c.has_var.ensures.1 o))

pub apply-requires-clause-subst : goal.apply-requires-clause-subst
apply-requires-clause-subst c =
    subst (BindingsFit c.args.sig.now) (sym (c.in_ok-one.ensures ∙ ap (λ (s : Bindings). s ++ (c.args.x, c.args.u.now) ∷ []) c.empty.ensures)) (one_fits c.args.sig.now (c.args.x, c.args.u.now) c.requires.binding)

pub returns-clause-exact : goal.returns-clause-exact
returns-clause-exact c =
    c.in_ok-r.ensures.exact ∙ ap (λ (s : Bindings). inst c.args.sig.now (value s) c.args.t) (c.in_ok-one.ensures ∙ ap (λ (s : Bindings). s ++ (c.args.x, c.args.u.now) ∷ []) c.empty.ensures)
