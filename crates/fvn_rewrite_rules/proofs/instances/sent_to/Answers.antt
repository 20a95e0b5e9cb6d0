-- The variable goes to the identity.
use Rattle.std.proofs.Common.{[], ◌∷◌, ◌++◌, sym, ap, ◌∙◌, subst}
use Rattle.fvn_forms.specs.Flat.{FlatTerm}
use Rattle.fvn_flat.specs.Bindings.{Bindings, BindingsFit}
use Rattle.fvn_rewrite_rules.proofs.Choosing.{goes_fits}
use Rattle.fvn_rewrite_rules.proofs.instances.sent_to.Goals as goal

pub returns-clause-is : goal.returns-clause-is
returns-clause-is c =
    let x = c.args.x in
    c.in_ok-s.ensures ∙ ap (λ (l : Bindings). l ++ (x, c.in_ok-form.form) ∷ []) c.empty.ensures ∙ ap (λ (f : FlatTerm). (x, f) ∷ []) c.in_ok-form.ensures

pub returns-clause-fits : goal.returns-clause-fits
returns-clause-fits c =
    subst (BindingsFit c.args.sig.now) (sym (returns-clause-is c)) (goes_fits c.args.sig.now c.recall_good.ensures c.recall_completed.ensures c.args.x c.args.e c.requires)
