-- the value that is bound, or the variable itself
use Rattle.std.proofs.Common.{[], ◌∷◌, ◌++◌, sym, ap, ◌∙◌}
use Rattle.fvn_forms.specs.Flat.{FlatTerm}
use Rattle.fvn_flat.specs.Bindings.{form_or}
use Rattle.fvn_match.proofs.answers.with_value.Goals as goal

pub returns-in_ok-more-in-Some : goal.returns-in_ok-more-in-Some
returns-in_ok-more-in-Some c = c.in_ok-more-in-Some.ensures ∙ ap (λ (u : FlatTerm). c.args.s.now ++ (c.args.x, u) ∷ []) (sym (ap (form_or c.args.x) c.in-Some.ensures))

pub returns-in_ok-more-in-None : goal.returns-in_ok-more-in-None
returns-in_ok-more-in-None c =
    c.in_ok-more-in-None.ensures ∙ ap (λ (u : FlatTerm). c.args.s.now ++ (c.args.x, u) ∷ []) (c.var-t.ensures ∙ sym (ap (form_or c.args.x) c.in-None.ensures))
