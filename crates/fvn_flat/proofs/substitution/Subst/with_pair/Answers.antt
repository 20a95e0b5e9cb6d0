-- One more variable, which was free, keeps one pair for each.
use Rattle.std.proofs.Common.{◌∷◌, ◌++◌, [], sym, ap, ◌∙◌, subst}
use Rattle.fvn_flat.specs.Bindings.{Bindings, BindsOnce}
use Rattle.fvn_flat.proofs.Binding.{BindsOnce-push}
use Rattle.fvn_flat.proofs.substitution.Subst.with_pair.Goals as goal

pub invariant_of-result : goal.invariant_of-result
invariant_of-result c =
    subst BindsOnce (sym (c.in_ok-push.ensures.items ∙ ap (λ (l : Bindings). l ++ (c.args.v, c.args.t) ∷ []) c.self.view_is))
    (BindsOnce-push c.args.self c.args.v c.args.t c.recall_bindings.ensures c.requires)
