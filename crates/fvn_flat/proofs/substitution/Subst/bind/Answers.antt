-- One more variable, which was free, keeps one pair for each.
use Rattle.std.proofs.Common.{[], ◌∷◌, ◌++◌, sym, ap, ◌∙◌, subst}
use Rattle.fvn_flat.specs.Bindings.{BindsOnce}
use Rattle.fvn_flat.proofs.Binding.{BindsOnce-push}
use Rattle.fvn_flat.proofs.substitution.Subst.bind.Goals as goal

pub invariant_of-result : goal.invariant_of-result
invariant_of-result c =
    subst BindsOnce (sym (c.in_ok-push.ensures.items ∙ ap (λ l. l ++ (c.args.v, c.in_ok-copy.copy) ∷ []) c.in_ok-pairs.ensures ∙ ap (λ u. c.args.self.now ++ (c.args.v, u) ∷ []) c.in_ok-copy.ensures))
    (BindsOnce-push c.args.self.now c.args.v c.args.t.now c.recall_bindings.ensures c.requires)
