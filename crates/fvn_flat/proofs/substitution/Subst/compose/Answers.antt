-- The pairs are those of one and then the other.
use Rattle.std.proofs.Common.{◌++◌, sym, ap, ◌∙◌, subst}
use Rattle.fvn_flat.specs.Bindings.{BindsOnce, BindingsFit, chosen, is_free, IsOneThenOther}
use Rattle.fvn_flat.proofs.Composing.{composed_binds_once, composed_is_both, composed_fits}
use Rattle.fvn_flat.proofs.substitution.Subst.compose.Goals as goal

pub returns-clause-exact : goal.returns-clause-exact
returns-clause-exact c = c.in_ok-pairs.ensures ∙ ap (λ l. l ++ chosen (is_free c.args.self.now) c.args.later.now) c.in_ok-changed.ensures

pub invariant_of-s : goal.invariant_of-s
invariant_of-s c =
    subst BindsOnce
    (sym (c.in_ok-pairs.ensures ∙ ap (λ l. l ++ chosen (is_free c.args.self.now) c.args.later.now) c.in_ok-changed.ensures))
    (composed_binds_once c.args.sig.now c.args.self.now c.args.later.now c.recall_bindings.ensures c.recall_bindings-2.ensures)

pub returns-clause-both : goal.returns-clause-both
returns-clause-both c =
    subst (IsOneThenOther c.args.sig.now c.args.self.now c.args.later.now) (sym (returns-clause-exact c)) (composed_is_both c.args.sig.now c.args.self.now c.args.later.now c.requires.first.settled c.requires.then.settled)

pub returns-clause-fits : goal.returns-clause-fits
returns-clause-fits c = subst (BindingsFit c.args.sig.now) (sym (returns-clause-exact c)) (composed_fits c.args.sig.now c.recall_good.ensures c.args.self.now c.args.later.now c.requires.first c.requires.then)
