-- One pair more.
use Rattle.std.proofs.Common.{[], ◌∷◌, ◌++◌, sym, ap, ◌∙◌, subst}
use Rattle.fvn_forms.specs.Flat.{FlatTerm}
use Rattle.fvn_flat.specs.Bindings.{bound}
use Rattle.fvn_rewrite_rules.specs.inner.Making.{AreSorted}
use Rattle.fvn_rewrite_rules.proofs.Sorted.{unbound, one_more_sorted}
use Rattle.fvn_rewrite_rules.proofs.guessing.with_identity.Goals as goal

pub with_pair-requires : goal.with_pair-requires
with_pair-requires c = unbound (bound c.args.s c.args.x) (sym c.is_bound.ensures ∙ c.if-is_bound.false)

pub returns-in_ok-more-in-Some : goal.returns-in_ok-more-in-Some
returns-in_ok-more-in-Some c =
    let s = c.args.s in
    let x = c.args.x in
    subst (AreSorted c.args.sig.now) (sym (c.in_ok-more-in-Some.ensures ∙ ap (λ (t : FlatTerm). s ++ (x, t) ∷ []) c.in_ok-form-in-Some.ensures))
    (one_more_sorted c.args.sig.now c.recall_good.ensures c.recall_completed.ensures s c.requires.subst x c.in-Some.e (rw c.in-Some.is at c.in_ok-only.ensures))
