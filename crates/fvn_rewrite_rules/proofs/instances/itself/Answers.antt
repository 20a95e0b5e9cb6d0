-- The equation as its first instance.
use Rattle.std.proofs.Common.{List, [], ◌∷◌, ◌++◌, refl, sym, ap, ◌∙◌, subst}
use Rattle.fvn_theory.specs.Equations.{sides_of}
use Rattle.fvn_rewrite_rules.specs.declared.rule.Rule.{Rule}
use Rattle.fvn_rewrite_rules.specs.inner.Making.{AreInstancesOver}
use Rattle.fvn_rewrite_rules.proofs.Choosing.{first_instance}
use Rattle.fvn_rewrite_rules.proofs.instances.itself.Goals as goal

pub flatten-requires : goal.flatten-requires
flatten-requires c = (c.requires.kind, c.requires.left)

pub flatten-requires-2 : goal.flatten-requires-2
flatten-requires-2 c = (c.requires.kind, c.requires.right)

pub returns : goal.returns
returns c =
    let rule : Rule = record { left = c.in_ok-left.left; right = c.in_ok-right.right; equation = c.args.number } in
    subst (AreInstancesOver c.args.sig.now c.args.number (sides_of c.args.e.now) []) (sym (c.in_ok-push.ensures.items ∙ ap (λ (l : List Rule). l ++ rule ∷ []) c.new-all.ensures.items))
    (first_instance c.args.sig.now c.recall_good.ensures c.recall_completed.ensures c.args.number (sides_of c.args.e.now) c.requires rule refl c.in_ok-left.ensures.exact c.in_ok-right.ensures.exact)
