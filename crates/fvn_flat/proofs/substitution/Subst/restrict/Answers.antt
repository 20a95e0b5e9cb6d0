-- The pairs of the listed variables are a restriction.
use Rattle.std.proofs.Common.{◌≡◌, sym, ap, ◌∙◌, subst}
use Rattle.std.proofs.lemmas.List.{take_all}
use Rattle.fvn_flat.specs.Bindings.{BindsOnce, chosen, IsRestriction}
use Rattle.fvn_flat.specs.Variables.{listed}
use Rattle.fvn_flat.proofs.Composing.{BindsOnce-chosen, chosen_is_restriction}
use Rattle.fvn_flat.proofs.substitution.Subst.restrict.Goals as goal

pub invariant_of-s : goal.invariant_of-s
invariant_of-s c =
    let all : c.loop-x.pairs.items ≡ chosen (listed c.args.vars.now) c.args.self.now = c.loop-x.invariant ∙ ap (chosen (listed c.args.vars.now)) (take_all c.loop-x.x-index c.deref-x-items.result.now c.loop-x-test.false ∙ c.deref-x-items.ensures.value ∙ c.self.view_is) in
    subst BindsOnce (sym all) (BindsOnce-chosen (listed c.args.vars.now) c.args.self.now c.recall_bindings.ensures)

pub returns : goal.returns
returns c =
    let all : c.loop-x.pairs.items ≡ chosen (listed c.args.vars.now) c.args.self.now = c.loop-x.invariant ∙ ap (chosen (listed c.args.vars.now)) (take_all c.loop-x.x-index c.deref-x-items.result.now c.loop-x-test.false ∙ c.deref-x-items.ensures.value ∙ c.self.view_is) in
    subst (IsRestriction c.args.vars.now c.args.self.now) (sym all) (chosen_is_restriction c.args.vars.now c.args.self.now)
