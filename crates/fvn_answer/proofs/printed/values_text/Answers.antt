-- The bindings between braces.
use Rattle.std.proofs.Common.{map, sym, ap, ◌∙◌}
use Rattle.fvn_answer.specs.inner.Bytes.{beside, with_pairs}
use Rattle.fvn_answer.specs.inner.Shown.{value_texts}
use Rattle.fvn_answer.proofs.ValueTexts.{values-text, nothing-left}
use Rattle.fvn_answer.proofs.printed.values_text.Goals as goal

pub returns : goal.returns
returns c =
    let each = value_texts c.args.signature.now c.args.var_names.now.texts c.args.names.now c.args.order.now c.args.subst.now in
    let all = c.loop-x.invariant ∙ ap (λ l. with_pairs c.loop-x.first c.loop-x.line.items (map each l)) (nothing-left c.args.vars.now c.loop-x.x-index c.loop-x-test.false) in
    c.in_ok-push_special.ensures
    ∙ ap (λ t. beside t 125) (sym all)
    ∙ values-text c.args.signature.now c.args.names.now c.requires.names c.args.var_names.now.texts c.args.order.now c.args.subst.now c.args.vars.now c.requires.values
