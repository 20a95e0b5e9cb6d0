-- The variables of one more argument.
use Rattle.std.proofs.Common.{sym, ap, ◌∙◌, arith}
use Rattle.std.proofs.lemmas.List.{take_all}
use Rattle.fvn_forms.specs.Flat.{fpack}
use Rattle.fvn_flat.specs.Variables.{with_variables, with_all_variables}
use Rattle.fvn_flat.proofs.Smaller.{argument_is_smaller}
use Rattle.fvn_answer.proofs.Collecting.{with_all-step, with-args}
use Rattle.fvn_answer.proofs.numbering.+add_variables.Goals as goal

pub add_variables-requires : goal.add_variables-requires
add_variables-requires t c =
    let smaller = argument_is_smaller c.args.t.now c.args-u-items.result.now c.loop-u.u-index c.u-item.result c.args-u-items.ensures.exact c.loop-u-test.true c.u-item.is in
    (omega (arith, smaller), tt)

pub loop-u-preserved : goal.loop-u-preserved
loop-u-preserved t c =
    c.in_ok-add_variables-in-None.ensures
    ∙ ap (with_variables c.u-item.result) c.loop-u.invariant
    ∙ sym (with_all-step c.args-u-items.result.now c.loop-u.u-index c.u-item.result c.args.vars.now.items c.loop-u-test.true c.u-item.is)

pub returns-after-loop-u : goal.returns-after-loop-u
returns-after-loop-u t c =
    c.loop-u.invariant
    ∙ ap (λ l. with_all_variables (fpack l) c.args.vars.now.items) (take_all c.loop-u.u-index c.args-u-items.result.now c.loop-u-test.false ∙ c.args-u-items.ensures.exact)
    ∙ with-args c.args.t.now c.args.vars.now.items (sym c.as_var.ensures ∙ c.in-None.is)
