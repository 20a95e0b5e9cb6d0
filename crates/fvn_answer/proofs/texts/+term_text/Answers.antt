-- The text of an operator over the texts of its arguments.
use Rattle.std.proofs.Common.{map, ap, ◌∙◌, arith}
use Rattle.std.proofs.lemmas.List.{take_all}
use Rattle.fvn_flat.proofs.Smaller.{argument_is_smaller}
use Rattle.fvn_answer.specs.Writing.{text_of, written}
use Rattle.fvn_answer.proofs.Printing.{argument-printable, application-text, operator-filled}
use Rattle.fvn_answer.proofs.texts.+term_text.Goals as goal

pub term_text-requires : goal.term_text-requires
term_text-requires t c =
    let items = c.args-u-items.result.now in
    let smaller = argument_is_smaller c.args.t.now items c.loop-u.u-index c.u-item.result c.args-u-items.ensures.exact c.loop-u-test.true c.u-item.is in (
      omega (arith, smaller),
      (c.requires.names, argument-printable c.args.signature.now c.args.t.now items c.loop-u.u-index c.u-item.result c.requires.term c.args-u-items.ensures.exact c.loop-u-test.true c.u-item.is),
    )

pub returns-in_ok-text-in-None-2 : goal.returns-in_ok-text-in-None-2
returns-in_ok-text-in-None-2 t c =
    let items = c.args-u-items.result.now in
    let all = c.loop-u.invariant ∙ ap (map (λ u. text_of (written c.args.signature.now c.args.names.now c.args.order.now u))) (take_all c.loop-u.u-index items c.loop-u-test.false ∙ c.args-u-items.ensures.exact) in
    rw (c.in_ok-text-in-None-2.ensures, c.as_slice.ensures.value, c.in_ok-arrange-in-None.ensures, c.axioms.ensures, all)
    (application-text c.args.signature.now c.args.names.now (operator-filled c.args.signature.now c.args.names.now c.requires.names) c.args.order.now
    c.operator-f.result c.args.t.now c.operator-f.ensures c.requires.term c.op_text.result.now c.op_text.ensures)
