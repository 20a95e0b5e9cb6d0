-- A variable, an arrow and the front of its value.
use Rattle.std.proofs.Common.{subst}
use Rattle.fvn_answer.specs.inner.Fronts.{IsFrontOf}
use Rattle.fvn_answer.specs.Writing.{text_of, written}
use Rattle.fvn_flat.specs.Bindings.{value}
use Rattle.fvn_answer.proofs.ValueTexts.{pair-push}
use Rattle.fvn_answer.proofs.line_front.binding_front.Goals as goal

pub returns : goal.returns
returns c other a =
    let d = c.args.signature.now in
    let names = c.args.names.now in
    let s = c.args.subst.now in
    let x = c.args.x in
    subst (IsFrontOf c.args.fixed.now.known other c.in_ok-front.front)
    (pair-push d names c.args.var_names.now.texts other s x c.args.line.items c.text.result.now c.text.ensures)
    (rw (c.in_ok-extend_from_slice.ensures.items, c.in_ok-push_sorted.ensures) at
    (c.in_ok-front.ensures c.args.fixed.now.known other (text_of (written d names other (value s x))) (c.in_ok-value.ensures other a)))
