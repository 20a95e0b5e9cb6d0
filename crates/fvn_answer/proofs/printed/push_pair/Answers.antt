-- A variable, an arrow and its value.
use Rattle.fvn_answer.proofs.ValueTexts.{pair-push}
use Rattle.fvn_answer.proofs.printed.push_pair.Goals as goal

pub returns : goal.returns
returns c =
    rw (c.in_ok-push_value.ensures, c.in_ok-extend_from_slice.ensures.items, c.in_ok-push_sorted.ensures)
    (pair-push c.args.signature.now c.args.names.now c.args.var_names.now.texts c.args.order.now c.args.subst.now c.args.x c.args.text.now.items c.text.result.now c.text.ensures)
