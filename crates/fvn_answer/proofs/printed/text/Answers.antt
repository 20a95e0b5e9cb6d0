-- A term, a space and values.
use Rattle.fvn_answer.proofs.ValueTexts.{whole-text}
use Rattle.fvn_answer.proofs.printed.text.Goals as goal

pub returns-in_ok-extend_from_slice-in-Variant : goal.returns-in_ok-extend_from_slice-in-Variant
returns-in_ok-extend_from_slice-in-Variant c =
    rw (c.in-Variant.is, c.in_ok-extend_from_slice-in-Variant.ensures.items, c.as_slice.ensures.value, c.in_ok-rest-in-Variant.ensures, c.in_ok-push-in-Variant.ensures.items, c.in_ok-line-in-Variant.ensures)
    (whole-text c.args.signature.now c.args.names.now c.requires.names c.args.var_names.now.texts c.args.order.now c.in-Variant.subst.now c.in-Variant.t.now c.in-Variant.vars.now)
