-- A term, and bindings where the term is known to its end.
use Rattle.std.proofs.Common.{◌∷◌, ◌++◌, [], ap, ◌∙◌, subst, append_assoc}
use Rattle.fvn_answer.specs.Lines.{values, values_of, text}
use Rattle.fvn_answer.specs.inner.Fronts.{IsFrontOf}
use Rattle.fvn_answer.proofs.Fronts.{no-tips, some-tips, whole-front}
use Rattle.fvn_answer.proofs.LineFronts.{front-longer}
use Rattle.fvn_answer.proofs.line_front.variant_front.Goals as goal

pub returns-then-not-is_empty : goal.returns-then-not-is_empty
returns-then-not-is_empty c other w a h =
    front-longer c.args.fixed.now.known other w (32 ∷ text c.args.signature.now c.args.names.now c.args.var_names.now.texts other (values (values_of c.args.subst.now c.args.vars.now)))
    c.args.term (some-tips c.args.term.tips c.if-not-is_empty.ensures) h

pub returns : goal.returns
returns c other w a h =
    let z = text c.args.signature.now c.args.names.now c.args.var_names.now.texts other (values (values_of c.args.subst.now c.args.vars.now)) in
    let is = whole-front c.args.term.tips.items c.args.term.text.items w (no-tips c.args.term.tips c.if-not-is_empty.ensures) h.upto in
    subst (IsFrontOf c.args.fixed.now.known other c.in_ok-front.front)
    (ap (λ t. t ++ z) (c.in_ok-push.ensures.items ∙ ap (λ t. t ++ 32 ∷ []) is) ∙ append_assoc w (32 ∷ []) z)
    (c.in_ok-front.ensures c.args.fixed.now.known other z (c.in_ok-rest.ensures other a))
