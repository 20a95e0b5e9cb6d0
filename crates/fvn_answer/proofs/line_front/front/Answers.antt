-- A term's front, a space and bindings.
use Rattle.std.proofs.Common.{[], ◌∷◌, sym, ◌∙◌, subst, append_assoc}
use Rattle.fvn_answer.specs.Lines.{values, values_of, text}
use Rattle.fvn_answer.specs.Writing.{text_of, written}
use Rattle.fvn_answer.specs.inner.Fronts.{IsFrontOf}
use Rattle.fvn_answer.proofs.ValueTexts.{whole-text}
use Rattle.fvn_answer.proofs.line_front.front.Goals as goal

pub returns-in_ok-front-in-Variant : goal.returns-in_ok-front-in-Variant
returns-in_ok-front-in-Variant c other a =
    let d = c.args.signature.now in
    let names = c.args.names.now in
    let texts = c.args.var_names.now.texts in
    let t = c.in-Variant.t.now in
    let s = c.in-Variant.subst.now in
    let vars = c.in-Variant.vars.now in
    let w = text_of (written d names other t) in
    rw c.in-Variant.is
    (subst (IsFrontOf c.args.fixed.now.known other c.in_ok-front-in-Variant.front)
    (sym (append_assoc w (32 ∷ []) (text d names texts other (values (values_of s vars)))) ∙ whole-text d names c.requires.names texts other s t vars)
    (c.in_ok-front-in-Variant.ensures other w a (c.in_ok-term-in-Variant.ensures other a)))
