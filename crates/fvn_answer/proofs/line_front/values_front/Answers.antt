-- The bindings between braces, up to a tip if there is one.
use Rattle.std.proofs.Common.{true, map, sym, ap, ◌∙◌}
use Rattle.std.specs.Prelude.{codes}
use Rattle.fvn_answer.specs.Lines.{values, values_of, text}
use Rattle.fvn_answer.specs.inner.Bytes.{beside, with_pairs}
use Rattle.fvn_answer.specs.inner.Shown.{value_texts}
use Rattle.fvn_answer.proofs.Fronts.{no-tips, some-tips, closed-front}
use Rattle.fvn_answer.proofs.LineFronts.{whole-here, cut-here}
use Rattle.fvn_answer.proofs.ValueTexts.{values-text, nothing-left}
use Rattle.fvn_answer.proofs.line_front.values_front.Goals as goal

pub returns-then-not-is_empty : goal.returns-then-not-is_empty
returns-then-not-is_empty c other a =
    let d = c.args.signature.now in
    let names = c.args.names.now in
    let texts = c.args.var_names.now.texts in
    let s = c.args.subst.now in
    let vars = c.args.vars.now in
    cut-here (value_texts d texts names other s) vars c.loop-x.x-index c.loop-x-test.true _ c.args.fixed.now.known other c.in_ok-front.front (with_pairs true (codes "{") (map (value_texts d texts names other s) vars))
    c.loop-x.first c.loop-x.line.items c.push_between.new.text.items c.in_ok-push_between.ensures (c.loop-x.invariant other a) (c.in_ok-front.ensures other a)
    (text d names texts other (values (values_of s vars))) (values-text d names c.requires.names texts other s vars c.requires.values) (some-tips c.in_ok-front.front.tips c.if-not-is_empty.ensures)

pub loop-x-preserved : goal.loop-x-preserved
loop-x-preserved c other a =
    let d = c.args.signature.now in
    let names = c.args.names.now in
    let texts = c.args.var_names.now.texts in
    let s = c.args.subst.now in
    let vars = c.args.vars.now in
    whole-here (value_texts d texts names other s) vars c.loop-x.x-index c.loop-x-test.true _ c.args.fixed.now.known other c.in_ok-front.front (with_pairs true (codes "{") (map (value_texts d texts names other s) vars))
    c.loop-x.first c.loop-x.line.items c.push_between.new.text.items c.in_ok-push_between.ensures (c.loop-x.invariant other a) (c.in_ok-front.ensures other a)
    (no-tips c.in_ok-front.front.tips c.if-not-is_empty.ensures)

pub returns : goal.returns
returns c other a =
    let each = value_texts c.args.signature.now c.args.var_names.now.texts c.args.names.now other c.args.subst.now in
    let all = c.loop-x.invariant other a ∙ ap (λ l. with_pairs c.loop-x.first c.loop-x.line.items (map each l)) (nothing-left c.args.vars.now c.loop-x.x-index c.loop-x-test.false) in
    closed-front c.args.fixed.now.known other c.closed.result _ c.closed.ensures.tips
    (ap (λ t. t.items) c.closed.ensures.text
    ∙ c.in_ok-push_special.ensures
    ∙ ap (λ t. beside t 125) (sym all)
    ∙ values-text c.args.signature.now c.args.names.now c.requires.names c.args.var_names.now.texts other c.args.subst.now c.args.vars.now c.requires.values)
    c.closed.ensures.later
