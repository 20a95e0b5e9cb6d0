-- The front of a variable whose number is not known.
use Rattle.std.proofs.Common.{refl, ap, ◌∙◌, arith}
use Rattle.fvn_answer.proofs.Fronts.{closed-front}
use Rattle.fvn_answer.proofs.NewFronts.{open-front, known-front}
use Rattle.fvn_answer.proofs.front.new_front.Goals as goal

pub returns-then-n-eq0 : goal.returns-then-n-eq0
returns-then-n-eq0 c other a =
    let few = a.few c.args.x in
    open-front c.args.signature.now c.args.names.now c.args.fixed.now.known 0 0 c.args.x c.args.x.sort other c.in_ok-front.front
    c.in_ok-front.ensures.tips c.in_ok-front.ensures.text c.in_ok-front.ensures.later (omega arith) (λ n. omega arith) few

pub returns-then-fixed-n : goal.returns-then-fixed-n
returns-then-fixed-n c other a =
    let few = a.few c.args.x in
    let later = a.later c.args.x (omega (arith, c.if-fixed-n.true, c.number-n.ensures)) in
    open-front c.args.signature.now c.args.names.now c.args.fixed.now.known c.saturating_add-least.result c.saturating_add-later.result c.args.x c.args.x.sort other c.in_ok-front-2.front
    c.in_ok-front-2.ensures.tips c.in_ok-front-2.ensures.text c.in_ok-front-2.ensures.later
    (omega (arith, later, few, c.saturating_add-least.ensures)) (λ n. omega (arith, later, few, n, c.saturating_add-later.ensures)) few

pub returns : goal.returns
returns c other a =
    let d = c.args.signature.now in
    let names = c.args.names.now in
    let x = c.args.x in
    let order = c.args.fixed.now.order.now in
    let n = c.number-n.ensures in
    closed-front c.args.fixed.now.known other c.closed.result _ c.closed.ensures.tips
    (ap (λ t. t.items) c.closed.ensures.text
    ∙ known-front d names order other x x.sort c.push_new.new.text.items (a.same x (omega (arith, n, c.if-n-eq0.false)) (omega (arith, n, c.if-fixed-n.false))) (rw (c.in_ok-push_new.ensures, c.new-text.ensures.items) refl))
    c.closed.ensures.later
