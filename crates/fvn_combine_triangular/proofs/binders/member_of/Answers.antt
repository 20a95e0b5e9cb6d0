-- No node before the one that names a class is in it.
use Rattle.std.proofs.Common.{◌≡◌, ◌<◌, ◌≤◌, length, sym, ap, ◌∙◌, subst, arith}
use Rattle.fvn_combine_nodes.specs.States.{class_of}
use Rattle.fvn_combine_triangular.proofs.binders.member_of.Goals as goal

pub returns-then-class_of-k : goal.returns-then-class_of-k
returns-then-class_of-k c = λ i l e s.
    let n = c.requires.closed.naming.named i (let w = c.requires.closed.whole in omega (arith, l, w)) in
    c.if-class_of-k.true (c.class_of.ensures ∙ ap (class_of c.args.state.now) (sym e) ∙ n.1 ∙ e)

pub loop-i-init : goal.loop-i-init
loop-i-init c = λ j l e s.
    let w = c.requires.closed.whole in
    let k = c.requires.within in
    let n = (c.requires.closed.naming.named j (omega (arith, l, k, w))).0 in
    let b = subst (λ m. m ≤ j) e n in
    absurd (omega (arith, l, b))
