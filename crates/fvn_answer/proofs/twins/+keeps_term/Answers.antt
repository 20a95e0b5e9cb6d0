-- An operator over arguments that keep their texts.
use Rattle.std.proofs.Common.{◌≡◌, sym, ap, ◌∙◌, subst, arith}
use Rattle.fvn_flat.proofs.Smaller.{argument_is_smaller}
use Rattle.fvn_terms.specs.Equality.{is_commutative}
use Rattle.fvn_answer.specs.inner.Twins.{times}
use Rattle.fvn_answer.proofs.TwinTexts.{keeps-application}
use Rattle.fvn_answer.proofs.twins.+keeps_term.Goals as goal

pub keeps_term-requires : goal.keeps_term-requires
keeps_term-requires t c =
    let smaller = argument_is_smaller c.args.t.now c.args-u-items.result.now c.loop-u.u-index c.u-item.result c.args-u-items.ensures.exact c.loop-u-test.true c.u-item.is in
    (omega (arith, smaller), tt)

pub returns-after-loop-u : goal.returns-after-loop-u
returns-after-loop-u t c r =
    let items = c.args-u-items.result.now in
    keeps-application c.args.signature.now c.args.x c.args.y c.operator.result c.args.t.now c.operator.ensures c.is_commutative-exchange.result
    (c.is_commutative-exchange.ensures.exact ∙ ap is_commutative c.axioms.ensures) items c.args-u-items.ensures.exact
    (λ i z low. c.loop-u.invariant i z (omega (arith, low, c.loop-u-test.false)))
    (λ e. subst (λ l. times c.args.x l ≡ times c.args.y l) (sym c.args-u-items.ensures.exact) (c.stand_equally.ensures r e))
