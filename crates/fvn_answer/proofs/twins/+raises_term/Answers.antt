-- A variable, a sum of variables, or an operator over arguments of which the first that does not keep its text raises it.
use Rattle.std.proofs.Common.{sym, ap, ◌∙◌, arith}
use Rattle.fvn_flat.proofs.Smaller.{argument_is_smaller}
use Rattle.fvn_terms.specs.Equality.{is_commutative}
use Rattle.fvn_answer.proofs.TwinTexts.{text-kept}
use Rattle.fvn_answer.proofs.RisingTexts.{raises-variable, raises-application, raises-sum}
use Rattle.fvn_answer.proofs.twins.+raises_term.Goals as goal

pub raises_term-requires : goal.raises_term-requires
raises_term-requires t c =
    let smaller = argument_is_smaller c.args.t.now c.args-u-items.result.now c.loop-u.u-index c.u-item.result c.args-u-items.ensures.exact c.loop-u-test.true c.u-item.is in
    (omega (arith, smaller), tt)

pub returns-in-Some : goal.returns-in-Some
returns-in-Some t c r =
    raises-variable c.args.signature.now c.args.x c.args.y c.args.t.now c.in-Some.z (sym c.as_var.ensures ∙ c.in-Some.is) (c.are_one.ensures r)

pub returns-then-is_commutative : goal.returns-then-is_commutative
returns-then-is_commutative t c r =
    raises-sum c.args.signature.now c.args.x c.args.y c.operator.result c.args.t.now c.operator.ensures
    (sym (c.is_commutative.ensures.exact ∙ ap is_commutative c.axioms.ensures) ∙ c.if-is_commutative.true) (c.stands_more_often.ensures.variables r) (c.stands_more_often.ensures.more r)

pub returns-then-not-keeps_term : goal.returns-then-not-keeps_term
returns-then-not-keeps_term t c r =
    raises-application c.args.signature.now c.args.x c.args.y c.operator.result c.args.t.now c.operator.ensures
    (sym (c.is_commutative.ensures.exact ∙ ap is_commutative c.axioms.ensures) ∙ c.if-is_commutative.false) c.args-u-items.result.now c.args-u-items.ensures.exact c.loop-u.u-index c.loop-u-test.true
    c.loop-u.invariant c.u-item.result c.u-item.is (c.raises_term.ensures r)

pub loop-u-preserved : goal.loop-u-preserved
loop-u-preserved t c =
    text-kept c.args.signature.now c.args.x c.args.y c.args-u-items.result.now c.loop-u.u-index c.u-item.result c.loop-u-test.true c.u-item.is
    (c.keeps_term.ensures c.if-not-keeps_term.false) c.loop-u.invariant
