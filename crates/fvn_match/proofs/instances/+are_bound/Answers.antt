-- One argument more whose variables are bound.
use Rattle.std.proofs.Common.{sym, ◌∙◌, subst, inr, arith}
use Rattle.std.proofs.lemmas.List.{drop_all}
use Rattle.fvn_flat.proofs.Occurrences.{OccursIn, occurs_in_args}
use Rattle.fvn_flat.proofs.Smaller.{argument_is_smaller}
use Rattle.fvn_match.specs.inner.Goals.{bindings_of}
use Rattle.fvn_match.specs.inner.Known.{AreBound}
use Rattle.fvn_match.proofs.PairSteps.{variable_is}
use Rattle.fvn_match.proofs.KnownForms.{AreBoundOr, variable_bound, one_bound, all_bound}
use Rattle.fvn_match.proofs.instances.+are_bound.Goals as goal

pub are_bound-requires : goal.are_bound-requires
are_bound-requires t c =
    let smaller = argument_is_smaller c.args.t.now c.args-u-items.result.now c.loop-u.u-index c.u-item.result c.args-u-items.ensures.exact c.loop-u-test.true c.u-item.is in
    (omega (arith, smaller), tt)

pub returns-in-Some : goal.returns-in-Some
returns-in-Some t c = λ yes.
    subst (AreBound (bindings_of c.args.bound.now)) (sym (variable_is c.args.t.now c.in-Some.x (sym c.as_var.ensures ∙ c.in-Some.is)))
    (variable_bound (bindings_of c.args.bound.now) c.in-Some.x c.get.result c.get.ensures (sym c.is_some.ensures ∙ yes))

pub loop-u-init : goal.loop-u-init
loop-u-init t c = λ x o. inr o

pub loop-u-preserved : goal.loop-u-preserved
loop-u-preserved t c = one_bound (bindings_of c.args.bound.now) c.args-u-items.result.now c.args-u-items.result.now c.loop-u.u-index c.u-item.result c.loop-u-test.true c.u-item.is (c.are_bound.ensures c.if-not-are_bound.false) c.loop-u.invariant

pub returns-after-loop-u : goal.returns-after-loop-u
returns-after-loop-u t c = λ yes x o.
    all_bound (bindings_of c.args.bound.now) c.args-u-items.result.now
    (subst (AreBoundOr (bindings_of c.args.bound.now) c.args-u-items.result.now) (drop_all c.loop-u.u-index c.args-u-items.result.now c.loop-u-test.false) c.loop-u.invariant)
    x (subst (OccursIn x) (sym c.args-u-items.ensures.exact) ((occurs_in_args x c.args.t.now (sym c.as_var.ensures ∙ c.in-None.is)).0 o))
