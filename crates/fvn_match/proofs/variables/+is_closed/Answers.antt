-- One argument more without variables.
use Rattle.std.proofs.Common.{sym, ◌∙◌, subst, arith}
use Rattle.std.proofs.lemmas.List.{drop_all}
use Rattle.fvn_flat.proofs.Occurrences.{OccursIn, occurs_in_args, occurs_later}
use Rattle.fvn_flat.proofs.Smaller.{argument_is_smaller}
use Rattle.fvn_match.proofs.variables.+is_closed.Goals as goal

pub is_closed-requires : goal.is_closed-requires
is_closed-requires t c =
    let smaller = argument_is_smaller c.args.t.now c.args-u-items.result.now c.loop-u.u-index c.u-item.result c.args-u-items.ensures.exact c.loop-u-test.true c.u-item.is in
    (omega (arith, smaller), tt)

pub loop-u-init : goal.loop-u-init
loop-u-init t c = λ x o. o

pub loop-u-preserved : goal.loop-u-preserved
loop-u-preserved t c = λ x o.
    (occurs_later x c.args-u-items.result.now c.loop-u.u-index c.u-item.result c.loop-u-test.true c.u-item.is (c.is_closed.ensures c.if-not-is_closed.false x)).0 (c.loop-u.invariant x o)

pub returns-after-loop-u : goal.returns-after-loop-u
returns-after-loop-u t c = λ yes x o.
    subst (OccursIn x) (drop_all c.loop-u.u-index c.args-u-items.result.now c.loop-u-test.false)
    (c.loop-u.invariant x (subst (OccursIn x) (sym c.args-u-items.ensures.exact) ((occurs_in_args x c.args.t.now (sym c.as_var.ensures ∙ c.in-None.is)).0 o)))
