-- The variables of one more argument.
use Rattle.std.proofs.Common.{sym, ◌∙◌, take, arith}
use Rattle.std.proofs.lemmas.List.{take_all}
use Rattle.fvn_flat.proofs.Smaller.{argument_is_smaller}
use Rattle.fvn_combine_triangular.proofs.Notes.{listed_variable, none_listed, listed_more, listed_all}
use Rattle.fvn_combine_triangular.proofs.order.+add_vars.Goals as goal

pub add_vars-requires : goal.add_vars-requires
add_vars-requires t c = omega (arith, argument_is_smaller c.args.t.now c.args-u-items.result.now c.loop-u.u-index c.u-item.result c.args-u-items.ensures.exact c.loop-u-test.true c.u-item.is)

pub loop-u-init : goal.loop-u-init
loop-u-init t c = none_listed c.args.vars.now.items c.args-u-items.result.now

pub loop-u-preserved : goal.loop-u-preserved
loop-u-preserved t c = listed_more c.args.vars.now.items c.loop-u.vars.items c.add_vars.new.vars.items c.args-u-items.result.now c.loop-u.u-index c.u-item.result c.loop-u-test.true c.u-item.is c.loop-u.invariant c.in_ok-add_vars.ensures

pub returns-in-Some : goal.returns-in-Some
returns-in-Some t c = listed_variable c.args.vars.now.items c.add_var.new.vars.items c.in-Some.x c.args.t.now (sym c.as_var.ensures ∙ c.in-Some.is) c.in_ok-add_var.ensures

pub returns : goal.returns
returns t c = listed_all c.args.vars.now.items c.loop-u.vars.items c.args.t.now (take c.loop-u.u-index c.args-u-items.result.now) (take_all c.loop-u.u-index c.args-u-items.result.now c.loop-u-test.false ∙ c.args-u-items.ensures.exact) (sym c.as_var.ensures ∙ c.in_default.is) c.loop-u.invariant
