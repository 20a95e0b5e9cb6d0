-- One more variable.
use Rattle.std.proofs.Common.{List, get_or, take, sym, subst, All}
use Rattle.std.proofs.lemmas.List.{take_more, take_all}
use Rattle.fvn_terms.specs.declared.plain.Var.{Var}
use Rattle.fvn_flat.specs.Bindings.{Bindings}
use Rattle.fvn_combine_unfolding.specs.Sizes.{IsFitting}
use Rattle.fvn_combine_unfolding.specs.inner.Replaced.{IsWithValue}
use Rattle.fvn_combine_unfolding.proofs.Values.{IsUnfoldedFor, none_unfolded, one_more, value_is, binds_these, any_variable}
use Rattle.fvn_combine_unfolding.proofs.replacing.unfold.Goals as goal

pub loop-x-init : goal.loop-x-init
loop-x-init c = subst (IsUnfoldedFor c.args.sig.now c.args.list.now.bindings (take 0 c.args.vars.now)) (sym c.empty-s.ensures) (none_unfolded c.args.sig.now c.args.list.now.bindings)

pub with_value-requires-clause-bindings : goal.with_value-requires-clause-bindings
with_value-requires-clause-bindings c = subst (All (IsFitting c.args.sig.now)) (sym c.as_slice-bindings.ensures) c.requires.bindings

pub loop-x-preserved : goal.loop-x-preserved
loop-x-preserved c =
    let d = c.args.sig.now in
    let bindings = c.args.list.now.bindings in
    let vars = c.args.vars.now in
    let i = c.loop-x.x-index in
    let x = get_or vars i any_variable in
    let with = subst (λ (bs : Bindings). IsWithValue d bs c.loop-x.s x c.in_ok-s.s) c.as_slice-bindings.ensures c.in_ok-s.ensures in
    subst (λ (l : List Var). IsUnfoldedFor d bindings l c.in_ok-s.s) (sym (take_more vars i any_variable c.loop-x-test.true))
    (one_more d bindings c.recall_good.ensures c.requires.bindings (take i vars) c.loop-x.s c.in_ok-s.s x (c.requires.sorts i any_variable c.loop-x-test.true) c.loop-x.invariant with)

pub returns-clause-values : goal.returns-clause-values
returns-clause-values c =
    let d = c.args.sig.now in
    let bindings = c.args.list.now.bindings in
    value_is d bindings c.args.vars.now c.loop-x.s (subst (λ (l : List Var). IsUnfoldedFor d bindings l c.loop-x.s) (take_all c.loop-x.x-index c.args.vars.now c.loop-x-test.false) c.loop-x.invariant)

pub returns-clause-binds : goal.returns-clause-binds
returns-clause-binds c =
    let d = c.args.sig.now in
    let bindings = c.args.list.now.bindings in
    binds_these d bindings c.args.vars.now c.loop-x.s (subst (λ (l : List Var). IsUnfoldedFor d bindings l c.loop-x.s) (take_all c.loop-x.x-index c.args.vars.now c.loop-x-test.false) c.loop-x.invariant)

pub returns-clause-fits : goal.returns-clause-fits
returns-clause-fits c = c.loop-x.invariant.fits
