-- Each variable is bound once, to the form of its value.
use Rattle.std.proofs.Common.{◌≢◌, [], ◌∷◌, ◌++◌, get_or, false, sym, ap, ◌∙◌, subst, take}
use Rattle.std.specs.Prelude.{AllPairs, Contains}
use Rattle.std.proofs.lemmas.List.{take_all}
use Rattle.std.proofs.lemmas.List.Elements.{Contains-get_or}
use Rattle.fvn_terms.specs.declared.plain.Var.{Var}
use Rattle.fvn_terms.specs.Signature.{kind, HasKind}
use Rattle.fvn_forms.specs.Canon.{canon}
use Rattle.fvn_flat.specs.Bindings.{BindingsFit}
use Rattle.fvn_answer.specs.Asked.{HaveSorts}
use Rattle.fvn_tests_answer.proofs.Filling.{forms, with_form, forms-more, next-free, value-kinded, forms-sorts, forms-fit}
use Rattle.fvn_tests_answer.proofs.tests.filling.filled.Goals as goal

abbrev nobody : Var
nobody = record { name = 0; sort = record { 0 = 0 }; fresh = false }

pub flatten-requires : goal.flatten-requires
flatten-requires c =
    let x = get_or c.as_slice-x-items.result.now c.loop-x.x-index nobody in
    let listed = subst (λ l. Contains l x) c.as_slice-x-items.ensures (Contains-get_or c.as_slice-x-items.result.now c.loop-x.x-index nobody c.loop-x-test.true) in (
      kind c.args.signature.now x.sort,
      subst (λ t. HasKind c.args.signature.now t (kind c.args.signature.now x.sort)) (sym c.in_ok-t.ensures)
          (value-kinded c.args.signature.now c.args.bindings.now.subst.pairs c.recall_good.ensures c.requires.sorted c.args.problem.now.names.texts c.args.problem.now.vars c.requires.vars x listed),
    )

pub bind-requires : goal.bind-requires
bind-requires c =
    rw c.loop-x.invariant
    (next-free c.args.signature.now c.args.bindings.now.subst.pairs c.as_slice-x-items.result.now c.loop-x.x-index nobody
    (subst (AllPairs (λ y z. y ≢ z)) (sym c.as_slice-x-items.ensures) c.requires.vars.distinct) c.loop-x-test.true)

pub loop-x-preserved : goal.loop-x-preserved
loop-x-preserved c =
    let d = c.args.signature.now in
    let pairs = c.args.bindings.now.subst.pairs in
    let items = c.as_slice-x-items.result.now in
    let x = get_or items c.loop-x.x-index nobody in
    c.in_ok-subst.ensures
    ∙ ap (λ s. s ++ with_form d pairs x c.in_ok-form.form ∷ []) c.loop-x.invariant
    ∙ ap (λ t. forms d pairs (take c.loop-x.x-index items) ++ with_form d pairs x t ∷ []) (c.in_ok-form.ensures.exact ∙ ap (canon d) c.in_ok-t.ensures)
    ∙ forms-more d pairs items c.loop-x.x-index nobody c.loop-x-test.true

pub returns-clause-fit : goal.returns-clause-fit
returns-clause-fit c =
    let d = c.args.signature.now in
    let pairs = c.args.bindings.now.subst.pairs in
    let all = c.loop-x.invariant ∙ ap (forms d pairs) (take_all c.loop-x.x-index c.as_slice-x-items.result.now c.loop-x-test.false ∙ c.as_slice-x-items.ensures) in
    subst (BindingsFit d) (sym all) (forms-fit d pairs c.recall_good.ensures c.requires.sorted c.args.problem.now.names.texts c.args.problem.now.vars c.requires.vars)

pub returns-clause-sorts : goal.returns-clause-sorts
returns-clause-sorts c =
    let d = c.args.signature.now in
    let pairs = c.args.bindings.now.subst.pairs in
    let all = c.loop-x.invariant ∙ ap (forms d pairs) (take_all c.loop-x.x-index c.as_slice-x-items.result.now c.loop-x-test.false ∙ c.as_slice-x-items.ensures) in
    subst (HaveSorts d c.args.problem.now.vars) (sym all) (forms-sorts d pairs c.recall_good.ensures c.requires.sorted c.args.problem.now.names.texts c.args.problem.now.vars c.requires.vars)
