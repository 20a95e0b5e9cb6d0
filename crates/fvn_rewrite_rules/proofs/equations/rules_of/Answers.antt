-- The rules of one equation more.
use Rattle.std.proofs.Common.{◌+◌, ◌≡◌, length, sym, ap, ◌∙◌, subst, arith}
use Rattle.std.specs.Prelude.{slice_get, Some}
use Rattle.std.proofs.lemmas.Option.{slice_get-get_or}
use Rattle.fvn_theory.specs.declared.equation.Equation.{Equation}
use Rattle.fvn_theory.specs.Equations.{IsReadableEquation}
use Rattle.fvn_rewrite_rules.specs.inner.Collecting.{AreRulesUpTo}
use Rattle.fvn_rewrite_rules.proofs.Steps.{All-item}
use Rattle.fvn_rewrite_rules.proofs.Collecting.{none_yet, one_more}
use Rattle.fvn_rewrite_rules.proofs.equations.rules_of.Goals as goal

pub rules_from-requires-clause-identities : goal.rules_from-requires-clause-identities
rules_from-requires-clause-identities c = c.as_slice.ensures.value ∙ c.in_ok-es.ensures

pub rules_from-requires-clause-equation : goal.rules_from-requires-clause-equation
rules_from-requires-clause-equation c = All-item (IsReadableEquation c.args.sig.now) c.args.equations.now c.requires c.loop-i.i c.index-equations-i.result c.loop-i-test.true c.index-equations-i.is

pub loop-i-init : goal.loop-i-init
loop-i-init c = subst (AreRulesUpTo c.args.sig.now c.args.equations.now 0) (sym c.new-all.ensures.items) (none_yet c.args.sig.now c.args.equations.now)

pub loop-i-preserved : goal.loop-i-preserved
loop-i-preserved c =
    let d = c.args.sig.now in
    let equations = c.args.equations.now in
    let e : Equation = c.index-equations-i.result in
    let is : slice_get equations c.loop-i.i ≡ Some e = slice_get-get_or equations c.loop-i.i e c.loop-i-test.true ∙ ap Some (sym c.index-equations-i.is) in
    subst (AreRulesUpTo d equations (c.loop-i.i + 1)) (sym c.in_ok-append.ensures.items)
    (one_more d equations c.loop-i.i e is c.loop-i.all.items c.in_ok-more.more.items c.loop-i.invariant c.in_ok-more.ensures)

pub returns : goal.returns
returns c =
    let e : c.loop-i.i ≡ length c.args.equations.now = omega (arith, c.loop-i-test.false, c.loop-i.auto.i-end) in
    subst (λ n. AreRulesUpTo c.args.sig.now c.args.equations.now n c.loop-i.all.items) e c.loop-i.invariant
