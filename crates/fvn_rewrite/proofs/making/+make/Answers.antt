-- One argument more, and one step at the root more.
use Rattle.std.proofs.Common.{◌-◌, refl, sym, ◌∙◌, subst, arith}
use Rattle.std.proofs.lemmas.Option.{IfSome_then}
use Rattle.fvn_terms.specs.Term.{app}
use Rattle.fvn_terms.specs.Substitution.{apply}
use Rattle.fvn_forms.specs.Flat.{plain}
use Rattle.fvn_theory.specs.Equations.{equations_of}
use Rattle.fvn_rewrite_rules.specs.Given.{headed}
use Rattle.fvn_rewrite.specs.inner.Trying.{AllSidesFit}
use Rattle.fvn_rewrite.specs.inner.SortedTerms.{terms_of}
use Rattle.fvn_rewrite.specs.inner.Fitting.{SortedBindings, standing_for, AreBindings, IsFound}
use Rattle.fvn_rewrite.specs.inner.Making.{IsMade, IsMadeOver}
use Rattle.fvn_rewrite.proofs.InsideOut.{leads_itself, leads_to_term, made_variable, made_over, partly_none, partly_more, partly_all, instance_is_term, made_then, settling_value, settled_here, found_fits, settled_whole, settled_over}
use Rattle.fvn_rewrite.proofs.making.+make.Goals as goal

pub turn-returns-in_ok-value-in-Some : goal.turn-returns-in_ok-value-in-Some
turn-returns-in_ok-value-in-Some t c =
    made_variable c.args.pass.now.sig.now (equations_of c.args.pass.now.rules.now.equations) c.requires.laws.good c.args.bound.now c.in-Some.x c.args.p.now c.args.left record { value = c.in_ok-value-in-Some.value; left = c.args.left } c.requires.bindings
    (sym c.as_var.ensures ∙ c.in-Some.is) c.in_ok-value-in-Some.ensures refl

pub turn-returns-in-Some-all : goal.turn-returns-in-Some-all
turn-returns-in-Some-all t c =
    made_over c.args.pass.now.sig.now (equations_of c.args.pass.now.rules.now.equations) c.args.bound.now c.args.p.now c.in-Some-free_head.f c.args.left c.in-Some-all.made c.args-in-None.result.now c.args-in-None.ensures.exact
    (rw c.in-Some-free_head.is at c.free_head.ensures) c.requires.form (rw c.in-Some-all.is at c.in_ok-all-in-None.ensures)

pub make_all-loop-p-init : goal.make_all-loop-p-init
make_all-loop-p-init t c = partly_none c.args.pass.now.sig.now (equations_of c.args.pass.now.rules.now.equations) c.args.bound.now c.args.ps.now c.args.left c.new-values.result.items c.new-values.ensures.items

pub make_all-loop-p-preserved : goal.make_all-loop-p-preserved
make_all-loop-p-preserved t c =
    partly_more c.args.pass.now.sig.now (equations_of c.args.pass.now.rules.now.equations) c.requires.laws.rewriting c.requires.laws.sequences c.args.bound.now c.args.ps.now c.loop-p.p-index c.args.left c.loop-p.values.items c.push.new.self.items c.loop-p.spare c.p-item.result
    c.in-Some.made c.loop-p-test.true c.p-item.is c.in_ok-push-in-Some.ensures.items c.loop-p.invariant (rw c.in-Some.is at c.in_ok-next.ensures)

pub make_all-returns : goal.make_all-returns
make_all-returns t c =
    partly_all c.args.pass.now.sig.now (equations_of c.args.pass.now.rules.now.equations) c.args.bound.now c.args.ps.now c.loop-p.p-index c.args.left record { values = c.loop-p.values; left = c.loop-p.spare } c.loop-p-test.false c.loop-p.invariant

pub make-settle-requires : goal.make-settle-requires
make-settle-requires t c =
    let d = c.args.pass.now.sig.now in
    let E = equations_of c.args.pass.now.rules.now.equations in
    let whole = apply (standing_for c.args.bound.now) (plain c.args.p.now) in
    let f = c.in-Some-Over.f in
    let all = c.in-Some-Over.all in
    let over : IsMadeOver d E whole c.args.left f all = rw c.in-Some-Over.field-0-is at (rw c.in-Some-Over.is at c.in_ok-turned.ensures) in (
      omega arith,
      (
        c.requires.laws,
        (over.free, (over.sorted, leads_to_term d E c.requires.laws.kinds whole (app f (terms_of all.values.items)) c.args.left all.left over.leads (instance_is_term d E c.requires.laws.good c.args.bound.now c.args.p.now c.requires.bindings c.requires.form))),
      ),
    )

pub make-returns-in_ok-made-in-Some-Over : goal.make-returns-in_ok-made-in-Some-Over
make-returns-in_ok-made-in-Some-Over t c =
    let d = c.args.pass.now.sig.now in
    let E = equations_of c.args.pass.now.rules.now.equations in
    let whole = apply (standing_for c.args.bound.now) (plain c.args.p.now) in
    let over : IsMadeOver d E whole c.args.left c.in-Some-Over.f c.in-Some-Over.all = rw c.in-Some-Over.field-0-is at (rw c.in-Some-Over.is at c.in_ok-turned.ensures) in
    IfSome_then c.in_ok-made-in-Some-Over.made c.in_ok-made-in-Some-Over.ensures (λ one j. made_then d E c.requires.laws.rewriting whole c.args.left c.in-Some-Over.f c.in-Some-Over.all one over j)

pub settle-loop-value-init : goal.settle-loop-value-init
settle-loop-value-init t c = record { leads = leads_itself c.args.pass.now.sig.now (equations_of c.args.pass.now.rules.now.equations) (app c.args.f (terms_of c.args.args.items)) c.args.left; sorted = c.requires.sorted; free = c.requires.free }

pub settle-first_found-requires-clause-rules : goal.settle-first_found-requires-clause-rules
settle-first_found-requires-clause-rules t c = subst (AllSidesFit c.args.pass.now.sig.now) (sym c.headed.ensures) (c.requires.laws.fit c.loop-value.head)

pub settle-first_found-requires-clause-value : goal.settle-first_found-requires-clause-value
settle-first_found-requires-clause-value t c =
    settling_value c.args.pass.now.sig.now (equations_of c.args.pass.now.rules.now.equations) (app c.args.f (terms_of c.args.args.items)) c.args.left c.loop-value.head c.loop-value.now.items c.loop-value.spare c.loop-value.invariant c.in_ok-value.value c.in_ok-value.ensures
    c.requires.laws.kinds c.requires.kinded

pub settle-returns-in_default : goal.settle-returns-in_default
settle-returns-in_default t c =
    settled_here c.args.pass.now.sig.now (equations_of c.args.pass.now.rules.now.equations) (app c.args.f (terms_of c.args.args.items)) c.args.left c.loop-value.head c.loop-value.now.items c.loop-value.spare c.loop-value.invariant c.in_ok-value.value c.in_ok-value.ensures
    record { value = c.in_ok-value.value; left = c.loop-value.spare } refl refl

pub settle-turn-requires : goal.settle-turn-requires
settle-turn-requires t c =
    let d = c.args.pass.now.sig.now in
    let found : IsFound d (headed c.args.pass.now.rules.now c.loop-value.head) c.in_ok-value.value c.in-Some.rule = subst (λ rules. IsFound d rules c.in_ok-value.value c.in-Some.rule) c.headed.ensures (rw c.in-Some.is at c.in_ok-found.ensures) in (
      omega arith,
      (
        c.requires.laws,
        (found_fits d c.args.pass.now.rules.now c.requires.laws c.in_ok-value.value c.loop-value.head c.in-Some.rule found, subst (AreBindings d) (sym c.as_slice-bound.ensures.value) found.bindings),
      ),
    )

pub settle-returns-in-Some-Whole : goal.settle-returns-in-Some-Whole
settle-returns-in-Some-Whole t c =
    let d = c.args.pass.now.sig.now in
    let E = equations_of c.args.pass.now.rules.now.equations in
    let rule = c.in-Some.rule in
    let found : IsFound d (headed c.args.pass.now.rules.now c.loop-value.head) c.in_ok-value.value rule = subst (λ rules. IsFound d rules c.in_ok-value.value rule) c.headed.ensures (rw c.in-Some.is at c.in_ok-found.ensures) in
    let whole = subst (λ (b : SortedBindings). IsMade d E (apply (standing_for b) (plain rule.right.now)) (c.loop-value.spare - 1) c.in-Some-Whole.made) c.as_slice-bound.ensures.value (rw c.in-Some-Whole.field-0-is at (rw c.in-Some-Whole.is at c.in_ok-turned.ensures)) in
    settled_whole d c.args.pass.now.rules.now c.requires.laws c.in_ok-value.value c.loop-value.head rule found (app c.args.f (terms_of c.args.args.items)) c.args.left c.loop-value.now.items c.loop-value.spare c.loop-value.invariant c.in_ok-value.ensures
    (omega (arith, c.if-spent.false)) c.in-Some-Whole.made whole

pub settle-loop-value-preserved : goal.settle-loop-value-preserved
settle-loop-value-preserved t c =
    let d = c.args.pass.now.sig.now in
    let E = equations_of c.args.pass.now.rules.now.equations in
    let rule = c.in-Some.rule in
    let found : IsFound d (headed c.args.pass.now.rules.now c.loop-value.head) c.in_ok-value.value rule = subst (λ rules. IsFound d rules c.in_ok-value.value rule) c.headed.ensures (rw c.in-Some.is at c.in_ok-found.ensures) in
    let over = subst (λ (b : SortedBindings). IsMadeOver d E (apply (standing_for b) (plain rule.right.now)) (c.loop-value.spare - 1) c.in-Some-Over.g c.in-Some-Over.all) c.as_slice-bound.ensures.value (rw c.in-Some-Over.field-0-is at (rw c.in-Some-Over.is at c.in_ok-turned.ensures)) in
    settled_over d c.args.pass.now.rules.now c.requires.laws c.in_ok-value.value c.loop-value.head rule found (app c.args.f (terms_of c.args.args.items)) c.args.left c.loop-value.now.items c.loop-value.spare c.loop-value.invariant c.in_ok-value.ensures
    (omega (arith, c.if-spent.false)) c.in-Some-Over.g c.in-Some-Over.all over

pub settle-loop-value-smaller : goal.settle-loop-value-smaller
settle-loop-value-smaller t c =
    let d = c.args.pass.now.sig.now in
    let E = equations_of c.args.pass.now.rules.now.equations in
    let over : IsMadeOver d E (apply (standing_for c.as_slice-bound.result.now) (plain c.in-Some.rule.right.now)) (c.loop-value.spare - 1) c.in-Some-Over.g c.in-Some-Over.all = rw c.in-Some-Over.field-0-is at (rw c.in-Some-Over.is at c.in_ok-turned.ensures) in
    omega (arith, over.leads.spent, c.if-spent.false)
