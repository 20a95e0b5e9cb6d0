-- One argument more, the operator over them, and one step at the root more.
use Rattle.std.proofs.Common.{◌-◌, refl, sym, ◌∙◌, arith}
use Rattle.std.proofs.lemmas.Option.{IfSome_then}
use Rattle.fvn_theory.specs.Equations.{equations_of}
use Rattle.fvn_rewrite.specs.inner.Making.{IsReachedFrom}
use Rattle.fvn_rewrite.specs.inner.Inside.{AreReachedFrom}
use Rattle.fvn_rewrite.specs.inner.Walking.{IsNext}
use Rattle.fvn_rewrite.proofs.InsideAxioms.{reached_here, none_reached, all_reached, reached_then, reached_step, more_reached, reached_taken, over_reached}
use Rattle.fvn_rewrite.proofs.inside.+inside.Goals as goal

pub inside_all-loop-t-init : goal.inside_all-loop-t-init
inside_all-loop-t-init t c = none_reached c.args.pass.now.sig.now (equations_of c.args.pass.now.rules.now.equations) c.args.ts.now c.args.left c.new-forms.result.items c.new-forms.ensures.items

pub inside_all-loop-t-preserved : goal.inside_all-loop-t-preserved
inside_all-loop-t-preserved t c =
    more_reached c.args.pass.now.sig.now c.args.pass.now.rules.now c.requires.laws c.args.ts.now c.loop-t.t-index c.args.left c.loop-t.forms.items c.push.new.self.items c.loop-t.spare c.t-item.result c.in-Some.reached c.loop-t-test.true c.t-item.is c.in_ok-push-in-Some.ensures.items c.loop-t.invariant
    (rw c.in-Some.is at c.in_ok-next.ensures)

pub inside_all-returns : goal.inside_all-returns
inside_all-returns t c =
    all_reached c.args.pass.now.sig.now (equations_of c.args.pass.now.rules.now.equations) c.args.ts.now c.loop-t.t-index c.args.left record { forms = c.loop-t.forms; left = c.loop-t.spare; symbols = c.loop-t.symbols } c.loop-t-test.false c.loop-t.invariant

pub arguments_first-inside_all-requires : goal.arguments_first-inside_all-requires
arguments_first-inside_all-requires t c = (omega arith, (c.requires.laws, (c.requires.rules, c.args-in-Some.ensures.fit c.args.pass.now.sig.now c.requires.laws.good.fits c.requires.form)))

pub arguments_first-app-requires : goal.arguments_first-app-requires
arguments_first-app-requires t c =
    let d = c.args.pass.now.sig.now in
    let E = equations_of c.args.pass.now.rules.now.equations in
    let all : AreReachedFrom d E c.args-in-Some.result.now c.args.left c.in-Some-all.reached = rw c.in-Some-all.is at c.in_ok-all-in-Some.ensures in record {
      fit = all.fit;
      takes = reached_taken d c.args.pass.now.rules.now c.requires.laws c.args.t.now c.in-Some.f (sym c.head.ensures ∙ c.in-Some.is) c.requires.form c.args.left c.args-in-Some.result.now c.args-in-Some.ensures.exact c.in-Some-all.reached all;
    }

pub arguments_first-returns-in_ok-form-in-Some-all : goal.arguments_first-returns-in_ok-form-in-Some-all
arguments_first-returns-in_ok-form-in-Some-all t c =
    let d = c.args.pass.now.sig.now in
    let E = equations_of c.args.pass.now.rules.now.equations in
    let all : AreReachedFrom d E c.args-in-Some.result.now c.args.left c.in-Some-all.reached = rw c.in-Some-all.is at c.in_ok-all-in-Some.ensures in
    over_reached d c.args.pass.now.rules.now c.requires.laws c.args.t.now c.in-Some.f (sym c.head.ensures ∙ c.in-Some.is) c.requires.form c.args.left c.args-in-Some.result.now c.args-in-Some.ensures.exact c.in-Some-all.reached all
    c.in_ok-form-in-Some-all.form c.in_ok-form-in-Some-all.ensures.equal c.in_ok-form-in-Some-all.ensures.fits

pub arguments_first-returns-in_ok-form-in-None : goal.arguments_first-returns-in_ok-form-in-None
arguments_first-returns-in_ok-form-in-None t c =
    reached_here c.args.pass.now.sig.now (equations_of c.args.pass.now.rules.now.equations) c.args.t.now c.args.left c.in_ok-form-in-None.form c.in_ok-form-in-None.ensures c.requires.form

pub settle-loop-now-init : goal.settle-loop-now-init
settle-loop-now-init t c = reached_here c.args.pass.now.sig.now (equations_of c.args.pass.now.rules.now.equations) c.args.start.form c.args.start.left c.args.start.form refl c.requires.form

pub settle-arguments_first-requires : goal.settle-arguments_first-requires
settle-arguments_first-requires t c =
    let next : IsNext c.args.pass.now.sig.now (equations_of c.args.pass.now.rules.now.equations) c.loop-now.now.form c.in-Some.next = rw c.in-Some.is at c.in_ok-found.ensures in (omega arith, (c.requires.laws, (c.requires.rules, next.fits)))

pub settle-loop-now-preserved : goal.settle-loop-now-preserved
settle-loop-now-preserved t c =
    let d = c.args.pass.now.sig.now in
    let E = equations_of c.args.pass.now.rules.now.equations in
    let next : IsNext d E c.loop-now.now.form c.in-Some.next = rw c.in-Some.is at c.in_ok-found.ensures in
    let over : IsReachedFrom d E c.in-Some.next (c.loop-now.now.left - 1) c.in-Some-over.reached.form c.in-Some-over.reached.left = rw c.in-Some-over.is at c.in_ok-over.ensures in
    reached_step d c.args.pass.now.rules.now c.requires.laws c.args.start.form c.args.start.left c.loop-now.now.form c.loop-now.now.left c.in-Some.next c.in-Some-over.reached.form c.in-Some-over.reached.left (omega (arith, c.if-spent.false)) c.loop-now.invariant next over

pub settle-loop-now-preserved-in-Some-over : goal.settle-loop-now-preserved-in-Some-over
settle-loop-now-preserved-in-Some-over t c =
    let d = c.args.pass.now.sig.now in
    let E = equations_of c.args.pass.now.rules.now.equations in
    let next : IsNext d E c.loop-now.now.form c.in-Some.next = rw c.in-Some.is at c.in_ok-found.ensures in
    let over : IsReachedFrom d E c.in-Some.next (c.loop-now.now.left - 1) c.in-Some-over.reached.form c.in-Some-over.reached.left = rw c.in-Some-over.is at c.in_ok-over.ensures in
    reached_step d c.args.pass.now.rules.now c.requires.laws c.args.start.form c.args.start.left c.loop-now.now.form c.loop-now.now.left c.in-Some.next c.in-Some-over.reached.form c.in-Some-over.reached.left (omega (arith, c.if-spent.false)) c.loop-now.invariant next over

pub settle-loop-now-smaller : goal.settle-loop-now-smaller
settle-loop-now-smaller t c =
    let d = c.args.pass.now.sig.now in
    let E = equations_of c.args.pass.now.rules.now.equations in
    let over : IsReachedFrom d E c.in-Some.next (c.loop-now.now.left - 1) c.in-Some-over.reached.form c.in-Some-over.reached.left = rw c.in-Some-over.is at c.in_ok-over.ensures in
    omega (arith, over.spent, c.if-spent.false)

pub settle-loop-now-smaller-in-Some-over : goal.settle-loop-now-smaller-in-Some-over
settle-loop-now-smaller-in-Some-over t c =
    let d = c.args.pass.now.sig.now in
    let E = equations_of c.args.pass.now.rules.now.equations in
    let over : IsReachedFrom d E c.in-Some.next (c.loop-now.now.left - 1) c.in-Some-over.reached.form c.in-Some-over.reached.left = rw c.in-Some-over.is at c.in_ok-over.ensures in
    omega (arith, over.spent, c.if-spent.false)

pub inside-settle-requires : goal.inside-settle-requires
inside-settle-requires t c =
    let d = c.args.pass.now.sig.now in
    let E = equations_of c.args.pass.now.rules.now.equations in
    let over : IsReachedFrom d E c.args.t.now c.args.left c.in-Some.one.form c.in-Some.one.left = rw c.in-Some.is at c.in_ok-over.ensures in (omega arith, (c.requires.laws, (c.requires.rules, over.reached.fits)))

pub inside-returns-in_ok-reached-in-Some : goal.inside-returns-in_ok-reached-in-Some
inside-returns-in_ok-reached-in-Some t c =
    let d = c.args.pass.now.sig.now in
    let E = equations_of c.args.pass.now.rules.now.equations in
    let over : IsReachedFrom d E c.args.t.now c.args.left c.in-Some.one.form c.in-Some.one.left = rw c.in-Some.is at c.in_ok-over.ensures in
    IfSome_then c.in_ok-reached-in-Some.reached c.in_ok-reached-in-Some.ensures (λ r j. reached_then d c.args.pass.now.rules.now c.requires.laws c.args.t.now c.args.left c.in-Some.one.form c.in-Some.one.left r.form r.left over j)

pub settle-at_root-requires-clause-form : goal.settle-at_root-requires-clause-form
settle-at_root-requires-clause-form t c = c.loop-now.invariant.reached.fits

pub settle-returns-in_default : goal.settle-returns-in_default
settle-returns-in_default t c = c.loop-now.invariant
