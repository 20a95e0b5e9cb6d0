-- The search goes on, or ends.
use Rattle.std.proofs.Common.{refl, ◌∙◌, ap, subst, inr, arith, length, ◌<◌}
use Rattle.fvn_axunify.specs.inner.Nexts.{IsNext}
use Rattle.fvn_axunify.proofs.Ends.{kept_none, few_none, run_begun, end_found, ends_so, settled_along, given_here, of_after, goes_on, run_on, run_full}
use Rattle.fvn_axunify.proofs.search.run_through.Goals as goal

pub next-init : goal.next-init
next-init c =
    let d = c.args.task.now.sig.now in
    let given = c.args.task.now.problem.now in
    let vars = c.args.task.now.vars.now in
    let none = c.new-kept.ensures in
    record {
      of = c.requires.of;
      general = refl;
      are = kept_none d given vars c.new-kept.result none c.args.task.now.first;
      few = few_none d given vars c.new-kept.result none c.args.task.now.limits.unifiers c.requires.some;
      all = λ u h. inr (c.requires.all u h);
      run = run_begun d given vars c.new-kept.result none c.args.combiner.now;
    }

pub with_refinements-requires-clause-given : goal.with_refinements-requires-clause-given
with_refinements-requires-clause-given c =
    let next = subst (IsNext c.next.combiner c.step.new.combiner) c.in-Given.is c.in_ok-end.ensures.next in
    given_here c.args.task.now.sig.now c.args.task.now.problem.now c.args.task.now.vars.now c.args.task.now.first c.args.task.now.limits.unifiers c.args.task.now.limits.size
    c.next.combiner c.step.new.combiner c.next.invariant.of c.in-Given.g next.0

pub returns-in-End-clause-found : goal.returns-in-End-clause-found
returns-in-End-clause-found c = λ settled.
    end_found c.args.task.now.sig.now c.args.task.now.problem.now c.args.task.now.vars.now c.args.task.now.first c.args.task.now.limits.unifiers c.args.task.now.limits.size
    c.next.combiner c.step.new.combiner c.next.invariant.of c.next.kept c.next.invariant.are c.next.invariant.few c.next.invariant.all c.in-End.end
    (settled_along c.args.combiner.now c.next.combiner c.next.invariant.general c.in-End.end settled)
    (subst (IsNext c.next.combiner c.step.new.combiner) c.in-End.is c.in_ok-end.ensures.next)

pub returns-in-End-clause-run : goal.returns-in-End-clause-run
returns-in-End-clause-run c = λ settled. record {
  last = c.next.combiner;
  run = c.next.invariant.run;
  ended = ends_so c.next.combiner c.step.new.combiner c.in-End.end
      (settled_along c.args.combiner.now c.next.combiner c.next.invariant.general c.in-End.end settled)
      (subst (IsNext c.next.combiner c.step.new.combiner) c.in-End.is c.in_ok-end.ensures.next);
}

pub returns-then-most-len-clause-found : goal.returns-then-most-len-clause-found
returns-then-most-len-clause-found c = λ settled. record {
  are = c.in_ok-kept-in-Given.ensures.are;
  end_of = omega (arith, c.in_ok-kept-in-Given.ensures.few, c.if-most-len.true, c.len.ensures);
}

pub returns-then-most-len-clause-run : goal.returns-then-most-len-clause-run
returns-then-most-len-clause-run c = λ settled.
    let next = subst (IsNext c.next.combiner c.step.new.combiner) c.in-Given.is c.in_ok-end.ensures.next in
    run_full c.args.task.now.sig.now c.args.task.now.problem.now c.args.task.now.vars.now c.args.task.now.first c.args.task.now.limits.unifiers c.args.task.now.limits.size
    c.next.combiner c.step.new.combiner c.next.invariant.of c.in-Given.g next.0 c.args.combiner.now c.next.kept c.in_ok-kept-in-Given.kept c.in_ok-kept-in-Given.ensures c.next.invariant.run

pub next-preserved : goal.next-preserved
next-preserved c =
    let d = c.args.task.now.sig.now in
    let given = c.args.task.now.problem.now in
    let vars = c.args.task.now.vars.now in
    let first = c.args.task.now.first in
    let most = c.args.task.now.limits.unifiers in
    let size = c.args.task.now.limits.size in
    let next = subst (IsNext c.next.combiner c.step.new.combiner) c.in-Given.is c.in_ok-end.ensures.next in
    let w = c.in_ok-kept-in-Given.ensures in
    let few : length c.in_ok-kept-in-Given.kept < most = omega (arith, c.if-most-len.false, c.len.ensures) in
    record {
      of = of_after d given vars first most size c.next.combiner c.step.new.combiner c.next.invariant.of c.in-Given.g next.0 c.step.ensures.same;
      general = ap (λ k. k.general) c.step.ensures.same ∙ c.next.invariant.general;
      are = w.are;
      few = few;
      all = goes_on d given vars first most size c.next.combiner c.step.new.combiner c.next.invariant.of c.in-Given.g next.0 c.requires.asked c.next.kept c.in_ok-kept-in-Given.kept w few c.next.invariant.all;
      run = run_on d given vars first most size c.next.combiner c.step.new.combiner c.next.invariant.of c.in-Given.g next.0 c.args.combiner.now c.next.kept c.in_ok-kept-in-Given.kept w few c.next.invariant.run;
    }
