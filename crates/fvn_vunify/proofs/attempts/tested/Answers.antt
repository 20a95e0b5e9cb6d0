-- One more unifier.
use Rattle.std.proofs.Common.{List, Vec, Global, sym, ap, ◌∙◌, subst, [], ◌∷◌, ◌++◌, take}
use Rattle.std.proofs.lemmas.List.{take_all}
use Rattle.fvn_flat.specs.Bindings.{BindingsFit, IsRestriction, composed}
use Rattle.fvn_cover.specs.declared.variant.Variant.{Variant}
use Rattle.fvn_exploring.specs.declared.ends.ExpandEnd.TheVariants.{Whole}
use Rattle.fvn_vunify.specs.inner.Tests.{AreTestsOfAll}
use Rattle.fvn_vunify.specs.inner.Attempts.{IsJoined, AreTested}
use Rattle.fvn_vunify.proofs.Tested.{take_next, tested_none, tested_as, tested_passed, tested_reducible, tested_stopped}
use Rattle.fvn_vunify.proofs.attempts.tested.Goals.{in-Irreducible+in_ok-u-in-Irreducible+in_ok-push-in-Irreducible, in-Reducible, in-Stopped}
use Rattle.fvn_vunify.proofs.attempts.tested.Goals as goal

pub loop-s-init : goal.loop-s-init
loop-s-init g c =
    let s = g.E.Expander.setting c.args.expander.now in
    subst (λ l. AreTested s c.args.vars.now c.args.renamed.now [] l Whole) (sym c.new-found.ensures.items) (tested_none s c.args.vars.now c.args.renamed.now)

pub joined-requires-clause-then : goal.joined-requires-clause-then
joined-requires-clause-then g c = subst (BindingsFit c.args.sig.now) (sym c.s-item.is) (c.requires.unifiers c.loop-s.s-index c.s-item.result c.loop-s-test.true)

pub loop-s-preserved : goal.loop-s-preserved
loop-s-preserved g c =
    let s = g.E.Expander.setting c.args.expander.now in
    let vars = c.args.vars.now in
    let first = c.args.renamed.now in
    let by = c.in_ok-subst.subst in
    let so_far = take c.loop-s.s-index c.args.unifiers.now in
    let more = take_next c.args.unifiers.now c.loop-s.s-index c.s-item.result c.loop-s-test.true c.s-item.is in
    let joined : IsJoined s vars first c.s-item.result by = subst (λ d. IsRestriction vars (composed d first c.s-item.result) by) c.requires.sig c.in_ok-subst.ensures.made in
    let fits : BindingsFit s.declarations by = subst (λ d. BindingsFit d by) c.requires.sig c.in_ok-subst.ensures.fits in
    let items : Vec Variant Global → List Variant = λ v. v.items in
    elim c.match-branch-3.branch [
      | in-Irreducible+in_ok-u-in-Irreducible+in_ok-push-in-Irreducible w ↦
          tested_as s vars first more
          (ap items w.found-is ∙ w.in_ok-push-in-Irreducible.ensures.items ∙ ap (λ u. c.loop-s.found.items ++ u ∷ []) w.in_ok-u-in-Irreducible.ensures)
          w.end-is
          (tested_passed s vars first so_far c.loop-s.found.items c.loop-s.end c.loop-s.invariant c.s-item.result by joined fits
          (subst (AreTestsOfAll s vars by) w.in-Irreducible.is c.in_ok-test_kept.ensures))
      | in-Reducible w ↦
          tested_as s vars first more (ap items w.found-is) w.end-is
          (tested_reducible s vars first so_far c.loop-s.found.items c.loop-s.end c.loop-s.invariant c.s-item.result by joined fits
          (subst (AreTestsOfAll s vars by) w.in-Reducible.is c.in_ok-test_kept.ensures))
      | in-Stopped w ↦
          tested_as s vars first more (ap items w.found-is) (w.end-is ∙ w.first_end-end.ensures)
          (tested_stopped s vars first so_far c.loop-s.found.items c.loop-s.end c.loop-s.invariant c.s-item.result by joined fits w.in-Stopped.stop
          (subst (AreTestsOfAll s vars by) w.in-Stopped.is c.in_ok-test_kept.ensures))
    ]

pub returns : goal.returns
returns g c =
    subst (λ l. AreTested (g.E.Expander.setting c.args.expander.now) c.args.vars.now c.args.renamed.now l c.loop-s.found.items c.loop-s.end)
    (take_all c.loop-s.s-index c.args.unifiers.now c.loop-s-test.false) c.loop-s.invariant
