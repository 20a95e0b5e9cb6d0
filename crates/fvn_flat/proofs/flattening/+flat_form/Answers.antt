-- The forms of one more argument, and what the operator builds of them all.
use Rattle.std.proofs.Common.{◌≡◌, [], ◌∷◌, ◌++◌, sym, ap, ◌∙◌}
use Rattle.fvn_terms.specs.Plain.{term}
use Rattle.fvn_forms.specs.Flat.{FlatTerm}
use Rattle.fvn_forms.specs.Canon.{build, canon}
use Rattle.fvn_flat.specs.inner.Gathered.{gathered_of, gathered}
use Rattle.fvn_flat.proofs.Gathering.{build_gathered, gathered-step}
use Rattle.fvn_flat.proofs.flattening.+flat_form.Goals as goal
use Rattle.fvn_flat.proofs.flattening.+flat_form.Goals.{add_forms-in-Some+in_ok-add_forms-in-Some, add_forms-in-None+in_ok-form-in-None+in_ok-push-in-None}

pub add_forms-loop-u-preserved : goal.add_forms-loop-u-preserved
add_forms-loop-u-preserved t c =
    let d = c.args.sig.now in
    let f = c.args.f in
    let u = c.u-item.result in
    let one : c.match-nested_args.forms.items ≡ c.loop-u.forms.items ++ gathered_of d f (term u) =
    elim c.match-nested_args.branch [
      | add_forms-in-Some+in_ok-add_forms-in-Some w ↦ ap (λ v. v.items) w.forms-is ∙ w.in_ok-add_forms-in-Some.ensures ∙ ap (λ l. c.loop-u.forms.items ++ l) (sym w.in-Some.ensures.gathers)
      | add_forms-in-None+in_ok-form-in-None+in_ok-push-in-None w ↦ ap (λ v. v.items) w.forms-is ∙ w.in_ok-push-in-None.ensures.items ∙ ap (λ (v : FlatTerm). c.loop-u.forms.items ++ v ∷ []) w.in_ok-form-in-None.ensures ∙ ap (λ l. c.loop-u.forms.items ++ l) (sym w.in-None.ensures)
    ]
    in
    gathered-step d f c.args.forms.now.items c.loop-u.forms.items c.match-nested_args.forms.items c.deref-u-items.result.now c.loop-u.u-index u c.loop-u.invariant one c.loop-u-test.true c.u-item.is

pub flat_form-returns-in_ok-whole-in-App : goal.flat_form-returns-in_ok-whole-in-App
flat_form-returns-in_ok-whole-in-App t c =
    c.in_ok-whole-in-App.ensures
    ∙ ap (build c.args.sig.now c.in-App.f) (c.in_ok-add_forms-in-App.ensures ∙ ap (λ l. l ++ gathered c.args.sig.now c.in-App.f c.in-App.us) c.new-forms.ensures.items)
    ∙ build_gathered c.args.sig.now c.in-App.f c.in-App.us
    ∙ ap (λ u. canon c.args.sig.now (term u)) (sym c.in-App.is)
