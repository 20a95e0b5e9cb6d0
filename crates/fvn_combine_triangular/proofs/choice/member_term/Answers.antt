-- An operator over the names of classes.
use Rattle.std.proofs.Common.{◌≡◌, ℕ, List, sym, ap, ◌∙◌, subst, Some}
use Rattle.fvn_forms.specs.Canon.{build}
use Rattle.fvn_flat.specs.Fits.{AllFit, Takes}
use Rattle.fvn_combine_nodes.specs.Table.{IsOver}
use Rattle.fvn_combine_nodes.specs.States.{class_of}
use Rattle.fvn_combine_triangular.specs.inner.Planning.{over_names}
use Rattle.fvn_combine_triangular.proofs.Forms.{name_forms, names_fit, names_taken}
use Rattle.fvn_combine_triangular.proofs.choice.member_term.Goals as goal
use Rattle.fvn_combine_triangular.proofs.choice.member_term.Goals.{In_ok-args-in-App}

forms : (c : In_ok-args-in-App) → c.in_ok-args-in-App.args.items ≡ name_forms c.args.sig.now (class_of c.args.state.now) c.args.names.now c.in-App.ks
forms c = c.in_ok-args-in-App.ensures ∙ ap (λ (ks : List ℕ). name_forms c.args.sig.now (class_of c.args.state.now) c.args.names.now ks) c.as_slice.ensures

over : (c : In_ok-args-in-App) → IsOver c.args.table.now.nodes c.args.i c.in-App.f c.in-App.ks
over c = c.node.ensures ∙ ap Some c.in-App.is

pub app-requires-clause-fit : goal.app-requires-clause-fit
app-requires-clause-fit c = subst (AllFit c.args.sig.now) (sym (forms (goal.at.app-requires-clause-fit c).In_ok-args-in-App)) (names_fit c.recall_good.ensures.fits c.recall_well_made.ensures c.requires.kinded c.args.i c.in-App.f c.in-App.ks (over (goal.at.app-requires-clause-fit c).In_ok-args-in-App))

pub app-requires-clause-takes : goal.app-requires-clause-takes
app-requires-clause-takes c = subst (Takes c.args.sig.now c.in-App.f) (sym (forms (goal.at.app-requires-clause-takes c).In_ok-args-in-App)) (names_taken c.recall_good.ensures.fits c.recall_well_made.ensures c.requires.kinded c.args.i c.in-App.f c.in-App.ks (over (goal.at.app-requires-clause-takes c).In_ok-args-in-App))

pub returns-in_ok-t-in-App : goal.returns-in_ok-t-in-App
returns-in_ok-t-in-App c =
    let at = (goal.at.returns-in_ok-t-in-App c).In_ok-args-in-App in
    record {
      exact =
          c.in_ok-t-in-App.ensures.exact
          ∙ ap (build c.args.sig.now c.in-App.f) (forms at)
          ∙ ap (over_names c.args.sig.now c.args.table.now (class_of c.args.state.now) c.args.names.now) (sym (over at));
    }
