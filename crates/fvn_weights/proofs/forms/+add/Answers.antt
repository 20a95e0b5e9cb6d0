-- A variable, a head and one argument more are added.
use Rattle.std.proofs.Common.{◌≡◌, ◌+◌, ◌*◌, refl, sym, subst, ap, ◌∙◌, arith}
use Rattle.std.specs.Prelude.{slice_index_or}
use Rattle.std.proofs.lemmas.List.{take_all}
use Rattle.fvn_terms.specs.declared.plain.Plain.{Plain}
use Rattle.fvn_terms.specs.Term.{Terms}
use Rattle.fvn_terms.specs.Plain.{term, terms}
use Rattle.fvn_weights.specs.declared.forms.Form.{Form}
use Rattle.fvn_weights.specs.Weighing.{linear}
use Rattle.fvn_weights.specs.inner.Numbers.{capped}
use Rattle.fvn_weights.specs.inner.Forms.{IsAdded, AreAdded}
use Rattle.fvn_weights.proofs.Adding.{nodes_at, variable_added, head_added, none_added, one_added}
use Rattle.fvn_weights.proofs.forms.+add.Goals as goal

pub add_all-add_term-requires : goal.add_all-add_term-requires
add_all-add_term-requires t c =
    let whole : terms c.deref-t-items.result.now ≡ c.args.us.now = ap terms c.deref-t-items.ensures.value ∙ c.us.view_is in
    (omega (arith, nodes_at c.deref-t-items.result.now c.args.us.now c.loop-t.t-index c.t-item.result whole c.loop-t-test.true c.t-item.is), c.loop-t.invariant.added.placed)

pub add_all-loop-t-init : goal.add_all-loop-t-init
add_all-loop-t-init t c = record {
  count = refl;
  added = none_added (linear c.args.weights.now.list) c.args.factor c.args.f c.args.form.now c.requires;
}

pub add_all-loop-t-preserved : goal.add_all-loop-t-preserved
add_all-loop-t-preserved t c =
    let w = linear c.args.weights.now.list in
    let same = c.loop-t.invariant.count in
    let count = c.counted-count.ensures ∙ ap (λ l. slice_index_or l c.loop-t.i 1) c.coefficients_of-coefficients.ensures in
    let counted = c.times-many.ensures ∙ ap (λ n. capped (c.args.factor * n)) (count ∙ ap (w.coefficient c.args.f) same) in
    record {
      count = omega (arith, same);
      added = one_added w c.args.factor c.args.f c.deref-t-items.result.now c.loop-t.t-index c.t-item.result c.args.form.now c.loop-t.form c.add_term.new.form c.times-many.result c.loop-t-test.true c.t-item.is counted c.loop-t.invariant.added c.in_ok-add_term.ensures;
    }

pub add_all-returns : goal.add_all-returns
add_all-returns t c =
    let w = linear c.args.weights.now.list in
    let whole : terms c.deref-t-items.result.now ≡ c.args.us.now = ap terms c.deref-t-items.ensures.value ∙ c.us.view_is in
    subst (λ (ts : Terms). AreAdded w c.args.factor c.args.f ts c.args.form.now c.loop-t.form)
    (ap terms (take_all c.loop-t.t-index c.deref-t-items.result.now c.loop-t-test.false) ∙ whole) c.loop-t.invariant.added

pub add_term-returns-in_ok-raise-in-Var : goal.add_term-returns-in_ok-raise-in-Var
add_term-returns-in_ok-raise-in-Var t c =
    let w = linear c.args.weights.now.list in
    let before = c.args.form.now in
    let after : Form = record { constant = before.constant; factors = c.raise.new.factors; starts = c.raise.new.starts } in
    subst (λ (u : Plain). IsAdded w c.args.factor (term u) before after) (sym c.in-Var.is)
    (variable_added w c.args.factor c.in-Var.x before after refl c.in_ok-raise-in-Var.ensures)

pub add_term-returns-in_ok-add_all-in-App : goal.add_term-returns-in_ok-add_all-in-App
add_term-returns-in_ok-add_all-in-App t c =
    let w = linear c.args.weights.now.list in
    let before = c.args.form.now in
    subst (λ (u : Plain). IsAdded w c.args.factor (term u) before c.add_all.new.form) (sym c.in-App.is)
    (head_added w c.args.factor c.in-App.f c.in-App.us before _ c.add_all.new.form
    (c.plus-more.ensures ∙ ap (λ n. capped (before.constant + n)) (c.times-own.ensures ∙ ap (λ n. capped (c.args.factor * n)) c.constant_at-adds.ensures)) refl c.in_ok-add_all-in-App.ensures)
