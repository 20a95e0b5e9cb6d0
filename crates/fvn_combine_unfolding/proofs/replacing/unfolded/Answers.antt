-- One more binding.
use Rattle.std.proofs.Common.{◌+◌, drop, sym, ap, ◌∙◌, subst}
use Rattle.std.proofs.lemmas.Bool.{false≢true}
use Rattle.std.proofs.lemmas.List.Elements.{All-drop}
use Rattle.fvn_forms.specs.Flat.{FlatTerm}
use Rattle.fvn_combine_unfolding.specs.Sizes.{IsFitting}
use Rattle.fvn_combine_unfolding.specs.inner.Replaced.{replaced}
use Rattle.fvn_combine_unfolding.proofs.Steps.{variable_fits, step_fits, step_free, replaced_free, replaced_more, replaced_all, unfolding_is}
use Rattle.fvn_combine_unfolding.proofs.replacing.unfolded.Goals as goal

pub loop-y-init : goal.loop-y-init
loop-y-init c = record {
  whole = ap (replaced c.args.sig.now c.args.bindings.now) c.var-t.ensures;
  fits = subst (λ (t : FlatTerm). IsFitting c.args.sig.now (c.args.x, t)) (sym c.var-t.ensures) (variable_fits c.args.sig.now c.recall_good.ensures c.args.x c.requires.sort);
}

pub replaced_one-requires : goal.replaced_one-requires
replaced_one-requires c = record {
  binding = subst (IsFitting c.args.sig.now) (sym c.loop-y-item.is) (c.requires.bindings c.loop-y.y-index c.loop-y-item.result c.loop-y-test.true);
  term = record { flat = c.loop-y.invariant.fits.flat; kinded = (_, c.loop-y.invariant.fits.kinded) };
}

pub loop-y-preserved : goal.loop-y-preserved
loop-y-preserved c =
    let d = c.args.sig.now in
    let p = c.loop-y-item.result in
    let here = subst (IsFitting d) (sym c.loop-y-item.is) (c.requires.bindings c.loop-y.y-index p c.loop-y-test.true) in
    record {
      whole = replaced_more d c.args.bindings.now c.loop-y.y-index p c.loop-y.t c.in_ok-t.t c.loop-y-test.true c.loop-y-item.is c.in_ok-t.ensures.exact ∙ c.loop-y.invariant.whole;
      fits = subst (λ (t : FlatTerm). IsFitting d (c.args.x, t)) (sym c.in_ok-t.ensures.exact) (step_fits d c.recall_good.ensures p here c.args.x c.loop-y.t c.loop-y.invariant.fits);
    }

pub returns-clause-exact : goal.returns-clause-exact
returns-clause-exact c = replaced_all c.args.sig.now c.args.bindings.now c.loop-y.y-index c.args.x c.loop-y.t c.requires.bindings c.loop-y-test.false c.loop-y.invariant.whole

pub loop-y-preserved-then-not-has_var : goal.loop-y-preserved-then-not-has_var
loop-y-preserved-then-not-has_var c =
    let d = c.args.sig.now in
    let p = c.loop-y-item.result in
    let here = subst (IsFitting d) (sym c.loop-y-item.is) (c.requires.bindings c.loop-y.y-index p c.loop-y-test.true) in
    let same = step_free d p here c.loop-y.t c.loop-y.invariant.fits.flat (λ o. false≢true (sym c.if-not-has_var.true ∙ c.has_var.ensures.1 o)) in
    record {
      whole = replaced_more d c.args.bindings.now c.loop-y.y-index p c.loop-y.t c.loop-y.t c.loop-y-test.true c.loop-y-item.is same ∙ c.loop-y.invariant.whole;
      fits = c.loop-y.invariant.fits;
    }

pub returns-then-is_constant-clause-exact : goal.returns-then-is_constant-clause-exact
returns-then-is_constant-clause-exact c =
    let d = c.args.sig.now in
    let bindings = c.args.bindings.now in
    let i = c.loop-y.y-index in
    let p = c.loop-y-item.result in
    let here = subst (IsFitting d) (sym c.loop-y-item.is) (c.requires.bindings i p c.loop-y-test.true) in
    let fits = subst (λ (t : FlatTerm). IsFitting d (c.args.x, t)) (sym c.in_ok-t.ensures.exact) (step_fits d c.recall_good.ensures p here c.args.x c.loop-y.t c.loop-y.invariant.fits) in
    sym (replaced_free d (drop (i + 1) bindings) (All-drop (IsFitting d) (i + 1) bindings c.requires.bindings) c.in_ok-t.t fits.flat (c.is_constant.ensures c.if-is_constant.true))
    ∙ replaced_more d bindings i p c.loop-y.t c.in_ok-t.t c.loop-y-test.true c.loop-y-item.is c.in_ok-t.ensures.exact
    ∙ c.loop-y.invariant.whole
    ∙ unfolding_is d bindings c.requires.bindings c.args.x

pub returns-then-is_constant-clause-fits : goal.returns-then-is_constant-clause-fits
returns-then-is_constant-clause-fits c =
    let d = c.args.sig.now in
    let p = c.loop-y-item.result in
    let here = subst (IsFitting d) (sym c.loop-y-item.is) (c.requires.bindings c.loop-y.y-index p c.loop-y-test.true) in
    subst (λ (t : FlatTerm). IsFitting d (c.args.x, t)) (sym c.in_ok-t.ensures.exact) (step_fits d c.recall_good.ensures p here c.args.x c.loop-y.t c.loop-y.invariant.fits)
