-- The operator takes both variables, and then what has their sum in place of one beside the first of them.
use Rattle.std.proofs.Common.{◌∷◌, [], sym, ap, ◌∙◌, refl, subst}
use Rattle.fvn_terms.specs.Signature.{kind, HasKind}
use Rattle.fvn_forms.specs.Flat.{FlatTerm, fvar, plain}
use Rattle.fvn_forms.specs.Canon.{build, inst}
use Rattle.fvn_flat.specs.Bindings.{value}
use Rattle.fvn_flat.specs.Fits.{AllFit, Takes}
use Rattle.fvn_narrow.proofs.Parted.{variables_fit, variables_taken, both_kind, opened_fit, opened_taken, built_of, for_two}
use Rattle.fvn_narrow.proofs.pairing.opened.Goals as goal

pub sum_of_two-requires : goal.sum_of_two-requires
sum_of_two-requires c =
    let d = c.args.sig.now in
    let f = c.args.f in
    let x = c.args.x in
    let one = c.args.one in
    let rest = c.args.rest in record {
      fit = for_two (AllFit d) c.var.result c.var-2.result (fvar one) (fvar rest) c.var.ensures c.var-2.ensures (variables_fit d c.recall_good.ensures f x c.args.form.now c.requires.sum one rest c.requires.sorts.0 c.requires.sorts.1);
      takes = for_two (Takes d f) c.var.result c.var-2.result (fvar one) (fvar rest) c.var.ensures c.var-2.ensures (variables_taken d c.recall_good.ensures f x c.args.form.now c.requires.sum one rest c.requires.sorts.0 c.requires.sorts.1);
    }

pub spread-requires : goal.spread-requires
spread-requires c =
    let d = c.args.sig.now in
    let x = c.args.x in
    let one = c.args.one in
    let rest = c.args.rest in
    let is = built_of d c.args.f c.var.result c.var-2.result (fvar one) (fvar rest) c.in_ok-both.both c.in_ok-both.ensures.exact c.var.ensures c.var-2.ensures in record {
      sum = c.requires.sum;
      fits = c.in_ok-both.ensures.fits;
      kind = subst (λ (w : FlatTerm). HasKind d (plain w) (kind d x.sort)) (sym is) (both_kind d c.recall_good.ensures c.args.f x c.args.form.now c.requires.sum one rest c.requires.sorts.0 c.requires.sorts.1);
    }

pub sum_of_two-requires-2 : goal.sum_of_two-requires-2
sum_of_two-requires-2 c =
    let d = c.args.sig.now in
    let f = c.args.f in
    let x = c.args.x in
    let one = c.args.one in
    let rest = c.args.rest in
    let inner = c.in_ok-inner.inner in
    let both = c.in_ok-both.both in
    let is = built_of d f c.var.result c.var-2.result (fvar one) (fvar rest) both c.in_ok-both.ensures.exact c.var.ensures c.var-2.ensures in
    let of_kind = subst (λ (w : FlatTerm). HasKind d (plain w) (kind d x.sort)) (sym is) (both_kind d c.recall_good.ensures f x c.args.form.now c.requires.sum one rest c.requires.sorts.0 c.requires.sorts.1) in record {
      fit = for_two (AllFit d) inner c.var-3.result inner (fvar one) refl c.var-3.ensures (opened_fit d c.recall_good.ensures f x c.args.form.now c.requires.sum both inner c.in_ok-both.ensures.fits of_kind c.in_ok-inner.ensures.exact one c.requires.sorts.0 c.in_ok-inner.ensures.fits);
      takes = for_two (Takes d f) inner c.var-3.result inner (fvar one) refl c.var-3.ensures (opened_taken d c.recall_good.ensures f x c.args.form.now c.requires.sum both inner c.in_ok-both.ensures.fits of_kind c.in_ok-inner.ensures.exact one c.requires.sorts.0);
    }

pub returns-clause-exact : goal.returns-clause-exact
returns-clause-exact c =
    let d = c.args.sig.now in
    let f = c.args.f in
    let x = c.args.x in
    let one = c.args.one in
    let inner = c.in_ok-inner.inner in
    let is = built_of d f c.var.result c.var-2.result (fvar one) (fvar c.args.rest) c.in_ok-both.both c.in_ok-both.ensures.exact c.var.ensures c.var-2.ensures in
    built_of d f inner c.var-3.result (inst d (value ((x, build d f (fvar one ∷ fvar c.args.rest ∷ [])) ∷ [])) c.args.form.now) (fvar one) c.in_ok-whole.whole c.in_ok-whole.ensures.exact
    (c.in_ok-inner.ensures.exact ∙ ap (λ (w : FlatTerm). inst d (value ((x, w) ∷ [])) c.args.form.now) is) c.var-3.ensures

pub returns-clause-fits : goal.returns-clause-fits
returns-clause-fits c = c.in_ok-whole.ensures.fits
