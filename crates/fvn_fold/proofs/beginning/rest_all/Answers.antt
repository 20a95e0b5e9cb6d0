-- one normal form more, or none within the limits
use Rattle.std.proofs.Common.{sym, subst, arith}
use Rattle.std.specs.Prelude.{Contains}
use Rattle.fvn_rewrite_laws.specs.Normalised.{IsForm}
use Rattle.fvn_flat.specs.Fits.{Fits}
use Rattle.fvn_fold.proofs.Begins.{fits_at, rested_more, renamed_form_is, early_steps, early_size}
use Rattle.fvn_fold.proofs.beginning.rest_all.Goals as goal

pub rest-requires : goal.rest-requires
rest-requires g c =
    let s = g.E.Expander.setting c.args.expander.now in
    let listed : Contains c.args.start.now c.t-item.result = (c.loop-t.t-index, c.loop-t-test.true, sym c.t-item.is) in
    let fits : Fits c.args.sig.now c.t-item.result = fits_at c.args.sig.now c.args.start.now c.requires.start.fit c.t-item.result listed in
    let fits_there : Fits s.declarations c.t-item.result = subst (λ d. Fits d c.t-item.result) (sym c.requires.setting.declarations) fits in
    fits_there

pub apply-requires-clause-term : goal.apply-requires-clause-term
apply-requires-clause-term g c =
    let s = g.E.Expander.setting c.args.expander.now in
    let form : IsForm s.declarations s.equations c.t-item.result s.bounds c.in-Form.u = rw c.in-Form.is at c.in_ok-u.ensures.normal in
    subst (λ d. Fits d c.in-Form.u) c.requires.setting.declarations ((form.reached).reached).fits

pub returns-in-Steps-clause-rested : goal.returns-in-Steps-clause-rested
returns-in-Steps-clause-rested g c =
    let s = g.E.Expander.setting c.args.expander.now in
    let listed : Contains c.args.start.now c.t-item.result = (c.loop-t.t-index, c.loop-t-test.true, sym c.t-item.is) in
    let fits : Fits c.args.sig.now c.t-item.result = fits_at c.args.sig.now c.args.start.now c.requires.start.fit c.t-item.result listed in
    let fits_there : Fits s.declarations c.t-item.result = subst (λ d. Fits d c.t-item.result) (sym c.requires.setting.declarations) fits in
    early_steps s (g.E.Expander.drawn c.args.expander.now) c.args.start.now c.t-item.result c.in-Steps.from c.in-Steps.to listed fits_there (rw c.in-Steps.is at c.in_ok-u.ensures.normal)

pub returns-in-Size-clause-rested : goal.returns-in-Size-clause-rested
returns-in-Size-clause-rested g c =
    let s = g.E.Expander.setting c.args.expander.now in
    let listed : Contains c.args.start.now c.t-item.result = (c.loop-t.t-index, c.loop-t-test.true, sym c.t-item.is) in
    let fits : Fits c.args.sig.now c.t-item.result = fits_at c.args.sig.now c.args.start.now c.requires.start.fit c.t-item.result listed in
    let fits_there : Fits s.declarations c.t-item.result = subst (λ d. Fits d c.t-item.result) (sym c.requires.setting.declarations) fits in
    early_size s (g.E.Expander.drawn c.args.expander.now) c.args.start.now c.t-item.result c.in-Size.u listed (rw c.in-Size.is at c.in_ok-u.ensures.normal)

pub loop-t-preserved : goal.loop-t-preserved
loop-t-preserved g c =
    let s = g.E.Expander.setting c.args.expander.now in
    let more = renamed_form_is s c.args.sig.now c.args.names.now c.t-item.result c.in-Form.u c.in_ok-renamed-in-Form.renamed c.requires.setting.declarations (rw c.in-Form.is at c.in_ok-u.ensures.normal) c.in_ok-renamed-in-Form.ensures.equal c.in_ok-renamed-in-Form.ensures.fits in (
      rw c.in_ok-push-in-Form.ensures.items (rested_more s c.args.names.now c.args.start.now c.loop-t.t-index c.t-item.result c.loop-t.terms.items c.in_ok-renamed-in-Form.renamed c.loop-t-test.true c.t-item.is c.loop-t.invariant.0 more),
      λ l. c.in_ok-u.ensures.lawful,
    )

pub returns-clause-lawful : goal.returns-clause-lawful
returns-clause-lawful g c = c.loop-t.invariant.1 (omega (arith, c.requires.start.some, c.loop-t-test.false))
