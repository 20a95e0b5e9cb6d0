-- The substitution of one pair fits.
use Rattle.std.proofs.Common.{◌≡◌, None, sym, ap, ◌∙◌, refl, subst}
use Rattle.fvn_forms.specs.Canon.{inst}
use Rattle.fvn_flat.specs.Bindings.{Bindings, bound, value, BindingsFit}
use Rattle.fvn_narrow.proofs.Parted.{one_pair, pair_fits}
use Rattle.fvn_narrow.proofs.pairing.spread.Goals as goal

pub with_pair-requires : goal.with_pair-requires
with_pair-requires c = subst (λ (s : Bindings). bound s c.args.x ≡ None) (sym c.empty.ensures) refl

pub apply-requires : goal.apply-requires
apply-requires c = record {
  subst = subst (BindingsFit c.args.sig.now) (sym (one_pair c.empty.result c.in_ok-s.s c.args.x c.args.both c.empty.ensures c.in_ok-s.ensures)) (pair_fits c.args.sig.now c.args.x c.args.both c.requires.fits c.requires.kind);
  term = c.requires.sum.fits;
}

pub returns-clause-exact : goal.returns-clause-exact
returns-clause-exact c = c.in_ok-opened.ensures.exact ∙ ap (λ (s : Bindings). inst c.args.sig.now (value s) c.args.form.now) (one_pair c.empty.result c.in_ok-s.s c.args.x c.args.both c.empty.ensures c.in_ok-s.ensures)

pub returns-clause-fits : goal.returns-clause-fits
returns-clause-fits c = c.in_ok-opened.ensures.fits
