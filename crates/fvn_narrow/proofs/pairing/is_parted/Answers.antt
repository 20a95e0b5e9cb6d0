-- Two new variables, of which neither is old.
use Rattle.std.proofs.Common.{sym, subst}
use Rattle.fvn_terms.specs.declared.declarations.Declarations.{Declarations}
use Rattle.fvn_terms.specs.Substitution.{Occurs}
use Rattle.fvn_forms.specs.Flat.{plain}
use Rattle.fvn_flat.specs.Fits.{Fits}
use Rattle.fvn_rewrite.specs.Usable.{equations_by}
use Rattle.fvn_narrow.specs.inner.Pairing.{HasSumOf}
use Rattle.fvn_narrow.proofs.Parted.{not_there, parted_by}
use Rattle.fvn_narrow.proofs.pairing.is_parted.Goals as goal

pub opened-requires : goal.opened-requires
opened-requires c = record {
  sum = subst (λ (d : Declarations). HasSumOf d c.args.f c.args.x c.args.form.now) (sym c.signature.ensures) c.requires;
  sorts = (c.new_like-one.ensures.0, c.new_like-rest.ensures.0);
}

pub is_reducible-requires : goal.is_reducible-requires
is_reducible-requires c = subst (λ (d : Declarations). Fits d c.in_ok-target.target) c.signature.ensures c.in_ok-target.ensures.fits

pub returns : goal.returns
returns c = λ yes.
    let r = c.args.rewriter.now in
    let form = c.args.form.now in
    let one = c.new_like-one.result in
    let rest = c.new_like-rest.result in
    parted_by r.signature c.signature.result.now (equations_by r) c.args.f c.args.x form one rest c.in_ok-target.target c.new_like-one.ensures c.new_like-rest.ensures
    (not_there c.has_var-has_one.result (Occurs one (plain form)) c.has_var-has_one.ensures c.if-has_one.false) (not_there c.has_var-has_rest.result (Occurs rest (plain form)) c.has_var-has_rest.ensures c.if-has_rest.false)
    c.signature.ensures c.in_ok-target.ensures.exact (c.in_ok-is.ensures.yes yes)
