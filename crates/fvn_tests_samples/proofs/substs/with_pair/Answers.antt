-- A flat form of a term of the variable's kind may be bound.
use Rattle.std.proofs.Common.{refl, sym, subst}
use Rattle.fvn_terms.specs.Plain.{term}
use Rattle.fvn_terms.specs.Signature.{kind, HasKind}
use Rattle.fvn_forms.specs.Flat.{plain}
use Rattle.fvn_forms.proofs.ToCanon.{canon_of_kind}
use Rattle.fvn_flat.specs.Bindings.{BindingsFit}
use Rattle.fvn_flat.proofs.Composing.{bind_fits}
use Rattle.fvn_tests_samples.proofs.substs.with_pair.Goals as goal

pub returns-in_ok-more-in-None : goal.returns-in_ok-more-in-None
returns-in_ok-more-in-None c =
    let d = c.args.sig.now in
    let of_kind : HasKind d (term c.args.t.now) (kind d c.args.v.sort) = subst (HasKind d (term c.args.t.now)) c.kind.ensures.exact (c.if-not-has_kind.ensures refl) in
    subst (BindingsFit d) (sym c.in_ok-more-in-None.ensures)
    (bind_fits d c.args.s.now c.args.v c.in_ok-u-in-None.u c.requires c.in_ok-u-in-None.ensures.fits.flat
    (λ i. subst (λ u. HasKind d (plain u) (kind d c.args.v.sort)) (sym c.in_ok-u-in-None.ensures.exact) (canon_of_kind d c.recall_good.ensures.fits (term c.args.t.now) (kind d c.args.v.sort) of_kind)))
