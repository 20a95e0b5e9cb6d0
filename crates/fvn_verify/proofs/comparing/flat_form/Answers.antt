-- An instance of a well-kinded side is well-kinded, and has a flat form.
use Rattle.std.proofs.Common.{◌∙◌, sym, ap, subst}
use Rattle.fvn_terms.specs.Plain.{term}
use Rattle.fvn_terms.specs.Signature.{IsTerm}
use Rattle.fvn_terms.specs.Substitution.{value}
use Rattle.fvn_terms.specs.Equality.{BEqual}
use Rattle.fvn_forms.specs.Flat.{plain}
use Rattle.fvn_forms.specs.Canon.{canon}
use Rattle.fvn_verify.proofs.Forms.{instance-kinded}
use Rattle.fvn_verify.proofs.comparing.flat_form.Goals as goal

pub flat-requires : goal.flat-requires
flat-requires c =
    let d = c.args.rewriter.now.signature in
    subst (IsTerm d) (sym c.in_ok-instance.ensures) (instance-kinded d (value c.args.bindings.now.pairs) c.requires.keeps (term c.args.side.now) c.requires.kinded)

pub returns : goal.returns
returns c =
    let d = c.args.rewriter.now.signature in
    record {
      is = c.in_ok-form.ensures.exact ∙ ap (canon d) c.in_ok-instance.ensures;
      equal = subst (λ t. BEqual d t (plain c.in_ok-form.form)) c.in_ok-instance.ensures c.in_ok-form.ensures.equal;
      fits = c.in_ok-form.ensures.fits;
    }
