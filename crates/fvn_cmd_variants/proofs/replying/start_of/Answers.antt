-- The list has the flat form alone.
use Rattle.std.proofs.Common.{ap, ◌∙◌, subst, [], ◌∷◌, ◌++◌}
use Rattle.fvn_terms.specs.Plain.{term}
use Rattle.fvn_terms.specs.Equality.{BEqual}
use Rattle.fvn_forms.specs.Flat.{plain}
use Rattle.fvn_flat.specs.Fits.{Fits}
use Rattle.fvn_cmd_variants.proofs.replying.start_of.Goals as goal

pub returns : goal.returns
returns c = record {
  is = c.in_ok-push.ensures.items ∙ ap (λ l. l ++ c.in_ok-form.form ∷ []) c.new-start.ensures.items ∙ ap (λ u. u ∷ []) c.in_ok-form.ensures.exact;
  fits = subst (Fits c.args.signature.now) c.in_ok-form.ensures.exact c.in_ok-form.ensures.fits;
  equal = subst (λ u. BEqual c.args.signature.now (term c.args.t.now) (plain u)) c.in_ok-form.ensures.exact c.in_ok-form.ensures.equal;
}
