-- By the identity, if there is one.
use Rattle.std.proofs.Common.{◌≡◌, [], sym, ◌∙◌, subst, Some, None}
use Rattle.fvn_terms.specs.Signature.{AtOrBelow}
use Rattle.fvn_forms.specs.Ranks.{result}
use Rattle.fvn_sort_bounds.proofs.admitting.admits_identity.Goals as goal

pub returns-in-None : goal.returns-in-None
returns-in-None c = (λ e. cc, λ a. let e : None ≡ Some a.unit = sym c.in-None.is ∙ c.identity.ensures ∙ a.is_identity in cc)

pub returns-in-Some : goal.returns-in-Some
returns-in-Some c = (
  λ t. record { unit = c.in-Some.e; is_identity = sym c.identity.ensures ∙ c.in-Some.is; below = c.has_sort.ensures.0 t },
  λ a.
      let same : Some a.unit ≡ Some c.in-Some.e = sym a.is_identity ∙ sym c.identity.ensures ∙ c.in-Some.is in
      let is : a.unit ≡ c.in-Some.e = cc in
      c.has_sort.ensures.1 (subst (λ o. AtOrBelow c.args.sig.now (result c.args.sig.now o []) c.args.s) is a.below),
)
