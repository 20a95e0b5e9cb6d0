-- Which operators the axioms keep, from what is declared.
use Rattle.std.proofs.Common.{◌≡◌, ◌<◌, ◌≤◌, Bool, true, false, not, length, Option, Some, None, refl, sym, ap, ◌∙◌, inl, inr}
use Rattle.std.specs.Prelude.{◌⊎◌, ◌↔◌, Any, IsTrue}
use Rattle.std.proofs.Math.ListN.{get_or-eq_default}
use Rattle.std.proofs.lemmas.Bool.{false≢true}
use Rattle.std.proofs.lemmas.List.{get_or_default}
use Rattle.fvn_terms.specs.declared.plain.OpId.{OpId}
use Rattle.fvn_terms.specs.declared.declarations.Declarations.{Declarations}
use Rattle.fvn_terms.specs.Signature.{unknown, declared, axioms}
use Rattle.fvn_terms.specs.Equality.{identity}
use Rattle.fvn_forms.specs.Canon.{is_identity}
use Rattle.fvn_forms.proofs.Sums.{same_op_itself, same_op_is}
use Rattle.fvn_cover_counts.specs.Weights.{IsKept}
use Rattle.fvn_cover_counts.proofs.Parts.{at_most_or_more}

-- an identity that is named
names_is : (o : Option OpId) (e : OpId) → is_identity o e ≡ true → o ≡ Some e
names_is None e h = cc
names_is (Some f) e h = ap Some (same_op_is f e h)

module _ (d : Declarations) (f : OpId) where
  -- some operator has f as its identity
  abbrev pub IsNamed : Type 0
  IsNamed = Any (λ o. is_identity (identity o.axioms) f ≡ true) d.ops

  pub named_goes : IsNamed → IsKept d f → ⊥
  named_goes (n, o, within, e, h) k =
      k.no_identity (record { 0 = n }) (ap (λ z. identity z.axioms) (get_or_default d.ops n unknown o within ∙ e) ∙ names_is (identity o.axioms) f h)

  named_by : (g : OpId) → identity (axioms d g) ≡ Some f → (length d.ops ≤ g.0) ⊎ (g.0 < length d.ops) → IsNamed
  named_by g e (inl l) = let u : identity (axioms d g) ≡ None = ap (λ z. identity z.axioms) (get_or-eq_default d.ops unknown l) in cc
  named_by g e (inr l) = (g.0, declared d g, l, get_or_default d.ops g.0 (declared d g) unknown l, ap (λ a. is_identity a f) e ∙ same_op_itself f)

  others_stay : identity (axioms d f) ≡ None → (IsNamed → ⊥) → IsKept d f
  others_stay n m = record {
    without_identity = λ e is. let clash : None ≡ Some e = sym n ∙ is in cc;
    no_identity = λ g is. m (named_by g is (at_most_or_more (length d.ops) g.0));
  }

  -- an operator with an identity goes
  pub with_identity_goes : (e : OpId) → identity (axioms d f) ≡ Some e → IsTrue false ↔ IsKept d f
  with_identity_goes e is = (λ t. absurd (false≢true t), λ k. absurd (k.without_identity e is))

  -- of one without, the test decides
  pub kept_by_test : (r : Bool) → identity (axioms d f) ≡ None → IsTrue r ↔ IsNamed → IsTrue (not r) ↔ IsKept d f
  kept_by_test true n named = (λ t. absurd (false≢true t), λ k. absurd (named_goes (named.0 refl) k))
  kept_by_test false n named = (λ t. others_stay n (λ x. false≢true (named.1 x)), λ k. refl)
