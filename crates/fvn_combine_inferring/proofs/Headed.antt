-- What heads forms.
use Rattle.std.proofs.Common.{◌≡◌, ◌≢◌, ◌≤◌, true, false, [], ◌∷◌, length, refl, sym, ap, ◌∙◌, arith, Option, Some, None}
use Rattle.std.specs.Prelude.{Bool, if◌then◌else◌}
use Rattle.fvn_terms.specs.declared.plain.OpId.{OpId}
use Rattle.fvn_terms.specs.declared.declarations.Declarations.{Declarations}
use Rattle.fvn_terms.specs.Signature.{axioms}
use Rattle.fvn_terms.specs.Equality.{identity}
use Rattle.fvn_forms.specs.Flat.{FlatTerm, fvar, fapp, fnone, fmore, funpack, fconstant}
use Rattle.fvn_forms.specs.Canon.{same_op, is_identity, parts}
use Rattle.fvn_forms.proofs.Sums.{same_op_is}
use Rattle.fvn_flat.specs.Forms.{head_of}
use Rattle.fvn_combine_bounds.specs.CombineCompleteObeying.{IsSumOf}

-- a form that g heads is one summand under f, where g is neither f nor its identity
pub headed_part : (d : Declarations) (f g : OpId) → g ≢ f → identity (axioms d f) ≢ Some g → (v : FlatTerm) → head_of v ≡ Some g → parts d f v ≡ v ∷ []
headed_part d f g other no_unit (fvar x) h = refl
headed_part d f g other no_unit (fapp o true ts) h = go (same_op f o) refl
  where
    go : (b : Bool) → same_op f o ≡ b → (if b then funpack ts else fapp o true ts ∷ []) ≡ fapp o true ts ∷ []
    go true e = absurd (other (let p : o ≡ g = cc in sym p ∙ sym (same_op_is f o e)))
    go false e = refl
headed_part d f g other no_unit (fapp o false fnone) h = go (identity (axioms d f)) refl
  where
    at : (e : OpId) (b : Bool) → same_op e o ≡ b → identity (axioms d f) ≡ Some e → (if b then [] else fconstant o ∷ []) ≡ fconstant o ∷ []
    at e true p i = absurd (no_unit (let q : o ≡ g = cc in i ∙ ap Some (same_op_is e o p ∙ q)))
    at e false p i = refl

    go : (i : Option OpId) → identity (axioms d f) ≡ i → (if is_identity i o then [] else fconstant o ∷ []) ≡ fconstant o ∷ []
    go None i = refl
    go (Some e) i = at e (same_op e o) refl i
headed_part d f g other no_unit (fapp o false (fmore t ts)) h = refl

-- a form with two summands under f is a sum of f
pub large_sum : (d : Declarations) (f : OpId) (v : FlatTerm) → 2 ≤ length (parts d f v) → IsSumOf f v
large_sum d f (fvar x) h = absurd (omega (arith, h))
large_sum d f (fapp o true ts) h = go (same_op f o) refl h
  where
    go : (b : Bool) → same_op f o ≡ b → 2 ≤ length (if b then funpack ts else fapp o true ts ∷ []) → IsSumOf f (fapp o true ts)
    go true e h = (ts, ap (λ (g : OpId). fapp g true ts) (sym (same_op_is f o e)))
    go false e h = absurd (omega (arith, h))
large_sum d f (fapp o false fnone) h = absurd (go (identity (axioms d f)) refl h)
  where
    few : (b : Bool) → 2 ≤ length (if b then [] else fconstant o ∷ []) → ⊥
    few true h = omega (arith, h)
    few false h = omega (arith, h)

    go : (i : Option OpId) → identity (axioms d f) ≡ i → 2 ≤ length (if is_identity i o then [] else fconstant o ∷ []) → ⊥
    go i e h = few (is_identity i o) h
large_sum d f (fapp o false (fmore t ts)) h = absurd (omega (arith, h))
