-- The summands of a form, by what tells them.
use Rattle.std.proofs.Common.{◌≡◌, Bool, true, false, List, [], ◌∷◌, ◌++◌, Some, None, refl, sym, ap, ◌∙◌}
use Rattle.std.specs.Prelude.{if◌then◌else◌}
use Rattle.std.proofs.lemmas.List.{append-nil, append_assoc}
use Rattle.fvn_terms.specs.declared.plain.OpId.{OpId}
use Rattle.fvn_terms.specs.declared.declarations.Declarations.{Declarations}
use Rattle.fvn_terms.specs.Signature.{axioms}
use Rattle.fvn_forms.specs.Flat.{FlatTerm, fvar, fapp, fnone, fmore, fconstant}
use Rattle.fvn_forms.specs.Canon.{same_op, is_identity, as_constant, parts, all_parts}
use Rattle.fvn_terms.specs.Equality.{identity}
use Rattle.fvn_forms.proofs.Sums.{same_op_itself, same_op_is}
use Rattle.fvn_flat.specs.Forms.{args_of}
use Rattle.fvn_flat.specs.inner.Summands.{is_sum_of}

module _ (d : Declarations) (f : OpId) where
  pub parts_of_sum : (t : FlatTerm) → is_sum_of f t ≡ true → parts d f t ≡ args_of t
  parts_of_sum (fvar x) e = cc
  parts_of_sum (fapp g true ts) e = rw e refl
  parts_of_sum (fapp g false ts) e = cc

  pub parts_of_other : (t : FlatTerm) → is_sum_of f t ≡ false → as_constant t ≡ None → parts d f t ≡ t ∷ []
  parts_of_other (fvar x) e n = refl
  parts_of_other (fapp g true ts) e n = rw e refl
  parts_of_other (fapp g false fnone) e n = cc
  parts_of_other (fapp g false (fmore t ts)) e n = refl

  parts_of_named : (t : FlatTerm) (g : OpId) → as_constant t ≡ Some g → parts d f t ≡ (if is_identity (identity (axioms d f)) g then [] else t ∷ [])
  parts_of_named (fvar x) g e = cc
  parts_of_named (fapp h true ts) g e = cc
  parts_of_named (fapp h false fnone) g e = let q : h ≡ g = cc in ap (λ o. if is_identity (identity (axioms d f)) o then [] else fconstant h ∷ []) q
  parts_of_named (fapp h false (fmore t ts)) g e = cc

  pub parts_of_identity : (t : FlatTerm) (g e : OpId) → as_constant t ≡ Some g → identity (axioms d f) ≡ Some e → e ≡ g → parts d f t ≡ []
  parts_of_identity t g e is i same =
      parts_of_named t g is ∙ ap (λ o. if is_identity o g then [] else t ∷ []) i ∙ ap (λ o. if same_op o g then [] else t ∷ []) same ∙ ap (λ b. if b then [] else t ∷ []) (same_op_itself g)

  pub parts_of_constant : (t : FlatTerm) (g e : OpId) → as_constant t ≡ Some g → identity (axioms d f) ≡ Some e → (e ≡ g → ⊥) → parts d f t ≡ t ∷ []
  parts_of_constant t g e is i other =
      parts_of_named t g is ∙ ap (λ o. if is_identity o g then [] else t ∷ []) i ∙ go (same_op e g) refl
    where
      go : (b : Bool) → same_op e g ≡ b → (if same_op e g then [] else t ∷ []) ≡ t ∷ []
      go true p = absurd (other (same_op_is e g p))
      go false p = ap (λ b. if b then [] else t ∷ []) p

  pub parts_without : (t : FlatTerm) (g : OpId) → as_constant t ≡ Some g → identity (axioms d f) ≡ None → parts d f t ≡ t ∷ []
  parts_without t g is i = parts_of_named t g is ∙ ap (λ o. if is_identity o g then [] else t ∷ []) i

  pub all_parts-push : (l : List FlatTerm) (t : FlatTerm) → all_parts d f (l ++ t ∷ []) ≡ all_parts d f l ++ parts d f t
  all_parts-push [] t = append-nil (parts d f t)
  all_parts-push (u ∷ l) t = ap (λ m. parts d f u ++ m) (all_parts-push l t) ∙ sym (append_assoc (parts d f u) (all_parts d f l) (parts d f t))
