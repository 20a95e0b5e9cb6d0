-- The summands of a form, by its head.
use Rattle.std.proofs.Common.{◌≡◌, Bool, true, false, List, [], ◌∷◌, length, Some, None, refl, sym, ap, ◌∙◌, subst, arith}
use Rattle.std.specs.Prelude.{if◌then◌else◌}
use Rattle.fvn_terms.specs.declared.plain.OpId.{OpId}
use Rattle.fvn_terms.specs.declared.declarations.Axioms.{Axioms}
use Rattle.fvn_terms.specs.declared.declarations.Axioms.TheVariants.{Free, Comm, AssocComm, AssocCommId}
use Rattle.fvn_terms.specs.declared.declarations.Declarations.{Declarations}
use Rattle.fvn_terms.specs.Signature.{axioms}
use Rattle.fvn_terms.specs.Equality.{IsAssociative, identity}
use Rattle.fvn_forms.specs.Flat.{FlatTerm, fvar, fapp, fnone, fmore, funpack}
use Rattle.fvn_forms.specs.InOrder.{InOrder}
use Rattle.fvn_forms.specs.Canon.{same_op, is_identity, parts}
use Rattle.fvn_forms.specs.Settled.{FitsUnjoined, Settled}
use Rattle.fvn_forms.proofs.Sums.{same_op_itself, same_op_is}
use Rattle.fvn_flat.specs.Forms.{head_of, args_of}

module _ (d : Declarations) (f : OpId) where
  pub parts_of_variable : (t : FlatTerm) → head_of t ≡ None → parts d f t ≡ t ∷ []
  parts_of_variable (fvar x) e = refl
  parts_of_variable (fapp g joined ts) e = cc

  pub parts_of_constant : (t : FlatTerm) (g : OpId) → head_of t ≡ Some g → args_of t ≡ [] → Settled d t → parts d f t ≡ (if is_identity (identity (axioms d f)) g then [] else t ∷ [])
  parts_of_constant (fvar x) g e a s = cc
  parts_of_constant (fapp h true ts) g e a s = let none : length (funpack ts) ≡ 0 = ap length a in absurd (let two = s.0.two_or_more in omega arith)
  parts_of_constant (fapp h false fnone) g e a s = let q : h ≡ g = cc in ap (λ o. if is_identity (identity (axioms d f)) o then [] else fapp h false fnone ∷ []) q
  parts_of_constant (fapp h false (fmore u us)) g e a s = cc

  pub unjoined_none : (a : Axioms) (l : List FlatTerm) → IsAssociative a → FitsUnjoined d a l → l ≡ []
  unjoined_none Free l i h = absurd i
  unjoined_none Comm l i h = absurd i
  unjoined_none AssocComm l i h = h
  unjoined_none (AssocCommId e) l i h = h

  pub parts_headed : (t : FlatTerm) → head_of t ≡ Some f → (args_of t ≡ [] → ⊥) → Settled d t → IsAssociative (axioms d f) → parts d f t ≡ args_of t
  parts_headed (fvar x) e n s assoc = cc
  parts_headed (fapp h true ts) e n s assoc = let q : h ≡ f = cc in let same : same_op f h ≡ true = ap (same_op f) q ∙ same_op_itself f in rw same refl
  parts_headed (fapp h false fnone) e n s assoc = absurd (n refl)
  parts_headed (fapp h false (fmore u us)) e n s assoc =
      let q : h ≡ f = cc in
      absurd (n (unjoined_none (axioms d f) (u ∷ funpack us) assoc (subst (λ o. FitsUnjoined d (axioms d o) (u ∷ funpack us)) q s.0)))

  pub parts_other : (t : FlatTerm) (g : OpId) → head_of t ≡ Some g → (g ≡ f → ⊥) → (args_of t ≡ [] → ⊥) → parts d f t ≡ t ∷ []
  parts_other (fvar x) g e n a = cc
  parts_other (fapp h true ts) g e n a = go (same_op f h) refl
    where
      go : (b : Bool) → same_op f h ≡ b → (if b then funpack ts else fapp h true ts ∷ []) ≡ fapp h true ts ∷ []
      go true p = let q : h ≡ g = cc in absurd (n (sym q ∙ sym (same_op_is f h p)))
      go false p = refl
  parts_other (fapp h false fnone) g e n a = absurd (a refl)
  parts_other (fapp h false (fmore u us)) g e n a = refl

  pub parts_in_order : (t : FlatTerm) → Settled d t → InOrder (parts d f t)
  parts_in_order (fvar x) s = tt
  parts_in_order (fapp g true ts) s = go (same_op f g)
    where
      go : (b : Bool) → InOrder (if b then funpack ts else fapp g true ts ∷ [])
      go true = s.0.in_order
      go false = tt
  parts_in_order (fapp g false fnone) s = go (is_identity (identity (axioms d f)) g)
    where
      go : (b : Bool) → InOrder (if b then [] else fapp g false fnone ∷ [])
      go true = tt
      go false = tt
  parts_in_order (fapp g false (fmore t ts)) s = tt
