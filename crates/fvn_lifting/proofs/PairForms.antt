-- Sums and the summands of their instances, and the pairs that they are divided into.
use Rattle.std.proofs.Common.{◌≡◌, ◌+◌, ◌≤◌, Bool, true, false, List, [], ◌∷◌, map, length, Some, refl, sym, ap, ◌∙◌, subst, arith}
use Rattle.fvn_terms.specs.declared.plain.Var.{Var}
use Rattle.fvn_terms.specs.declared.plain.OpId.{OpId}
use Rattle.fvn_terms.specs.declared.declarations.Axioms.{Axioms}
use Rattle.fvn_terms.specs.declared.declarations.Axioms.TheVariants.{Free, Comm, AssocComm, AssocCommId}
use Rattle.fvn_terms.specs.declared.declarations.Declarations.{Declarations}
use Rattle.fvn_terms.specs.Substitution.{Substitution, apply}
use Rattle.fvn_terms.specs.Signature.{axioms}
use Rattle.fvn_terms.specs.Equality.{IsAssociative}
use Rattle.fvn_forms.specs.Flat.{FlatTerm, FlatTerms, fvar, fapp, fnone, fmore, fpack, funpack, plain}
use Rattle.fvn_forms.specs.Order.{same_flat}
use Rattle.fvn_forms.specs.InOrder.{one_if, count, SameCounts}
use Rattle.fvn_forms.specs.Canon.{parts, all_parts, canon, inst}
use Rattle.fvn_forms.specs.Settled.{FitsUnjoined, Settled}
use Rattle.fvn_forms.proofs.Order.{same_flat_is, same_flat_itself}
use Rattle.fvn_forms.proofs.Sums.{funpack-fpack, fpack-funpack, same_op_itself}
use Rattle.fvn_forms.proofs.Eval.{canon_settled, eval_apply}
use Rattle.fvn_forms.proofs.Instances.{parts_inst}
use Rattle.fvn_flat.specs.Forms.{head_of, args_of}
use Rattle.fvn_flat.specs.FlatPlaces.{IsDivided, divided, taking, leaving}
use Rattle.fvn_lifting.proofs.Summands.{gathered, gathered_parts, HasBoth}

-- as many are taken and left as there are
pub divided_length : {all taken others : List FlatTerm} → IsDivided all taken others → length all ≡ length taken + length others
divided_length divided = refl
divided_length (taking p) = let e = divided_length p in omega arith
divided_length (leaving p) = let e = divided_length p in omega arith

pub gathered_self : (l : List FlatTerm) → gathered (λ t. t ∷ []) l ≡ l
gathered_self [] = refl
gathered_self (t ∷ l) = ap (λ m. t ∷ m) (gathered_self l)

module _ (a b : FlatTerm) where
  clash : same_flat a b ≡ false → a ≡ b → ⊥
  clash e q = let r : same_flat a b ≡ true = ap (same_flat a) (sym q) ∙ same_flat_itself a in cc

  -- a single form is not both
  pub not_in_one : (t : FlatTerm) → HasBoth a b (t ∷ []) → ⊥
  not_in_one t h = go (same_flat a b) refl (same_flat a t) refl (same_flat b t) refl h.0 h.1 where
    go : (e : Bool) → same_flat a b ≡ e → (x : Bool) → same_flat a t ≡ x → (y : Bool) → same_flat b t ≡ y → one_if e + 1 ≤ one_if x + 0 → one_if e + 1 ≤ one_if y + 0 → ⊥
    go true p true px true py j k = omega (arith, j)
    go false p true px true py j k = clash p (same_flat_is a t px ∙ sym (same_flat_is b t py))
    go e p false px y py j k = omega (arith, j)
    go e p true px false py j k = omega (arith, k)

  -- two forms that are both have the same counts
  pub are_both : (t u : FlatTerm) → HasBoth a b (t ∷ u ∷ []) → SameCounts (a ∷ b ∷ []) (t ∷ u ∷ [])
  are_both t u h = go (same_flat a b) refl (same_flat a t) refl (same_flat a u) refl (same_flat b t) refl (same_flat b u) refl h.0 h.1 where
    straight : a ≡ t → b ≡ u → SameCounts (a ∷ b ∷ []) (t ∷ u ∷ [])
    straight p q x = ap (λ w. count x (w ∷ b ∷ [])) p ∙ ap (λ w. count x (t ∷ w ∷ [])) q

    crossed : a ≡ u → b ≡ t → SameCounts (a ∷ b ∷ []) (t ∷ u ∷ [])
    crossed p q x = ap (λ w. count x (w ∷ b ∷ [])) p ∙ ap (λ w. count x (u ∷ w ∷ [])) q ∙ omega arith

    go : (e : Bool) → same_flat a b ≡ e → (x : Bool) → same_flat a t ≡ x → (y : Bool) → same_flat a u ≡ y → (z : Bool) → same_flat b t ≡ z → (w : Bool) → same_flat b u ≡ w →
        one_if e + 1 ≤ one_if x + (one_if y + 0) → one_if e + 1 ≤ one_if z + (one_if w + 0) → SameCounts (a ∷ b ∷ []) (t ∷ u ∷ [])
    go e p true px y py z pz true pw j k = straight (same_flat_is a t px) (same_flat_is b u pw)
    go true p true px y py true pz false pw j k = absurd (omega (arith, k))
    go false p true px y py true pz false pw j k = absurd (clash p (same_flat_is a t px ∙ sym (same_flat_is b t pz)))
    go e p true px y py false pz false pw j k = absurd (omega (arith, k))
    go e p false px false py z pz w pw j k = absurd (omega (arith, j))
    go true p false px true py z pz w pw j k = absurd (omega (arith, j))
    go false p false px true py true pz w pw j k = crossed (same_flat_is a u py) (same_flat_is b t pz)
    go false p false px true py false pz true pw j k = absurd (clash p (same_flat_is a u py ∙ sym (same_flat_is b u pw)))
    go false p false px true py false pz false pw j k = absurd (omega (arith, k))

no_unjoined : (d : Declarations) (a : Axioms) (t : FlatTerm) (l : List FlatTerm) → IsAssociative a → FitsUnjoined d a (t ∷ l) → ⊥
no_unjoined d Free t l i h = i
no_unjoined d Comm t l i h = i
no_unjoined d AssocComm t l i h = cc
no_unjoined d (AssocCommId e) t l i h = cc

module _ (d : Declarations) (f : OpId) (assoc : IsAssociative (axioms d f)) where
  -- a form with this head and some argument is the joined sum of its arguments
  pub joined_form : (t a : FlatTerm) (l : List FlatTerm) → Settled d t → head_of t ≡ Some f → args_of t ≡ a ∷ l → t ≡ fapp f true (fpack (a ∷ l))
  joined_form (fvar x) a l h e is = cc
  joined_form (fapp g true ts) a l h e is = let q : g ≡ f = cc in ap (λ o. fapp o true ts) q ∙ ap (fapp f true) (sym (fpack-funpack ts) ∙ ap fpack is)
  joined_form (fapp g false fnone) a l h e is = cc
  joined_form (fapp g false (fmore t ts)) a l h e is = let q : g ≡ f = cc in absurd (no_unjoined d (axioms d g) t (funpack ts) (subst (λ o. IsAssociative (axioms d o)) (sym q) assoc) h.0)

  parts_joined : (ts : FlatTerms) → parts d f (fapp f true ts) ≡ funpack ts
  parts_joined ts = rw (same_op_itself f) refl

  -- its arguments are its summands
  pub parts_args : (t a : FlatTerm) (l : List FlatTerm) → Settled d t → head_of t ≡ Some f → args_of t ≡ a ∷ l → parts d f t ≡ a ∷ l
  parts_args t a l h e is = ap (parts d f) (joined_form t a l h e is) ∙ parts_joined (fpack (a ∷ l)) ∙ funpack-fpack (a ∷ l)

  -- and the summands of an instance are those of the arguments' instances
  pub instance_counts : (s : Substitution) (t a : FlatTerm) (l : List FlatTerm) → Settled d t → head_of t ≡ Some f → args_of t ≡ a ∷ l → (q : FlatTerm) →
      count q (parts d f (canon d (apply s (plain t)))) ≡ count q (gathered (λ w. parts d f (canon d (apply s (plain w)))) (a ∷ l))
  instance_counts s t a l h e is q =
      let v : Var → FlatTerm = λ x. canon d (s x) in
      let same : (λ (w : FlatTerm). parts d f (canon d (apply s (plain w)))) ≡ (λ w. parts d f (inst d v w)) = λ i w. parts d f (eval_apply d fvar s (plain w) i) in
      ap (λ w. count q (parts d f w)) (eval_apply d fvar s (plain t))
      ∙ parts_inst d v (λ x. canon_settled d (s x)) f assoc t h q
      ∙ ap (λ m. count q (all_parts d f (map (inst d v) m))) (parts_args t a l h e is)
      ∙ ap (count q) (gathered_parts d f (inst d v) (a ∷ l))
      ∙ ap (λ g. count q (gathered g (a ∷ l))) (sym same)
