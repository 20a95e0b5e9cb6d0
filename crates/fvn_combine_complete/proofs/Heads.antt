-- Values that operators build: constants, and single summands.
use Rattle.std.proofs.Common.{◌≡◌, true, false, List, [], ◌∷◌, refl, sym, ap, ◌∙◌, subst, Option, Some, None}
use Rattle.std.specs.Prelude.{Bool, if◌then◌else◌}
use Rattle.std.proofs.lemmas.Bool.{true≢false}
use Rattle.fvn_base.proofs.Options.{Some-injective}
use Rattle.fvn_terms.specs.declared.plain.OpId.{OpId}
use Rattle.fvn_terms.specs.declared.declarations.Axioms.{Axioms}
use Rattle.fvn_terms.specs.declared.declarations.Axioms.TheVariants.{Free, Comm, AssocComm, AssocCommId}
use Rattle.fvn_terms.specs.declared.declarations.Declarations.{Declarations}
use Rattle.fvn_terms.specs.Signature.{axioms}
use Rattle.fvn_terms.specs.Equality.{IsAssociative, identity}
use Rattle.fvn_forms.specs.Flat.{FlatTerm, FlatTerms, fvar, fapp, fnone, fmore, fpack, funpack, fconstant}
use Rattle.fvn_forms.specs.InOrder.{sort}
use Rattle.fvn_forms.specs.Canon.{same_op, is_identity, parts, joined, build}
use Rattle.fvn_forms.proofs.Sums.{funpack-fpack, same_op_is}
use Rattle.fvn_forms.proofs.Build.{sort_is_nil}
use Rattle.fvn_flat.specs.Forms.{head_of}
use Rattle.fvn_combine_nodes.proofs.Heading.{build_free, build_commutative}
use Rattle.fvn_combine_complete.specs.Obeying.{IsSumOf}

abbrev under : FlatTerm → FlatTerms
under (fvar x) = fnone
under (fapp f joined ts) = ts

-- a form has one head alone, and no sum is a constant
pub sum_is_constant : (f e : OpId) (v : FlatTerm) → IsSumOf f v → v ≡ fconstant e → ⊥
sum_is_constant f e v sum is = let p = ap joins (sym sum.1 ∙ is) in true≢false p
  where
    joins : FlatTerm → Bool
    joins (fvar x) = false
    joins (fapp g b ts) = b

pub one_head : (f g : OpId) (v : FlatTerm) → IsSumOf f v → IsSumOf g v → f ≡ g
one_head f g v a b = let e : Some f ≡ Some g = ap head_of (sym a.1 ∙ b.1) in Some-injective e

pub one_constant : (e o : OpId) (v : FlatTerm) → v ≡ fconstant e → v ≡ fconstant o → e ≡ o
one_constant e o v a b = let p : Some e ≡ Some o = ap head_of (sym a ∙ b) in Some-injective p

module _ (d : Declarations) (f : OpId) where
  -- an operator that is not associative builds its constant over nothing alone
  pub build_constant : (IsAssociative (axioms d f) → ⊥) → (vs : List FlatTerm) → build d f vs ≡ fconstant f → vs ≡ []
  build_constant plain vs e = go (axioms d f) refl
    where
      nothing : (l : List FlatTerm) → fpack l ≡ fnone → l ≡ []
      nothing l p = sym (funpack-fpack l) ∙ ap funpack p

      go : (a : Axioms) → axioms d f ≡ a → vs ≡ []
      go Free i = nothing vs (ap under (sym (build_free d f i vs) ∙ e))
      go Comm i = sort_is_nil vs (nothing (sort vs) (ap under (sym (build_commutative d f i vs) ∙ e)))
      go AssocComm i = absurd (plain (subst IsAssociative (sym i) tt))
      go (AssocCommId o) i = absurd (plain (subst IsAssociative (sym i) tt))

  -- what is neither a sum of f nor its identity is a single summand
  pub single_part : (v : FlatTerm) → (IsSumOf f v → ⊥) → ((e : OpId) → identity (axioms d f) ≡ Some e → v ≡ fconstant e → ⊥) → parts d f v ≡ v ∷ []
  single_part (fvar x) no_sum no_identity = refl
  single_part (fapp g true ts) no_sum no_identity = go (same_op f g) refl
    where
      go : (b : Bool) → same_op f g ≡ b → (if b then funpack ts else fapp g true ts ∷ []) ≡ fapp g true ts ∷ []
      go true e = absurd (no_sum (ts, ap (λ o. fapp o true ts) (sym (same_op_is f g e))))
      go false e = refl
  single_part (fapp g false fnone) no_sum no_identity = go (identity (axioms d f)) refl
    where
      at : (o : OpId) (b : Bool) → same_op o g ≡ b → identity (axioms d f) ≡ Some o → (if b then [] else fconstant g ∷ []) ≡ fconstant g ∷ []
      at o true e i = absurd (no_identity o i (ap fconstant (sym (same_op_is o g e))))
      at o false e i = refl

      go : (i : Option OpId) → identity (axioms d f) ≡ i → (if is_identity i g then [] else fconstant g ∷ []) ≡ fconstant g ∷ []
      go None i = refl
      go (Some o) i = at o (same_op o g) refl i
  single_part (fapp g false (fmore t ts)) no_sum no_identity = refl
