-- Forms that are single summands.
use Rattle.std.proofs.Common.{◌≡◌, ◌≢◌, ◌≤◌, Bool, true, false, List, [], ◌∷◌, ◌++◌, length, refl, sym, ap, ◌∙◌, subst, arith, Option, Some, None}
use Rattle.std.specs.Prelude.{if◌then◌else◌}
use Rattle.std.proofs.lemmas.List.{length-append}
use Rattle.fvn_terms.specs.declared.plain.OpId.{OpId}
use Rattle.fvn_terms.specs.declared.declarations.Axioms.{Axioms}
use Rattle.fvn_terms.specs.declared.declarations.Axioms.TheVariants.{Free, Comm, AssocComm, AssocCommId}
use Rattle.fvn_terms.specs.declared.declarations.Declarations.{Declarations}
use Rattle.fvn_terms.specs.Signature.{axioms}
use Rattle.fvn_terms.specs.Equality.{IsAssociative, identity}
use Rattle.fvn_forms.specs.Flat.{FlatTerm, FlatTerms, fvar, fapp, fnone, fmore, fpack, funpack, fconstant}
use Rattle.fvn_forms.specs.InOrder.{sort}
use Rattle.fvn_forms.specs.Canon.{same_op, is_identity, parts, all_parts, built, build}
use Rattle.fvn_forms.specs.Settled.{Settled, IsPiece}
use Rattle.fvn_forms.proofs.InOrder.{length_sort}
use Rattle.fvn_forms.proofs.Sums.{same_op_is}
use Rattle.fvn_forms.proofs.Build.{parts_build, sort_is_nil}
use Rattle.fvn_flat.specs.Partitions.{HasNoIdentity}
use Rattle.fvn_flat.specs.SolvedLists.{IsSimple}
use Rattle.fvn_combine_nodes.proofs.Heading.{some_part}

module _ (d : Declarations) where
  -- what has two summands under one operator is a single summand under any other
  pub long_piece : (f g : OpId) → f ≢ g → (v : FlatTerm) → 2 ≤ length (parts d g v) → IsPiece d f v
  long_piece f g n (fvar x) two = absurd (omega (arith, two))
  long_piece f g n (fapp o true ts) two = go (same_op g o) refl two
    where
      other : (b : Bool) → same_op f o ≡ b → g ≡ o → (if b then funpack ts else fapp o true ts ∷ []) ≡ fapp o true ts ∷ []
      other true e is = absurd (n (same_op_is f o e ∙ sym is))
      other false e is = refl

      go : (b : Bool) → same_op g o ≡ b → 2 ≤ length (if b then funpack ts else fapp o true ts ∷ []) → IsPiece d f (fapp o true ts)
      go true e two = other (same_op f o) refl (same_op_is g o e)
      go false e two = absurd (omega (arith, two))
  long_piece f g n (fapp o false fnone) two = go (is_identity (identity (axioms d g)) o) two
    where
      go : (b : Bool) → 2 ≤ length (if b then [] else fconstant o ∷ []) → IsPiece d f (fconstant o)
      go true two = absurd (omega (arith, two))
      go false two = absurd (omega (arith, two))
  long_piece f g n (fapp o false (fmore t ts)) two = absurd (omega (arith, two))

  -- what an operator without an identity builds over two has two
  pub long_sum : (f : OpId) → HasNoIdentity (axioms d f) → IsAssociative (axioms d f) → (a b : FlatTerm) → Settled d a → Settled d b → 2 ≤ length (parts d f (build d f (a ∷ b ∷ [])))
  long_sum f bare assoc a b ha hb =
      let e = ap length (parts_build d f assoc a (b ∷ []) (ha, (hb, tt))) in
      let l = length_sort (all_parts d f (a ∷ b ∷ [])) in
      let m = length-append (parts d f a) (parts d f b ++ []) in
      let n = length-append (parts d f b) [] in
      let p = some_part d f bare a ha in
      let q = some_part d f bare b hb in
      omega (arith, e, l, m, n, p, q)

  -- what is no sum and not the identity
  unjoined_piece : (f g : OpId) (ts : FlatTerms) → ((e : OpId) → identity (axioms d f) ≡ Some e → fapp g false ts ≡ fconstant e → ⊥) → IsPiece d f (fapp g false ts)
  unjoined_piece f g fnone n = go (identity (axioms d f)) refl
    where
      at : (o : OpId) (b : Bool) → same_op o g ≡ b → identity (axioms d f) ≡ Some o → (if b then [] else fconstant g ∷ []) ≡ fconstant g ∷ []
      at o true e i = absurd (n o i (ap fconstant (sym (same_op_is o g e))))
      at o false e i = refl

      go : (i : Option OpId) → identity (axioms d f) ≡ i → (if is_identity i g then [] else fconstant g ∷ []) ≡ fconstant g ∷ []
      go None i = refl
      go (Some o) i = at o (same_op o g) refl i
  unjoined_piece f g (fmore t ts) n = refl

  -- the identity of another operator is a single summand, where it is not the operator's own
  pub constant_piece : (f e : OpId) → (identity (axioms d f) ≡ Some e → ⊥) → IsPiece d f (fconstant e)
  constant_piece f e n = unjoined_piece f e fnone (λ o i same. n (i ∙ ap Some (sym (over_nothing o same))))
    where
      over_nothing : (o : OpId) → fapp e false fnone ≡ fconstant o → e ≡ o
      over_nothing o same = cc

  -- what a free or commutative operator builds
  pub record IsUnjoined (g : OpId) (vs : List FlatTerm) : Type 0 where
    pub order : List FlatTerm
    pub is : build d g vs ≡ fapp g false (fpack order)
    pub some : order ≡ [] → vs ≡ []

  pub build_simple : (g : OpId) → IsSimple (axioms d g) → (vs : List FlatTerm) → IsUnjoined g vs
  build_simple g simple [] = record { order = []; is = refl; some = λ e. refl }
  build_simple g simple (v ∷ vs) = go (axioms d g) refl simple
    where
      go : (a : Axioms) → axioms d g ≡ a → IsSimple a → IsUnjoined g (v ∷ vs)
      go Free e h = record { order = v ∷ vs; is = ap (λ a. built d a g (v ∷ vs)) e; some = λ e. e }
      go Comm e h = record { order = sort (v ∷ vs); is = ap (λ a. built d a g (v ∷ vs)) e; some = sort_is_nil (v ∷ vs) }
      go AssocComm e h = absurd h
      go (AssocCommId o) e h = absurd h

  -- it is a single summand under each operator of which it is not the identity
  pub simple_piece : (f g : OpId) → IsSimple (axioms d g) → (vs : List FlatTerm) → ((e : OpId) → identity (axioms d f) ≡ Some e → g ≡ e → vs ≡ [] → ⊥) → IsPiece d f (build d g vs)
  simple_piece f g simple vs n =
      let b = build_simple g simple vs in
      subst (IsPiece d f) (sym b.is) (unjoined_piece f g (fpack b.order) (λ e i same. n e i (head_is e same) (b.some (none_is b.order e same))))
    where
      head_is : {ts : FlatTerms} (e : OpId) → fapp g false ts ≡ fconstant e → g ≡ e
      head_is e same = cc

      none_is : (l : List FlatTerm) (e : OpId) → fapp g false (fpack l) ≡ fconstant e → l ≡ []
      none_is [] e same = refl
      none_is (u ∷ l) e same = cc
