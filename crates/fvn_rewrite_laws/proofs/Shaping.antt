-- The shape of an instance, by the shapes of the values.
use Rattle.std.proofs.Common.{◌≡◌, ◌≤◌, Bool, true, false, List, [], ◌∷◌, ◌++◌, map, length, Option, Some, None, refl, sym, ap, ◌∙◌, subst, arith}
use Rattle.std.specs.Prelude.{if◌then◌else◌}
use Rattle.std.specs.List.{AllByRecursion}
use Rattle.std.proofs.lemmas.List.{length-append}
use Rattle.fvn_terms.specs.declared.plain.Var.{Var}
use Rattle.fvn_terms.specs.declared.plain.OpId.{OpId}
use Rattle.fvn_terms.specs.declared.plain.SortId.{SortId}
use Rattle.fvn_terms.specs.declared.declarations.Axioms.{Axioms}
use Rattle.fvn_terms.specs.declared.declarations.Axioms.TheVariants.{Free, Comm, AssocComm, AssocCommId}
use Rattle.fvn_terms.specs.declared.declarations.Declarations.{Declarations}
use Rattle.fvn_terms.specs.Term.{Term, Terms, var, app, none, more}
use Rattle.fvn_terms.specs.Substitution.{Substitution, apply, apply_all}
use Rattle.fvn_terms.specs.Signature.{axioms, HasKind, HaveKinds, KeepsKinds}
use Rattle.fvn_terms.specs.Equality.{two, IsAssociative, identity}
use Rattle.fvn_terms.proofs.Equal.{HasKind-apply}
use Rattle.fvn_forms.specs.Flat.{FlatTerm, fvar, fapp, fnone, fmore, fpack}
use Rattle.fvn_forms.specs.InOrder.{sort}
use Rattle.fvn_forms.specs.Canon.{as_constant, parts, all_parts, joined, built, build, eval_all, canon}
use Rattle.fvn_forms.specs.Ranks.{result}
use Rattle.fvn_forms.specs.Good.{IsGood}
use Rattle.fvn_forms.specs.LeastSort.{least_sort}
use Rattle.fvn_forms.proofs.InOrder.{length_sort}
use Rattle.fvn_forms.proofs.Sums.{same_op_itself, same_op_is}
use Rattle.fvn_forms.proofs.Build.{sort_is_nil, parts_none_iff, build_sum}
use Rattle.fvn_forms.proofs.Eval.{canon_settled}
use Rattle.fvn_forms.proofs.LeastSortOf.{IsIdentityOf, canon_left_identity, canon_right_identity, least_sort_of_app}
use Rattle.fvn_rewrite_laws.specs.declared.shapes.Root.TheVariants.{Compound}
use Rattle.fvn_rewrite_laws.specs.declared.shapes.Shape.{Shape}
use Rattle.fvn_rewrite_laws.specs.Shapes.{root_of, is_root_of, sorts_of, compound, shape_of, shape_beside, shape_over, shape_in, shapes_in}

each : {A : Type 0} (P : A → Type 0) → ((a : A) → P a) → (l : List A) → AllByRecursion P l
each P h [] = tt
each P h (a ∷ l) = (h a, each P h l)

no_identity : (a : Axioms) (e : OpId) → (IsAssociative a → ⊥) → identity a ≡ Some e → ⊥
no_identity Free e n h = let q : None ≡ Some e = h in cc
no_identity Comm e n h = let q : None ≡ Some e = h in cc
no_identity AssocComm e n h = n tt
no_identity (AssocCommId g) e n h = n tt

identity_none : (a : Axioms) → (IsAssociative a → ⊥) → identity a ≡ None
identity_none Free n = refl
identity_none Comm n = refl
identity_none AssocComm n = absurd (n tt)
identity_none (AssocCommId g) n = absurd (n tt)

-- the root of a constant
root_true : (i : Option OpId) (t : FlatTerm) → is_root_of i (root_of t) ≡ true → (e : OpId) × (i ≡ Some e) × (as_constant t ≡ Some e)
root_true None t h = cc
root_true (Some e) (fvar x) h = cc
root_true (Some e) (fapp g true ts) h = cc
root_true (Some e) (fapp g false fnone) h = (e, refl, ap Some (sym (same_op_is e g h)))
root_true (Some e) (fapp g false (fmore t ts)) h = cc

root_from : (i : Option OpId) (t : FlatTerm) (e : OpId) → i ≡ Some e → as_constant t ≡ Some e → is_root_of i (root_of t) ≡ true
root_from i t e p q = rw p (go t q) where
  go : (t : FlatTerm) → as_constant t ≡ Some e → is_root_of (Some e) (root_of t) ≡ true
  go (fvar x) q = cc
  go (fapp g true ts) q = cc
  go (fapp g false fnone) q = let s : g ≡ e = cc in rw s (same_op_itself e)
  go (fapp g false (fmore t ts)) q = cc

-- a sum of two or more summands, and an operator over some forms, is no variable and no constant
joined_root : (d : Declarations) (f : OpId) (l : List FlatTerm) → 2 ≤ length l → root_of (joined d f l) ≡ Compound
joined_root d f [] n = absurd (omega arith)
joined_root d f (t ∷ []) n = absurd (omega arith)
joined_root d f (t ∷ u ∷ us) n = refl

packed_root : (f : OpId) (l : List FlatTerm) → (l ≡ [] → ⊥) → root_of (fapp f false (fpack l)) ≡ Compound
packed_root f [] n = absurd (n refl)
packed_root f (t ∷ l) n = refl

some_length : (l : List FlatTerm) → (l ≡ [] → ⊥) → 1 ≤ length l
some_length [] n = absurd (n refl)
some_length (t ∷ l) n = omega arith

-- an operator without an identity over shapes
beside_none : (d : Declarations) (f : OpId) (a : Shape) (ss : List Shape) → shape_beside d None f (a ∷ ss) ≡ compound (result d f (sorts_of (a ∷ ss)))
beside_none d f a [] = refl
beside_none d f a (b ∷ []) = refl
beside_none d f a (b ∷ c ∷ ss) = refl

module _ (d : Declarations) where
  sorts_of_shapes : (l : List FlatTerm) → sorts_of (map (shape_of d) l) ≡ map (least_sort d) l
  sorts_of_shapes [] = refl
  sorts_of_shapes (t ∷ l) = ap (λ ss. least_sort d t ∷ ss) (sorts_of_shapes l)

  unjoined_root : (f : OpId) → (IsAssociative (axioms d f) → ⊥) → (t : FlatTerm) (ts : List FlatTerm) → root_of (build d f (t ∷ ts)) ≡ Compound
  unjoined_root f n t ts = go (axioms d f) n
    where
      go : (a : Axioms) → (IsAssociative a → ⊥) → root_of (built d a f (t ∷ ts)) ≡ Compound
      go Free m = refl
      go Comm m = packed_root f (sort (t ∷ ts)) (λ e. let q = sort_is_nil (t ∷ ts) e in cc)
      go AssocComm m = absurd (m tt)
      go (AssocCommId o) m = absurd (m tt)

  sum_root : (f : OpId) → IsAssociative (axioms d f) → (a b : FlatTerm) → (parts d f a ≡ [] → ⊥) → (parts d f b ≡ [] → ⊥) → root_of (build d f (a ∷ b ∷ [])) ≡ Compound
  sum_root f assoc a b na nb =
      ap root_of (build_sum d f assoc a (b ∷ []))
      ∙ (
      let x = some_length (parts d f a) na in
      let y = some_length (parts d f b) nb in
      let n = length-append (parts d f a) (parts d f b ++ []) in
      let m = length-append (parts d f b) [] in
      let s = length_sort (all_parts d f (a ∷ b ∷ [])) in
      let two : 2 ≤ length (sort (all_parts d f (a ∷ b ∷ []))) = omega arith in
      joined_root d f (sort (all_parts d f (a ∷ b ∷ []))) two)

  shape_is : (t : FlatTerm) (s : SortId) → root_of t ≡ Compound → least_sort d t ≡ s → shape_of d t ≡ compound s
  shape_is t s p q = ap (λ g. record { root = g; sort = least_sort d t }) p ∙ ap compound q

  module _ (good : IsGood d) where
    shape_unjoined : (f : OpId) → (IsAssociative (axioms d f) → ⊥) → (t : Term) (ts : Terms) (k : SortId) → HasKind d (app f (more t ts)) k → shape_of d (canon d (app f (more t ts))) ≡ shape_over d f (map (shape_of d) (eval_all d fvar (more t ts)))
    shape_unjoined f n t ts k h =
        shape_is (canon d (app f (more t ts))) (result d f (map (least_sort d) (eval_all d fvar (more t ts))))
        (unjoined_root f n (canon d t) (eval_all d fvar ts))
        (least_sort_of_app d good f (more t ts) k h (each (λ t. IsIdentityOf d f t → ⊥) (λ t w. no_identity (axioms d f) w.0 n w.1) (eval_all d fvar (more t ts))))
        ∙ ap (λ ss. compound (result d f ss)) (sym (sorts_of_shapes (eval_all d fvar (more t ts))))
        ∙ sym (beside_none d f (shape_of d (canon d t)) (map (shape_of d) (eval_all d fvar ts)))
        ∙ ap (λ i. shape_beside d i f (map (shape_of d) (eval_all d fvar (more t ts)))) (sym (identity_none (axioms d f) n))

    module _ (f : OpId) (assoc : IsAssociative (axioms d f)) (t u : Term) (k : SortId) (h : HasKind d (two f t u) k) where
      abbrev a : FlatTerm
      a = canon d t

      abbrev b : FlatTerm
      b = canon d u

      is_left : is_root_of (identity (axioms d f)) (root_of a) ≡ true → IsIdentityOf d f a
      is_left e = root_true (identity (axioms d f)) a e

      is_right : is_root_of (identity (axioms d f)) (root_of b) ≡ true → IsIdentityOf d f b
      is_right e = root_true (identity (axioms d f)) b e

      not_left : is_root_of (identity (axioms d f)) (root_of a) ≡ false → IsIdentityOf d f a → ⊥
      not_left e w = let q = root_from (identity (axioms d f)) a w.0 w.1 w.2 in let r : true ≡ false = sym q ∙ e in cc

      not_right : is_root_of (identity (axioms d f)) (root_of b) ≡ false → IsIdentityOf d f b → ⊥
      not_right e w = let q = root_from (identity (axioms d f)) b w.0 w.1 w.2 in let r : true ≡ false = sym q ∙ e in cc

      shape_sum : shape_of d (canon d (two f t u)) ≡ shape_over d f (shape_of d a ∷ shape_of d b ∷ [])
      shape_sum = go (is_root_of (identity (axioms d f)) (root_of a)) refl (is_root_of (identity (axioms d f)) (root_of b)) refl
        where
          go : (x : Bool) → is_root_of (identity (axioms d f)) (root_of a) ≡ x → (y : Bool) → is_root_of (identity (axioms d f)) (root_of b) ≡ y → shape_of d (canon d (two f t u)) ≡ (if x then shape_of d b else if y then shape_of d a else compound (result d f (least_sort d a ∷ least_sort d b ∷ [])))
          go true p y q = ap (shape_of d) (canon_left_identity d f t u (is_left p))
          go false p true q = ap (shape_of d) (canon_right_identity d f t u (is_right q))
          go false p false q =
              shape_is (canon d (two f t u)) (result d f (least_sort d a ∷ least_sort d b ∷ []))
              (sum_root f assoc a b (λ e. not_left p ((parts_none_iff d f a (canon_settled d t)).0 e)) (λ e. not_right q ((parts_none_iff d f b (canon_settled d u)).0 e)))
              (least_sort_of_app d good f (more t (more u none)) k h (not_left p, (not_right q, tt)))

    pub two_terms : (f : OpId) → IsAssociative (axioms d f) → (ts : Terms) (k : SortId) → HasKind d (app f ts) k → (t : Term) × (u : Term) × (ts ≡ more t (more u none))
    two_terms f assoc ts k h = go _ _ ts (subst (HaveKinds d ts) (good.fits.associative f h.rank assoc h.listed) h.args)
      where
        go : (p q : SortId) (ts : Terms) → HaveKinds d ts (p ∷ q ∷ []) → (t : Term) × (u : Term) × (ts ≡ more t (more u none))
        go p q none h = absurd h
        go p q (more t none) h = absurd h.1
        go p q (more t (more u none)) h = (t, u, refl)
        go p q (more t (more u (more v vs))) h = absurd h.1.1

    -- the shape of an operator over terms, by their shapes
    pub shape_app : (f : OpId) (ts : Terms) (k : SortId) → HasKind d (app f ts) k → shape_of d (canon d (app f ts)) ≡ shape_over d f (map (shape_of d) (eval_all d fvar ts))
    shape_app f none k h = refl
    shape_app f (more t ts) k h = go (axioms d f) refl
      where
        summed : IsAssociative (axioms d f) → shape_of d (canon d (app f (more t ts))) ≡ shape_over d f (map (shape_of d) (eval_all d fvar (more t ts)))
        summed assoc =
            let w = two_terms f assoc (more t ts) k h in
            subst (λ us. shape_of d (canon d (app f us)) ≡ shape_over d f (map (shape_of d) (eval_all d fvar us))) (sym w.2)
            (shape_sum f assoc w.0 w.1 k (subst (λ us. HasKind d (app f us) k) w.2 h))

        go : (x : Axioms) → axioms d f ≡ x → shape_of d (canon d (app f (more t ts))) ≡ shape_over d f (map (shape_of d) (eval_all d fvar (more t ts)))
        go Free e = shape_unjoined f (λ i. subst IsAssociative e i) t ts k h
        go Comm e = shape_unjoined f (λ i. subst IsAssociative e i) t ts k h
        go AssocComm e = summed (rw e tt)
        go (AssocCommId o) e = summed (rw e tt)

    module _ (s : Substitution) (keeps : KeepsKinds d s) where
      abbrev values : Var → Shape
      values x = shape_of d (canon d (s x))

      mutual
        pub shape_exact : (t : Term) (k : SortId) → HasKind d t k → shape_of d (canon d (apply s t)) ≡ shape_in d values t
        shape_exact (var x) k h = refl
        shape_exact (app f ts) k h = shape_app f (apply_all s ts) k (HasKind-apply d s keeps (app f ts) k h) ∙ ap (shape_over d f) (shapes_exact ts _ h.args)

        shapes_exact : (ts : Terms) (ks : List SortId) → HaveKinds d ts ks → map (shape_of d) (eval_all d fvar (apply_all s ts)) ≡ shapes_in d values ts
        shapes_exact none ks h = refl
        shapes_exact (more t ts) [] h = absurd h
        shapes_exact (more t ts) (k ∷ ks) h =
            ap (λ a. a ∷ map (shape_of d) (eval_all d fvar (apply_all s ts))) (shape_exact t k h.0) ∙ ap (λ l. shape_in d values t ∷ l) (shapes_exact ts ks h.1)
