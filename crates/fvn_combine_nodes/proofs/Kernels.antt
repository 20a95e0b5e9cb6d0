-- The partition of nodes that a substitution makes.
use Rattle.std.proofs.Common.{◌≡◌, ◌⊎◌, ℕ, zero, suc, ◌+◌, ◌≤◌, ◌-◌, true, false, List, [], ◌∷◌, length, map, refl, sym, ap, ◌∙◌, subst, inl, inr, arith, All, Some}
use Rattle.std.specs.Prelude.{if◌then◌else◌}
use Rattle.std.specs.Ordering.{is_gt}
use Rattle.std.proofs.lemmas.Bool.{cases_lt, cases_Bool}
use Rattle.std.proofs.lemmas.List.{length-map, get_or-map}
use Rattle.std.proofs.lemmas.Option.{slice_get_within}
use Rattle.fvn_terms.specs.declared.plain.OpId.{OpId}
use Rattle.fvn_terms.specs.declared.declarations.Axioms.TheVariants.{Free, Comm}
use Rattle.fvn_terms.specs.declared.declarations.Declarations.{Declarations}
use Rattle.fvn_terms.specs.Term.{Term}
use Rattle.fvn_terms.specs.Substitution.{Substitution, apply}
use Rattle.fvn_terms.specs.Signature.{axioms, IsTerm}
use Rattle.fvn_terms.specs.Equality.{BEqual, IsAssociative}
use Rattle.fvn_terms.specs.Unifiers.{Problem}
use Rattle.fvn_terms.proofs.Equal.{HasKind-apply}
use Rattle.fvn_forms.specs.Flat.{FlatTerm, FlatTerms, fvar, fapp, fnone, fpack, funpack}
use Rattle.fvn_forms.specs.Order.{flat_cmp, same_flat}
use Rattle.fvn_forms.specs.InOrder.{sort}
use Rattle.fvn_forms.specs.Canon.{build}
use Rattle.fvn_forms.specs.FitsKinds.{FitsKinds}
use Rattle.fvn_forms.proofs.Order.{same_flat_is, same_flat_itself}
use Rattle.fvn_forms.proofs.Sums.{funpack-fpack}
use Rattle.fvn_forms.proofs.Eval.{canon_respects}
use Rattle.fvn_forms.proofs.ToCanon.{b_equal_iff_canon}
use Rattle.fvn_flat.specs.Forms.{head_of}
use Rattle.fvn_flat.specs.Problems.{IsProblem}
use Rattle.fvn_flat.specs.SolvedLists.{IsKindUnifier}
use Rattle.fvn_combine_nodes.specs.Table.{NodeTable, term_at, IsOver, IsWellMade, IsTableOf}
use Rattle.fvn_combine_nodes.specs.Classes.{AreTogether, AreAlike}
use Rattle.fvn_combine_nodes.specs.Unifiers.{value_at, first_at, kernel, Partitions}
use Rattle.fvn_combine_nodes.specs.declared.table.Node.{Node}
use Rattle.fvn_combine_nodes.specs.declared.table.Node.TheVariants.{App}
use Rattle.fvn_combine_nodes.proofs.Nodes.{term_at-over}
use Rattle.fvn_combine_nodes.proofs.Subterms.{node_kinded}
use Rattle.fvn_combine_nodes.proofs.Heading.{build_free, build_commutative, build_head, two_arguments, value_over, values_settled}

-- the first number at which a value is found
module _ (values : ℕ → FlatTerm) where
  step_same : (q : FlatTerm) (n : ℕ) → same_flat (values (first_at values q n)) q ≡ true → first_at values q (suc n) ≡ first_at values q n
  step_same q n e = ap (λ b. if b then first_at values q n else suc n) e

  step_other : (q : FlatTerm) (n : ℕ) → same_flat (values (first_at values q n)) q ≡ false → first_at values q (suc n) ≡ suc n
  step_other q n e = ap (λ b. if b then first_at values q n else suc n) e

  first_found : (q : FlatTerm) (n k : ℕ) → k ≤ n → values k ≡ q → values (first_at values q n) ≡ q
  first_found q zero k h e = ap values (let z : 0 ≡ k = omega arith in z) ∙ e
  first_found q (suc n) k h e = elim (cases_Bool (same_flat (values (first_at values q n)) q)) [
    | inl t ↦ ap values (step_same q n t) ∙ same_flat_is (values (first_at values q n)) q t
    | inr f ↦ elim (cases_lt k (suc n)) [
      | inl l ↦ absurd (let found = first_found q n k (omega arith) e in let t : true ≡ false = sym (ap (λ v. same_flat v q) found ∙ same_flat_itself q) ∙ f in cc)
      | inr g ↦ ap values (step_other q n f) ∙ ap values (let l : suc n ≡ k = omega arith in l) ∙ e
    ]
  ]

  first_later : (q : FlatTerm) (n m : ℕ) → values (first_at values q n) ≡ q → first_at values q (n + m) ≡ first_at values q n
  first_later q n zero e = ap (first_at values q) (let l : n + 0 ≡ n = omega arith in l)
  first_later q n (suc m) e =
      let so_far = first_later q n m e in
      ap (first_at values q) (let l : n + suc m ≡ suc (n + m) = omega arith in l)
      ∙ step_same q (n + m) (ap (λ k. same_flat (values k) q) so_far ∙ ap (λ v. same_flat v q) e ∙ same_flat_itself q)
      ∙ so_far

  pub first_value : (i : ℕ) → values (first_at values (values i) i) ≡ values i
  first_value i = first_found (values i) i i (omega arith) refl

  first_le : (i j : ℕ) → i ≤ j → values i ≡ values j → first_at values (values i) i ≡ first_at values (values j) j
  first_le i j h e =
      sym (first_later (values i) i (j - i) (first_value i))
      ∙ ap (first_at values (values i)) (let l : i + (j - i) ≡ j = omega arith in l)
      ∙ ap (λ q. first_at values q j) e

  -- numbers with one value have one first number, and no others
  pub first_same : (i j : ℕ) → values i ≡ values j → first_at values (values i) i ≡ first_at values (values j) j
  first_same i j e = elim (cases_lt i j) [
    | inl l ↦ first_le i j (omega arith) e
    | inr g ↦ sym (first_le j i g (sym e))
  ]

  pub first_tells : (i j : ℕ) → first_at values (values i) i ≡ first_at values (values j) j → values i ≡ values j
  first_tells i j e = sym (first_value i) ∙ ap values e ∙ first_value j

-- two forms in order
sorted_two : (a b v w : FlatTerm) → sort (a ∷ b ∷ []) ≡ sort (v ∷ w ∷ []) → ((a ≡ v) × (b ≡ w)) ⊎ ((a ≡ w) × (b ≡ v))
sorted_two a b v w e = elim (cases_Bool (is_gt (flat_cmp a b))) [
  | inl p ↦ elim (cases_Bool (is_gt (flat_cmp v w))) [
    | inl q ↦ let r : b ∷ a ∷ [] ≡ w ∷ v ∷ [] = sym (after a b p) ∙ e ∙ after v w q in inl (cc, cc)
    | inr q ↦ let r : b ∷ a ∷ [] ≡ v ∷ w ∷ [] = sym (after a b p) ∙ e ∙ before v w q in inr (cc, cc)
  ]
  | inr p ↦ elim (cases_Bool (is_gt (flat_cmp v w))) [
    | inl q ↦ let r : a ∷ b ∷ [] ≡ w ∷ v ∷ [] = sym (before a b p) ∙ e ∙ after v w q in inr (cc, cc)
    | inr q ↦ let r : a ∷ b ∷ [] ≡ v ∷ w ∷ [] = sym (before a b p) ∙ e ∙ before v w q in inl (cc, cc)
  ]
]
  where
    after : (x y : FlatTerm) → is_gt (flat_cmp x y) ≡ true → sort (x ∷ y ∷ []) ≡ y ∷ x ∷ []
    after x y t = ap (λ b. if b then y ∷ x ∷ [] else x ∷ y ∷ []) t

    before : (x y : FlatTerm) → is_gt (flat_cmp x y) ≡ false → sort (x ∷ y ∷ []) ≡ x ∷ y ∷ []
    before x y t = ap (λ b. if b then y ∷ x ∷ [] else x ∷ y ∷ []) t

module _ (d : Declarations) (f : OpId) where
  fpack-injective : (vs ws : List FlatTerm) → fpack vs ≡ fpack ws → vs ≡ ws
  fpack-injective vs ws e = sym (funpack-fpack vs) ∙ ap funpack e ∙ funpack-fpack ws

  under : FlatTerm → FlatTerms
  under (fvar x) = fnone
  under (fapp g joined ts) = ts

  pub free_arguments : axioms d f ≡ Free → (vs ws : List FlatTerm) → build d f vs ≡ build d f ws → vs ≡ ws
  unfolding under
  free_arguments e vs ws same = fpack-injective vs ws (ap under (sym (build_free d f e vs) ∙ same ∙ build_free d f e ws))

  pub commutative_arguments : axioms d f ≡ Comm → (a b v w : FlatTerm) → build d f (a ∷ b ∷ []) ≡ build d f (v ∷ w ∷ []) → ((a ≡ v) × (b ≡ w)) ⊎ ((a ≡ w) × (b ≡ v))
  unfolding under
  commutative_arguments e a b v w same =
      sorted_two a b v w (fpack-injective (sort (a ∷ b ∷ [])) (sort (v ∷ w ∷ [])) (ap under (sym (build_commutative d f e (a ∷ b ∷ [])) ∙ same ∙ build_commutative d f e (v ∷ w ∷ []))))

-- classes and values
module _ (d : Declarations) (s : Substitution) (nodes : List Node) where
  pub same_class : (i j : ℕ) → value_at d s nodes i ≡ value_at d s nodes j → kernel d s nodes i ≡ kernel d s nodes j
  same_class i j e = first_same (value_at d s nodes) i j e

  pub same_value : (i j : ℕ) → kernel d s nodes i ≡ kernel d s nodes j → value_at d s nodes i ≡ value_at d s nodes j
  same_value i j e = first_tells (value_at d s nodes) i j e

  together_values : (ks ls : List ℕ) → AreTogether (kernel d s nodes) ks ls → map (value_at d s nodes) ks ≡ map (value_at d s nodes) ls
  together_values [] [] e = refl
  together_values [] (l ∷ ls) e = cc
  together_values (k ∷ ks) [] e = cc
  together_values (k ∷ ks) (l ∷ ls) e =
      let first : kernel d s nodes k ≡ kernel d s nodes l = cc in
      let rest : map (kernel d s nodes) ks ≡ map (kernel d s nodes) ls = cc in
      let a = same_value k l first in
      let b = together_values ks ls rest in
      cc

  values_together : (ks ls : List ℕ) → map (value_at d s nodes) ks ≡ map (value_at d s nodes) ls → AreTogether (kernel d s nodes) ks ls
  values_together [] [] e = refl
  values_together [] (l ∷ ls) e = cc
  values_together (k ∷ ks) [] e = cc
  values_together (k ∷ ks) (l ∷ ls) e =
      let first : value_at d s nodes k ≡ value_at d s nodes l = cc in
      let rest : map (value_at d s nodes) ks ≡ map (value_at d s nodes) ls = cc in
      let a = same_class k l first in
      let b = values_together ks ls rest in
      cc

module _ (d : Declarations) (fits : FitsKinds d) (problem : Problem) (is_problem : IsProblem d problem) (t : NodeTable) (made : IsWellMade t) (table : IsTableOf d problem t) (s : Substitution) (unifier : IsKindUnifier d problem s) where
  abbrev class : ℕ → ℕ
  class = kernel d s t.nodes

  -- an associative operator at a node stands over two
  two_nodes : (i : ℕ) (f : OpId) (ks : List ℕ) → IsOver t.nodes i f ks → IsAssociative (axioms d f) → length (map (value_at d s t.nodes) ks) ≡ 2
  two_nodes i f ks is assoc =
      let kinded = node_kinded d fits problem is_problem t table i (slice_get_within t.nodes i (App f ks) is) in
      let two = two_arguments d fits f (map (term_at t.nodes) ks) (subst (IsTerm d) (term_at-over t.nodes made.ordered i f ks is) kinded) assoc in
      length-map ks (value_at d s t.nodes) ∙ sym (length-map ks (term_at t.nodes)) ∙ two

  alike : (i j : ℕ) (f g : OpId) (ks ls : List ℕ) → IsOver t.nodes i f ks → IsOver t.nodes j g ls → class i ≡ class j → AreAlike d (λ a v. ⊥) class f g ks ls
  alike i j f g ks ls left right e =
      let values = value_at d s t.nodes in
      let same : build d f (map values ks) ≡ build d g (map values ls) =
      sym (value_over d s t.nodes made.ordered i f ks left) ∙ same_value d s t.nodes i j e ∙ value_over d s t.nodes made.ordered j g ls right
      in
      record {
        one_head = λ bare other.
            let a = build_head d f bare (map values ks) (values_settled d s t.nodes ks) (two_nodes i f ks left) in
            let b = build_head d g other (map values ls) (values_settled d s t.nodes ls) (two_nodes j g ls right) in
            let r : Some f ≡ Some g = sym a ∙ ap head_of same ∙ b in
            cc;
        free = λ is one. values_together d s t.nodes ks ls (free_arguments d f is (map values ks) (map values ls) (same ∙ ap (λ o. build d o (map values ls)) (sym one)));
        commutative = λ is one a b v w p q.
            let here : build d f (values a ∷ values b ∷ []) ≡ build d f (values v ∷ values w ∷ []) =
            ap (λ l. build d f (map values l)) (sym p) ∙ same ∙ ap (λ o. build d o (map values ls)) (sym one) ∙ ap (λ l. build d f (map values l)) q
            in
            elim (commutative_arguments d f is (values a) (values b) (values v) (values w) here) [
              | inl m ↦ inl (inl (same_class d s t.nodes a v m.0, same_class d s t.nodes b w m.1))
              | inr m ↦ inl (inr (same_class d s t.nodes a w m.0, same_class d s t.nodes b v m.1))
            ];
      }

  -- what holds of each pair of terms holds of each pair of nodes
  sides_same : (sides : List (ℕ × ℕ)) (pairs : Problem) → map (λ p. (term_at t.nodes p.0, term_at t.nodes p.1)) sides ≡ pairs → All (λ p. BEqual d (apply s p.0) (apply s p.1)) pairs → All (λ p. class p.0 ≡ class p.1) sides
  sides_same sides pairs is h k e within =
      let P = λ (p : Term × Term). BEqual d (apply s p.0) (apply s p.1) in
      let T : ℕ × ℕ → Term × Term = λ p. (term_at t.nodes p.0, term_at t.nodes p.1) in
      let mapped : All P (map T sides) = subst (All P) (sym is) h in
      let n = length-map sides T in
      let at = subst P (get_or-map T sides k e (T e) within) (mapped k (T e) (omega (arith, n))) in
      same_class d s t.nodes _ _ (canon_respects d at)

  pub unifier_partitions : Partitions d t s
  unifier_partitions = record {
    partition = record {
      sides = sides_same t.sides problem table.sides unifier.1;
      nodes = λ i j f g ks ls left right. record {
        congruent = λ one e.
            same_class d s t.nodes i j
            (
            value_over d s t.nodes made.ordered i f ks left
            ∙ ap (build d f) (together_values d s t.nodes ks ls e)
            ∙ ap (λ o. build d o (map (value_at d s t.nodes) ls)) one
            ∙ sym (value_over d s t.nodes made.ordered j g ls right)
            );
        alike = alike i j f g ks ls left right;
      };
    };
    exact = λ i j l m.
        let a = node_kinded d fits problem is_problem t table i l in
        let b = node_kinded d fits problem is_problem t table j m in
        let iff = b_equal_iff_canon d fits (apply s (term_at t.nodes i)) (apply s (term_at t.nodes j)) (a.0, HasKind-apply d s unifier.0 (term_at t.nodes i) a.0 a.1) (b.0, HasKind-apply d s unifier.0 (term_at t.nodes j) b.0 b.1) in (
          λ e. iff.1 (same_value d s t.nodes i j e),
          λ e. same_class d s t.nodes i j (iff.0 e),
        );
  }
