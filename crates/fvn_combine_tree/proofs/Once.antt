-- Lists with each member once.
use Rattle.std.proofs.Common.{◌≡◌, ◌≢◌, ℕ, ◌<◌, Bool, true, false, not, nat_eq, List, [], ◌∷◌, ◌++◌, length, map, refl, sym, ap, ◌∙◌, inl, inr, All, Contains}
use Rattle.std.specs.Prelude.{◌||◌, cond}
use Rattle.std.specs.List.{filter}
use Rattle.std.proofs.lemmas.Bool.{cases_Bool, cases_eq, eq-eqb, ne_eqb, false_from_ne_true, or_parts}
use Rattle.std.proofs.lemmas.List.{append-nil}
use Rattle.std.proofs.lemmas.List.Elements.{filter-append, All-head, All-tail, All-filter, All-cons}
use Rattle.fvn_flat.specs.Problems.{same_term, once}
use Rattle.fvn_combine_nodes.specs.Table.{term_at}
use Rattle.fvn_combine_nodes.specs.declared.table.Node.{Node}
use Rattle.fvn_combine_tree.specs.inner.Drafts.{AreNodes, once_each}
use Rattle.fvn_combine_nodes.proofs.Nodes.{term_at-injective}
use Rattle.fvn_combine_nodes.proofs.Lists.{has, has-contains, contains-has}
use Rattle.fvn_combine_nodes.proofs.Terms.{same_term_itself, same_term_is}

abbrev other : ℕ → ℕ → Bool
other x y = not (nat_eq x y)

-- a filter that y passes changes nothing of whether y is there
has-filter : (x y : ℕ) (xs : List ℕ) → x ≢ y → has y (filter (other x) xs) ≡ has y xs
has-filter x y [] n = refl
has-filter x y (z ∷ xs) n = elim (cases_eq x z) [
  | inl e ↦
      ap (λ b. has y (cond (not b) (z ∷ filter (other x) xs) (filter (other x) xs))) (eq-eqb x z e)
      ∙ has-filter x y xs n
      ∙ sym (ap (λ b. b || has y xs) (ne_eqb z y (λ q. n (e ∙ q))))
  | inr o ↦
      ap (λ b. has y (cond (not b) (z ∷ filter (other x) xs) (filter (other x) xs))) (ne_eqb x z o)
      ∙ ap (λ b. nat_eq z y || b) (has-filter x y xs n)
]

filter-one : (x y : ℕ) → x ≢ y → filter (other x) (y ∷ []) ≡ y ∷ []
filter-one x y n = ap (λ b. cond (not b) (y ∷ []) []) (ne_eqb x y n)

filter-same : (x : ℕ) → filter (other x) (x ∷ []) ≡ []
filter-same x = ap (λ b. cond (not b) (x ∷ []) []) (eq-eqb x x refl)

-- a member that is there is passed over, and another comes to the end
mutual
  pub once_each-there : (xs : List ℕ) (y : ℕ) → has y (once_each xs) ≡ true → once_each (xs ++ y ∷ []) ≡ once_each xs
  once_each-there [] y e = cc
  once_each-there (x ∷ xs) y e = elim (cases_eq x y) [
    | inl same ↦ elim (cases_Bool (has y (once_each xs))) [
      | inl h ↦ ap (λ l. x ∷ filter (other x) l) (once_each-there xs y h)
      | inr n ↦
          ap (λ l. x ∷ filter (other x) l) (once_each-new xs y n)
          ∙ ap (λ l. x ∷ l) (filter-append (other x) (once_each xs) (y ∷ []) ∙ ap (λ z. filter (other x) (once_each xs) ++ filter (other x) (z ∷ [])) (sym same) ∙ ap (λ l. filter (other x) (once_each xs) ++ l) (filter-same x) ∙ append-nil (filter (other x) (once_each xs)))
    ]
    | inr n ↦ ap (λ l. x ∷ filter (other x) l) (once_each-there xs y (sym (has-filter x y (once_each xs) n) ∙ later x y n e))
  ]
    where
      later : (x y : ℕ) → x ≢ y → has y (x ∷ filter (other x) (once_each xs)) ≡ true → has y (filter (other x) (once_each xs)) ≡ true
      later x y n e = sym (ap (λ b. b || has y (filter (other x) (once_each xs))) (ne_eqb x y n)) ∙ e

  pub once_each-new : (xs : List ℕ) (y : ℕ) → has y (once_each xs) ≡ false → once_each (xs ++ y ∷ []) ≡ once_each xs ++ y ∷ []
  once_each-new [] y e = refl
  once_each-new (x ∷ xs) y e =
      let p = or_parts (nat_eq x y) (has y (filter (other x) (once_each xs))) e in
      let n : x ≢ y = λ q. (let r : true ≡ false = sym (eq-eqb x y q) ∙ p.0 in cc) in
      ap (λ l. x ∷ filter (other x) l) (once_each-new xs y (sym (has-filter x y (once_each xs) n) ∙ p.1))
      ∙ ap (λ l. x ∷ l) (filter-append (other x) (once_each xs) (y ∷ []) ∙ ap (λ l. filter (other x) (once_each xs) ++ l) (filter-one x y n))

-- the members are those of the list
pub once_each-all : (P : ℕ → Type 0) (xs : List ℕ) → All P xs → All P (once_each xs)
once_each-all P [] h = h
once_each-all P (x ∷ xs) h = All-cons P x (filter (other x) (once_each xs)) (All-head P x xs h) (All-filter (other x) P (once_each xs) (once_each-all P xs (All-tail P x xs h)))

pub has-once_each : (y : ℕ) (xs : List ℕ) → has y (once_each xs) ≡ has y xs
has-once_each y [] = refl
has-once_each y (x ∷ xs) = elim (cases_eq x y) [
  | inl e ↦ ap (λ b. b || has y (filter (other x) (once_each xs))) (eq-eqb x y e) ∙ sym (ap (λ b. b || has y xs) (eq-eqb x y e))
  | inr n ↦ ap (λ b. nat_eq x y || b) (has-filter x y (once_each xs) n ∙ has-once_each y xs)
]

pub contains_once_each : (y : ℕ) (xs : List ℕ) → Contains xs y → Contains (once_each xs) y
contains_once_each y xs c = has-contains y (once_each xs) (has-once_each y xs ∙ contains-has y xs c)

-- the terms of nodes, each once
module _ (nodes : List Node) (are : AreNodes nodes) where
  same_node : (i j : ℕ) → i < length nodes → j < length nodes → same_term (term_at nodes i) (term_at nodes j) ≡ nat_eq i j
  same_node i j h g = elim (cases_eq i j) [
    | inl e ↦ ap (λ k. same_term (term_at nodes i) (term_at nodes k)) (sym e) ∙ same_term_itself (term_at nodes i) ∙ sym (eq-eqb i j e)
    | inr n ↦ false_from_ne_true (same_term (term_at nodes i) (term_at nodes j)) (λ e. n (term_at-injective nodes are.1 i j h g (same_term_is (term_at nodes i) (term_at nodes j) e))) ∙ sym (ne_eqb i j n)
  ]

  filtered_terms : (i : ℕ) (xs : List ℕ) → i < length nodes → All (λ k. k < length nodes) xs → map (term_at nodes) (filter (other i) xs) ≡ filter (λ u. not (same_term (term_at nodes i) u)) (map (term_at nodes) xs)
  filtered_terms i [] h g = refl
  filtered_terms i (x ∷ xs) h g =
      let P = λ (n : ℕ). n < length nodes in
      let test = same_node i x h (All-head P x xs g) in
      let rest = filtered_terms i xs h (All-tail P x xs g) in
      mapped (nat_eq i x)
      ∙ ap (λ b. cond (not b) (term_at nodes x ∷ map (term_at nodes) (filter (other i) xs)) (map (term_at nodes) (filter (other i) xs))) (sym test)
      ∙ ap (λ l. cond (not (same_term (term_at nodes i) (term_at nodes x))) (term_at nodes x ∷ l) l) rest
    where
      mapped : (b : Bool) → map (term_at nodes) (cond (not b) (x ∷ filter (other i) xs) (filter (other i) xs)) ≡ cond (not b) (term_at nodes x ∷ map (term_at nodes) (filter (other i) xs)) (map (term_at nodes) (filter (other i) xs))
      mapped true = refl
      mapped false = refl

  pub once_terms : (xs : List ℕ) → All (λ k. k < length nodes) xs → map (term_at nodes) (once_each xs) ≡ once (map (term_at nodes) xs)
  once_terms [] h = refl
  once_terms (x ∷ xs) h =
      let P = λ (n : ℕ). n < length nodes in
      let rest = All-tail P x xs h in
      ap (λ l. term_at nodes x ∷ l) (filtered_terms x (once_each xs) (All-head P x xs h) (once_each-all P xs rest) ∙ ap (filter (λ u. not (same_term (term_at nodes x) u))) (once_terms xs rest))
