-- How the lists of parts, pairs and operators grow.
use Rattle.std.proofs.Common.{◌≡◌, ◌⊎◌, ℕ, ◌+◌, ◌<◌, ◌≤◌, List, [], ◌∷◌, ◌++◌, length, refl, sym, ◌∙◌, subst, inl, inr, arith, Some, Contains}
use Rattle.std.proofs.lemmas.Bool.{cases_lt}
use Rattle.std.proofs.lemmas.Option.{slice_get_within}
use Rattle.fvn_terms.specs.declared.plain.OpId.{OpId}
use Rattle.fvn_terms.specs.declared.declarations.Declarations.{Declarations}
use Rattle.fvn_combine_nodes.specs.Table.{NodeTable}
use Rattle.fvn_combine_nodes.specs.declared.table.Node.TheVariants.{App}
use Rattle.fvn_purify.specs.Parts.{IsEach, ArePair, HasAxioms}
use Rattle.fvn_purify.specs.inner.Standing.{IsPairBelow, HeadsWithAxioms}
use Rattle.fvn_purify.proofs.Each.{each_same, each_more}

module _ (Has : ℕ → Type 0) (list : List ℕ) (i : ℕ) (each : IsEach (λ (k : ℕ). (k < i) × Has k) list) where
  -- the next number has it
  pub each_next : Has i → IsEach (λ (k : ℕ). (k < i + 1) × Has k) (list ++ i ∷ [])
  each_next own =
      each_more (λ (k : ℕ). (k < i) × Has k) (λ (k : ℕ). (k < i + 1) × Has k) list i each (λ h. let l = h.0 in omega arith) (λ k h. (let l = h.0 in omega arith, h.1)) (omega arith, own) (λ k h. elim (cases_lt k i) [
        | inl l ↦ inl (l, h.1)
        | inr g ↦ inr (let l = h.0 in omega arith)
      ])

  -- the next number does not have it
  pub each_skip : (Has i → ⊥) → IsEach (λ (k : ℕ). (k < i + 1) × Has k) list
  each_skip other = each_same (λ (k : ℕ). (k < i) × Has k) (λ (k : ℕ). (k < i + 1) × Has k) list (λ k h. (let l = h.0 in omega arith, h.1)) (λ k h. elim (cases_lt k i) [
    | inl l ↦ (l, h.1)
    | inr g ↦ absurd (let l = h.0 in let e : k ≡ i = omega arith in other (subst Has e h.1))
  ]) each

  -- no later number has it
  pub each_end : ((k : ℕ) → Has k → k < i) → IsEach Has list
  each_end below = each_same (λ (k : ℕ). (k < i) × Has k) Has list (λ k h. h.1) (λ k h. (below k h, h)) each

-- two numbers as a pair
abbrev Both : (i j : ℕ) → ℕ × ℕ
Both i j = (i, j)

-- the pair is that of the two numbers
abbrev Here : (i j : ℕ) → ℕ × ℕ → Type 0
Here i j p = Both i j ≡ p

same_pair : (i j : ℕ) (p : ℕ × ℕ) → i ≡ p.0 → j ≡ p.1 → Here i j p
same_pair i j p a b = subst (λ n. Here i n p) (sym b) (subst (λ n. Here n p.1 p) (sym a) refl)

module _ (d : Declarations) (t : NodeTable) where
  module _ (list : List (ℕ × ℕ)) (j i : ℕ) (each : IsEach (IsPairBelow d t j i) list) where
    abbrev here : ℕ × ℕ
    here = (i, j)

    wider : (p : ℕ × ℕ) → IsPairBelow d t j i p → IsPairBelow d t j (i + 1) p
    wider p h = (h.0, place h.1)
      where
        place : (p.1 < j) ⊎ ((p.1 ≡ j) × (p.0 < i)) → (p.1 < j) ⊎ ((p.1 ≡ j) × (p.0 < i + 1))
        place (inl l) = inl l
        place (inr r) = inr (r.0, let l = r.1 in omega arith)

    narrower : (p : ℕ × ℕ) → IsPairBelow d t j (i + 1) p → IsPairBelow d t j i p ⊎ (here ≡ p)
    narrower p h = place h.1
      where
        place : (p.1 < j) ⊎ ((p.1 ≡ j) × (p.0 < i + 1)) → IsPairBelow d t j i p ⊎ (here ≡ p)
        place (inl l) = inl (h.0, inl l)
        place (inr r) = elim (cases_lt p.0 i) [
          | inl l ↦ inl (h.0, inr (r.0, l))
          | inr g ↦ inr (let l = r.1 in same_pair i j p (omega arith) (sym r.0))
        ]

    pub pair_next : ArePair d t (i, j) → IsEach (IsPairBelow d t j (i + 1)) (list ++ (i, j) ∷ [])
    pair_next own = each_more (IsPairBelow d t j i) (IsPairBelow d t j (i + 1)) list (i, j) each (λ h. never h.1) wider (own, inr (refl, omega arith)) narrower
      where
        never : (j < j) ⊎ ((j ≡ j) × (i < i)) → ⊥
        never (inl l) = omega (arith, l)
        never (inr r) = let l = r.1 in omega arith

    pub pair_skip : (ArePair d t (i, j) → ⊥) → IsEach (IsPairBelow d t j (i + 1)) list
    pair_skip other = each_same (IsPairBelow d t j i) (IsPairBelow d t j (i + 1)) list wider (λ p h. elim (narrower p h) [
      | inl k ↦ k
      | inr e ↦ absurd (other (subst (ArePair d t) (sym e) h.0))
    ]) each

  -- all pairs with this higher node are listed
  pub row_done : (list : List (ℕ × ℕ)) (j : ℕ) → IsEach (IsPairBelow d t j j) list → IsEach (IsPairBelow d t (j + 1) 0) list
  row_done list j each = each_same (IsPairBelow d t j j) (IsPairBelow d t (j + 1) 0) list to from each
    where
      to : (p : ℕ × ℕ) → IsPairBelow d t j j p → IsPairBelow d t (j + 1) 0 p
      to p h = (h.0, place h.1)
        where
          place : (p.1 < j) ⊎ ((p.1 ≡ j) × (p.0 < j)) → (p.1 < j + 1) ⊎ ((p.1 ≡ j + 1) × (p.0 < 0))
          place (inl l) = inl (omega (arith, l))
          place (inr r) = inl (let e = r.0 in omega arith)

      from : (p : ℕ × ℕ) → IsPairBelow d t (j + 1) 0 p → IsPairBelow d t j j p
      from p h = (h.0, place h.1)
        where
          place : (p.1 < j + 1) ⊎ ((p.1 ≡ j + 1) × (p.0 < 0)) → (p.1 < j) ⊎ ((p.1 ≡ j) × (p.0 < j))
          place (inl l) = elim (cases_lt p.1 j) [
            | inl below ↦ inl below
            | inr g ↦ inr (omega (arith, l, g), let o = h.0.order in omega (arith, l, g, o))
          ]
          place (inr r) = absurd (let l = r.1 in omega arith)

  pub pairs_done : (list : List (ℕ × ℕ)) (n : ℕ) → length t.nodes ≤ n → IsEach (IsPairBelow d t n 0) list → IsEach (ArePair d t) list
  pairs_done list n end each =
      each_same (IsPairBelow d t n 0) (ArePair d t) list (λ p h. h.0) (λ p h. (h, inl (let l = slice_get_within t.nodes p.1 (App h.operator h.right) h.right_is in omega arith))) each

  module _ (list : List OpId) (i : ℕ) (each : IsEach (λ (f : OpId). (k : ℕ) × (k < i) × HeadsWithAxioms d t k f) list) where
    abbrev Before : OpId → Type 0
    Before f = (k : ℕ) × (k < i) × HeadsWithAxioms d t k f

    abbrev After : OpId → Type 0
    After f = (k : ℕ) × (k < i + 1) × HeadsWithAxioms d t k f

    later : (f : OpId) → Before f → After f
    later f h = (h.0, let l = h.1 in omega arith, h.2)

    pub operator_skip : ((f : OpId) → HeadsWithAxioms d t i f → Contains list f) → IsEach (λ (f : OpId). (k : ℕ) × (k < i + 1) × HeadsWithAxioms d t k f) list
    operator_skip listed = each_same Before After list later (λ f h. elim (cases_lt h.0 i) [
      | inl l ↦ (h.0, l, h.2)
      | inr g ↦ let l = h.1 in let e : h.0 ≡ i = omega arith in (each.all f).0 (listed f (subst (λ k. HeadsWithAxioms d t k f) e h.2))
    ]) each

    pub operator_next : (f : OpId) → HeadsWithAxioms d t i f → (Contains list f → ⊥) → IsEach (λ (f : OpId). (k : ℕ) × (k < i + 1) × HeadsWithAxioms d t k f) (list ++ f ∷ [])
    operator_next f own new = each_more Before After list f each (λ h. new ((each.all f).1 h)) later (i, omega arith, own) (λ g h. elim (cases_lt h.0 i) [
      | inl l ↦ inl (h.0, l, h.2)
      | inr m ↦ inr (
          let l = h.1 in
          let e : h.0 ≡ i = omega arith in
          let there = subst (λ k. HeadsWithAxioms d t k g) e h.2 in
          let same : Some (App f own.1.0) ≡ Some (App g there.1.0) = sym own.1.1 ∙ there.1.1 in
          cc)
    ])

  pub operators_done : (list : List OpId) (n : ℕ) → length t.nodes ≤ n → IsEach (λ (f : OpId). (k : ℕ) × (k < n) × HeadsWithAxioms d t k f) list → IsEach (HasAxioms d t) list
  operators_done list n end each =
      each_same (λ (f : OpId). (k : ℕ) × (k < n) × HeadsWithAxioms d t k f) (HasAxioms d t) list (λ f h. (h.2.0, (h.0, h.2.1.0, h.2.1.1))) (λ f h. (h.1.0, let l = slice_get_within t.nodes h.1.0 (App f h.1.1) h.1.2 in omega arith, (h.0, (h.1.1, h.1.2)))) each
