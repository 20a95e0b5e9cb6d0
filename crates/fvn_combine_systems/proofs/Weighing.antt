-- The row of a sum at a vector: it is zero where the components of the arguments together are that of the sum.
use Rattle.std.proofs.Common.{◌≡◌, ◌≢◌, ℕ, zero, suc, ◌+◌, ◌*◌, ◌-◌, Bool, true, false, List, [], ◌∷◌, map, length, get_or, refl, sym, ap, ◌∙◌, subst, inl, inr, arith, ◌<◌, AllPairs, Contains}
use Rattle.std.specs.Prelude.{pos, negsuc, ◌-ℤ◌, nat_eq, nat_lt, if◌then◌else◌, cond, ◌↔◌}
use Rattle.std.proofs.lemmas.Bool.{cases_eq, eq-eqb, ne_eqb, ltb-true, ltb-false}
use Rattle.std.proofs.lemmas.List.Elements.{Contains-get_or}
use Rattle.fvn_base.proofs.Membership.{contains_cases, contains_later, contains_none}
use Rattle.fvn_base.proofs.Pigeonhole.{AllPairs-tail, AllPairs-first}
use Rattle.fvn_forms.specs.InOrder.{one_if}
use Rattle.fvn_lindio.specs.Systems.{above, below, up, down, IsZeroAt}
use Rattle.fvn_combine_nodes.specs.FlatSolvedLists.{component}

-- a difference is above zero or below by what its parts differ
pub balance : (m n : ℕ) → above (pos m -ℤ pos n) + n ≡ below (pos m -ℤ pos n) + m
balance m zero = omega arith
balance m (suc n) = go (nat_lt m (suc n)) refl
  where
    go : (b : Bool) → nat_lt m (suc n) ≡ b → above (cond b (negsuc (suc n - suc m)) (pos (m - suc n))) + suc n ≡ below (cond b (negsuc (suc n - suc m)) (pos (m - suc n))) + m
    go true e = let l = ltb-true m (suc n) e in omega (arith, l)
    go false e = let l = ltb-false m (suc n) e in omega (arith, l)

-- each component so many times, all together
abbrev pub weighed : (ℕ → ℕ) → List ℕ → List ℕ → ℕ
weighed m [] x = 0
weighed m (k ∷ ks) [] = 0
weighed m (k ∷ ks) (a ∷ x) = m k * a + weighed m ks x

-- one component, so many times on both sides
times : (p n q m a : ℕ) → p + n ≡ q + m → p * a + n * a ≡ q * a + m * a
times p n q m a e = let f : (p + n) * a ≡ (q + m) * a = ap (λ k. k * a) e in omega (arith, f)

-- a row of differences, with what is taken on the other side
pub row_balance : (m n : ℕ → ℕ) (ks x : List ℕ) → up (map (λ k. pos (m k) -ℤ pos (n k)) ks) x + weighed n ks x ≡ down (map (λ k. pos (m k) -ℤ pos (n k)) ks) x + weighed m ks x
row_balance m n [] x = refl
row_balance m n (k ∷ ks) [] = refl
row_balance m n (k ∷ ks) (a ∷ x) =
    let rest = row_balance m n ks x in
    let one = times (above (pos (m k) -ℤ pos (n k))) (n k) (below (pos (m k) -ℤ pos (n k))) (m k) a (balance (m k) (n k)) in
    omega (arith, rest, one)

pub weighed-add : (m n : ℕ → ℕ) (ks x : List ℕ) → weighed (λ k. m k + n k) ks x ≡ weighed m ks x + weighed n ks x
weighed-add m n [] x = refl
weighed-add m n (k ∷ ks) [] = refl
weighed-add m n (k ∷ ks) (a ∷ x) = let rest = weighed-add m n ks x in omega (arith, rest)

-- no component where the number is not listed
pub component-out : (ks x : List ℕ) (k : ℕ) → (Contains ks k → ⊥) → component ks x k ≡ 0
component-out [] x k n = refl
component-out (c ∷ ks) [] k n = refl
component-out (c ∷ ks) (a ∷ x) k n = elim (cases_eq c k) [
  | inl e ↦ absurd (n (0, omega arith, e))
  | inr o ↦ ap (λ b. if b then a else component ks x k) (ne_eqb c k o) ∙ component-out ks x k (λ h. n (contains_later c ks k h))
]

weighed-out : (ks x : List ℕ) (k : ℕ) → (Contains ks k → ⊥) → weighed (λ c. one_if (nat_eq k c)) ks x ≡ 0
weighed-out [] x k n = refl
weighed-out (c ∷ ks) [] k n = refl
weighed-out (c ∷ ks) (a ∷ x) k n =
    let o : k ≢ c = λ e. n (0, omega arith, sym e) in
    let z = ap one_if (ne_eqb k c o) in
    let rest = weighed-out ks x k (λ h. n (contains_later c ks k h)) in
    omega (arith, ap (λ m. m * a) z, rest)

distinct_rest : (c : ℕ) (ks : List ℕ) → AllPairs ◌≢◌ (c ∷ ks) → AllPairs ◌≢◌ ks
distinct_rest c ks h i j d l m = h (suc i) (suc j) d (omega arith) (omega arith)

distinct_first : (c : ℕ) (ks : List ℕ) → AllPairs ◌≢◌ (c ∷ ks) → Contains ks c → ⊥
distinct_first c ks h (i, l, e) = h 0 (suc i) c (omega arith) (omega arith) (sym e)

-- of different columns one alone stands for a class
pub weighed-one : (ks x : List ℕ) (k : ℕ) → AllPairs ◌≢◌ ks → weighed (λ c. one_if (nat_eq k c)) ks x ≡ component ks x k
weighed-one [] x k h = refl
weighed-one (c ∷ ks) [] k h = refl
weighed-one (c ∷ ks) (a ∷ x) k h = elim (cases_eq c k) [
  | inl e ↦
      let first = ap one_if (eq-eqb k c (sym e)) in
      let rest = weighed-out ks x k (subst (λ n. Contains ks n → ⊥) e (distinct_first c ks h)) in
      let is : component (c ∷ ks) (a ∷ x) k ≡ a = ap (λ b. if b then a else component ks x k) (eq-eqb c k e) in
      omega (arith, ap (λ m. m * a) first, rest, is)
  | inr o ↦
      let first = ap one_if (ne_eqb k c (λ e. o (sym e))) in
      let rest = weighed-one ks x k (distinct_rest c ks h) in
      let is : component (c ∷ ks) (a ∷ x) k ≡ component ks x k = ap (λ b. if b then a else component ks x k) (ne_eqb c k o) in
      omega (arith, ap (λ m. m * a) first, rest, is)
]

-- the row of a sum is zero exactly where the components of both arguments make that of the sum
pub zero_row : (ks x : List ℕ) → AllPairs ◌≢◌ ks → (a b c : ℕ) →
    IsZeroAt x (map (λ k. pos (one_if (nat_eq a k) + one_if (nat_eq b k)) -ℤ pos (one_if (nat_eq c k))) ks) ↔ (component ks x a + component ks x b ≡ component ks x c)
zero_row ks x h a b c =
    let whole = row_balance (λ k. one_if (nat_eq a k) + one_if (nat_eq b k)) (λ k. one_if (nat_eq c k)) ks x in
    let both = weighed-add (λ k. one_if (nat_eq a k)) (λ k. one_if (nat_eq b k)) ks x in
    let p = weighed-one ks x a h in
    let q = weighed-one ks x b h in
    let r = weighed-one ks x c h in
    (λ e. omega (arith, whole, both, p, q, r, e), λ e. omega (arith, whole, both, p, q, r, e))

-- a row of nothing is zero
pub nothing_row : (ks x : List ℕ) → IsZeroAt x (map (λ k. pos 0) ks)
nothing_row [] x = refl
nothing_row (k ∷ ks) [] = refl
nothing_row (k ∷ ks) (a ∷ x) = let rest = nothing_row ks x in omega (arith, rest)

-- the component in a listed column, of the values of a function
pub component-map : (g : ℕ → ℕ) (ks : List ℕ) (k : ℕ) → Contains ks k → component ks (map g ks) k ≡ g k
component-map g [] k h = absurd (contains_none k h)
component-map g (c ∷ ks) k h = elim (cases_eq c k) [
  | inl e ↦ ap (λ b. if b then g c else component ks (map g ks) k) (eq-eqb c k e) ∙ ap g e
  | inr o ↦
      ap (λ b. if b then g c else component ks (map g ks) k) (ne_eqb c k o)
      ∙ (elim (contains_cases c ks k h) [ inl e ↦ absurd (o e) | inr r ↦ component-map g ks k r ])
]

-- the component in a column of a list without repetition
pub component_at : (columns v : List ℕ) → AllPairs ◌≢◌ columns → (j : ℕ) → j < length columns → component columns v (get_or columns j 0) ≡ get_or v j 0
component_at [] v h j l = absurd (omega (arith, l))
component_at (c ∷ columns) [] h j l = refl
component_at (c ∷ columns) (n ∷ v) h zero l = ap (λ b. if b then n else component columns v c) (eq-eqb c c refl)
component_at (c ∷ columns) (n ∷ v) h (suc j) l =
    let k = get_or columns j 0 in
    let within : j < length columns = omega (arith, l) in
    ap (λ b. if b then n else component columns v k) (ne_eqb c k (AllPairs-first ◌≢◌ c columns k h (Contains-get_or columns j 0 within)))
    ∙ component_at columns v (AllPairs-tail ◌≢◌ c columns h) j within
