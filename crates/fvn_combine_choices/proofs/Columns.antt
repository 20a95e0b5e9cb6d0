-- Components of solutions by classes, and the solutions that are taken.
use Rattle.std.proofs.Common.{◌≡◌, ◌≢◌, ℕ, ◌+◌, ◌/◌, ◌%◌, ◌==◌, ◌<◌, ◌≤◌, Bool, true, false, List, [], ◌∷◌, length, map, get_or, sum_by, count_by, filter, refl, sym, ap, ◌∙◌, subst, inl, inr, arith, AllPairs, Contains}
use Rattle.std.specs.Prelude.{if◌then◌else◌, cond}
use Rattle.std.proofs.lemmas.Bool.{cases_eq, ne_eqb}
use Rattle.std.proofs.lemmas.List.{get_or_default}
use Rattle.std.proofs.lemmas.List.Sums.{sum_by-cons, length-filter}
use Rattle.fvn_base.proofs.Membership.{contains_here, contains_later, contains_cases, contains_none, contains_filter, filter_contains}
use Rattle.fvn_base.proofs.Pigeonhole.{AllPairs-tail, AllPairs-first, AllPairs-cons}
use Rattle.fvn_acunify.specs.ValidChoice.{chosen, column_sum}
use Rattle.fvn_flat.specs.SolvedLists.{component}
pub use Rattle.fvn_combine_systems.proofs.Weighing.{component_at}

-- a class with a component other than 0 has a column
pub column_listed : (columns v : List ℕ) (k : ℕ) → 0 < component columns v k → Contains columns k
column_listed [] v k p = absurd (omega (arith, p))
column_listed (c ∷ columns) [] k p = absurd (omega (arith, p))
column_listed (c ∷ columns) (n ∷ v) k p = elim (cases_eq c k) [
  | inl e ↦ (0, omega arith, e)
  | inr o ↦
      let z = ap (λ b. if b then n else component columns v k) (ne_eqb c k o) in
      contains_later c columns k (column_listed columns v k (omega (arith, z, p)))
]

-- the place of a class among the columns
pub column_is : (columns : List ℕ) (k : ℕ) (c : Contains columns k) → get_or columns c.0 0 ≡ k
column_is columns k (j, l, e) = get_or_default columns j 0 k l ∙ e

pub sum_by_same : {X : Type 0} (f g : X → ℕ) → ((x : X) → f x ≡ g x) → (xs : List X) → sum_by f xs ≡ sum_by g xs
sum_by_same f g h [] = refl
sum_by_same f g h (x ∷ xs) = let a = sum_by-cons f x xs in let b = sum_by-cons g x xs in let s = h x in let r = sum_by_same f g h xs in omega (arith, a, b, s, r)

pub sum_by_map : {X Y : Type 0} (f : Y → ℕ) (g : X → Y) (xs : List X) → sum_by f (map g xs) ≡ sum_by (λ x. f (g x)) xs
sum_by_map f g [] = refl
sum_by_map f g (x ∷ xs) = let a = sum_by-cons f (g x) (map g xs) in let b = sum_by-cons (λ x. f (g x)) x xs in let r = sum_by_map f g xs in omega (arith, a, b, r)

-- a sum above zero has an element above zero
pub some_above : {X : Type 0} (f : X → ℕ) (xs : List X) → 0 < sum_by f xs → (x : X) × (Contains xs x × (0 < f x))
some_above f [] p = absurd (omega (arith, p))
some_above f (x ∷ xs) p = elim (cases_eq (f x) 0) [
  | inl z ↦ let a = sum_by-cons f x xs in let r = some_above f xs (omega (arith, a, p, z)) in (r.0, (contains_later x xs r.0 r.1.0, r.1.1))
  | inr n ↦ (x, (contains_here x xs, omega (arith, n)))
]

-- an element is no more than the sum
pub one_of_sum : {X : Type 0} (f : X → ℕ) (xs : List X) (x : X) → Contains xs x → f x ≤ sum_by f xs
one_of_sum f [] x c = absurd (contains_none x c)
one_of_sum f (z ∷ xs) x c =
    let a = sum_by-cons f z xs in
    elim (contains_cases z xs x c) [
      | inl e ↦ let s = ap f e in omega (arith, a, s)
      | inr r ↦ let i = one_of_sum f xs x r in omega (arith, a, i)
    ]

-- two different elements are no more than the sum
pub two_of_sum : {X : Type 0} (f : X → ℕ) (xs : List X) (x z : X) → Contains xs x → Contains xs z → x ≢ z → f x + f z ≤ sum_by f xs
two_of_sum f [] x z c e n = absurd (contains_none x c)
two_of_sum f (w ∷ xs) x z c e n =
    let a = sum_by-cons f w xs in
    elim (contains_cases w xs x c) [
      | inl s ↦ elim (contains_cases w xs z e) [
        | inl q ↦ absurd (n (sym s ∙ q))
        | inr r ↦ let i = one_of_sum f xs z r in let m = ap f s in omega (arith, a, i, m)
      ]
      | inr r ↦ elim (contains_cases w xs z e) [
        | inl q ↦ let i = one_of_sum f xs x r in let m = ap f q in omega (arith, a, i, m)
        | inr t ↦ let i = two_of_sum f xs x z r t n in omega (arith, a, i)
      ]
    ]

-- what is taken is among what is there
pub chosen_listed : (b : ℕ) (basis : List (List ℕ)) (v : List ℕ) → Contains (chosen b basis) v → Contains basis v
chosen_listed b [] v c = c
chosen_listed b (u ∷ basis) v c = go (b % 2 == 1) c (chosen_listed (b / 2) basis v)
  where
    go : (t : Bool) → Contains (if t then u ∷ chosen (b / 2) basis else chosen (b / 2) basis) v → (Contains (chosen (b / 2) basis) v → Contains basis v) → Contains (u ∷ basis) v
    go true c rest = elim (contains_cases u (chosen (b / 2) basis) v c) [
      | inl e ↦ subst (Contains (u ∷ basis)) e (contains_here u basis)
      | inr r ↦ contains_later u basis v (rest r)
    ]
    go false c rest = contains_later u basis v (rest c)

-- and nothing is taken twice
pub chosen_distinct : (b : ℕ) (basis : List (List ℕ)) → AllPairs ◌≢◌ basis → AllPairs ◌≢◌ (chosen b basis)
chosen_distinct b [] h = h
chosen_distinct b (u ∷ basis) h = go (b % 2 == 1) (chosen_distinct (b / 2) basis (AllPairs-tail ◌≢◌ u basis h))
  where
    go : (t : Bool) → AllPairs ◌≢◌ (chosen (b / 2) basis) → AllPairs ◌≢◌ (if t then u ∷ chosen (b / 2) basis else chosen (b / 2) basis)
    go true rest = AllPairs-cons u (chosen (b / 2) basis) rest (λ v c e. AllPairs-first ◌≢◌ u basis v h (chosen_listed (b / 2) basis v c) e)
    go false rest = rest

-- the sum of a column is that of its class
pub column_sum_is : (columns : List ℕ) → AllPairs ◌≢◌ columns → (j : ℕ) → j < length columns → (list : List (List ℕ)) → sum_by (λ v. component columns v (get_or columns j 0)) list ≡ column_sum j list
column_sum_is columns distinct j l list = sum_by_same (λ v. component columns v (get_or columns j 0)) (λ v. get_or v j 0) (λ v. component_at columns v distinct j l) list

-- where elements that pass are one, at most one passes
pub few_pass : (p : ℕ → Bool) (xs : List ℕ) → AllPairs ◌≢◌ xs → ((x z : ℕ) → Contains xs x → Contains xs z → p x ≡ true → p z ≡ true → x ≡ z) → count_by p xs ≤ 1
few_pass p xs distinct one = let n = length-filter p xs in let f = few xs distinct one in omega (arith, n, f)
  where
    none_pass : (x : ℕ) (xs : List ℕ) → ((z : ℕ) → Contains xs z → p z ≡ true → ⊥) → length (filter p xs) ≡ 0
    none_pass x xs n = go (filter p xs) refl
      where
        go : (l : List ℕ) → filter p xs ≡ l → length (filter p xs) ≡ 0
        go [] e = ap length e
        go (z ∷ l) e = let r = filter_contains p xs z (subst (λ m. Contains m z) (sym e) (contains_here z l)) in absurd (n z r.0 r.1)

    few : (xs : List ℕ) → AllPairs ◌≢◌ xs → ((x z : ℕ) → Contains xs x → Contains xs z → p x ≡ true → p z ≡ true → x ≡ z) → length (filter p xs) ≤ 1
    few [] distinct one = omega arith
    few (x ∷ xs) distinct one = go (p x) refl (few xs (AllPairs-tail ◌≢◌ x xs distinct) (λ u v cu cv. one u v (contains_later x xs u cu) (contains_later x xs v cv)))
      where
        go : (b : Bool) → p x ≡ b → length (filter p xs) ≤ 1 → length (cond b (x ∷ filter p xs) (filter p xs)) ≤ 1
        go true e rest =
            let z = none_pass x xs (λ z c q. AllPairs-first ◌≢◌ x xs z distinct c (one x z (contains_here x xs) (contains_later x xs z c) e q)) in
            omega (arith, z)
        go false e rest = rest

-- and the other way round
pub one_passes : (p : ℕ → Bool) (xs : List ℕ) → count_by p xs ≤ 1 → (x z : ℕ) → Contains xs x → Contains xs z → p x ≡ true → p z ≡ true → x ≡ z
one_passes p xs few x z cx cz px pz = at (filter p xs) (let n = length-filter p xs in omega (arith, n, few)) (contains_filter p xs x cx px) (contains_filter p xs z cz pz)
  where
    at : (l : List ℕ) → length l ≤ 1 → Contains l x → Contains l z → x ≡ z
    at [] n a b = absurd (contains_none x a)
    at (w ∷ []) n a b = elim (contains_cases w [] x a) [
      | inl e ↦ elim (contains_cases w [] z b) [
        | inl q ↦ sym e ∙ q
        | inr q ↦ absurd (contains_none z q)
      ]
      | inr q ↦ absurd (contains_none x q)
    ]
    at (w ∷ u ∷ l) n a b = absurd (omega (arith, n))
