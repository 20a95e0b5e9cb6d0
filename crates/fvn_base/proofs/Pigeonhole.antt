-- A list without repetition is no longer than a list that has all its elements.
use Rattle.std.proofs.Common.{◌≡◌, ◌≢◌, ℕ, zero, suc, ◌+◌, ◌<◌, ◌≤◌, ◌⊎◌, inl, inr, List, [], ◌∷◌, length, get_or, refl, sym, ap, ◌∙◌, subst, arith}
use Rattle.std.specs.List.{AllPairs, Contains}
use Rattle.std.proofs.lemmas.List.{get_or_default}
use Rattle.std.proofs.lemmas.List.Elements.{Contains-get_or}
use Rattle.std.proofs.lemmas.Bool.{cases_lt}
use Rattle.fvn_base.proofs.Membership.{contains_here, contains_later, contains_cases, contains_none}

module _ {X : Type 0} where
  -- the list without the element of this place
  abbrev pub without : ℕ → List X → List X
  without k [] = []
  without zero (x ∷ xs) = xs
  without (suc k) (x ∷ xs) = x ∷ without k xs

  pub length-without : (k : ℕ) (xs : List X) → k < length xs → length (without k xs) + 1 ≡ length xs
  length-without k [] h = absurd (omega arith)
  length-without zero (x ∷ xs) h = omega arith
  length-without (suc k) (x ∷ xs) h =
      let l : k < length xs = omega arith in
      omega (arith, length-without k xs l)

  -- an element that stands elsewhere stays
  pub contains_without : (xs : List X) (k : ℕ) (y : X) → Contains xs y → (get_or xs k y ≡ y → ⊥) → Contains (without k xs) y
  contains_without [] k y h n = h
  contains_without (x ∷ xs) zero y (zero, l, e) n = absurd (n e)
  contains_without (x ∷ xs) zero y (suc j, l, e) n = (j, omega (arith, l), e)
  contains_without (x ∷ xs) (suc k) y (zero, l, e) n = (zero, omega arith, e)
  contains_without (x ∷ xs) (suc k) y (suc j, l, e) n =
      let r = contains_without xs k y (j, omega (arith, l), e) n in
      (suc r.0, omega (arith, r.1), r.2)

  pub AllPairs-tail : (R : X → X → Type 0) (x : X) (xs : List X) → AllPairs R (x ∷ xs) → AllPairs R xs
  AllPairs-tail R x xs h i j d l m = h (suc i) (suc j) d (omega (arith, l)) (omega (arith, m))

  pub AllPairs-first : (R : X → X → Type 0) (x : X) (xs : List X) (y : X) → AllPairs R (x ∷ xs) → Contains xs y → R x y
  AllPairs-first R x xs y h m = subst (R x) m.2 (h 0 (suc m.0) y (omega arith) (omega (arith, m.1)))

  pub length-le_within : (xs ys : List X) → AllPairs ◌≢◌ xs → ((x : X) → Contains xs x → Contains ys x) → length xs ≤ length ys
  length-le_within [] ys h m = omega arith
  length-le_within (x ∷ xs) ys h m =
      let at = m x (contains_here x xs) in
      let at_x : get_or ys at.0 x ≡ x = at.2 in
      let rest = length-le_within xs (without at.0 ys) (AllPairs-tail ◌≢◌ x xs h) (λ y k. contains_without ys at.0 y (m y (contains_later x xs y k)) (λ e. AllPairs-first ◌≢◌ x xs y h k (sym at_x ∙ (get_or_default ys at.0 x y at.1 ∙ e)))) in
      omega (arith, rest, length-without at.0 ys at.1)

  pub AllPairs-cons : (x : X) (xs : List X) → AllPairs ◌≢◌ xs → ((y : X) → Contains xs y → x ≡ y → ⊥) → AllPairs ◌≢◌ (x ∷ xs)
  AllPairs-cons x xs h n i zero d l m = absurd (omega (arith, l))
  AllPairs-cons x xs h n zero (suc j) d l m =
      let b : j < length xs = omega (arith, m) in
      λ e. n (get_or xs j d) (Contains-get_or xs j d b) e
  AllPairs-cons x xs h n (suc i) (suc j) d l m = h i j d (omega (arith, l)) (omega (arith, m))

  pub contains_each : (P : X → Type 0) (x : X) (xs : List X) → P x → ((y : X) → Contains xs y → P y) → (y : X) → Contains (x ∷ xs) y → P y
  contains_each P x xs p h y (zero, l, e) = subst P e p
  contains_each P x xs p h y (suc j, l, e) = h y (j, omega (arith, l), e)

-- the numbers below n
abbrev upto : ℕ → List ℕ
upto zero = []
upto (suc n) = n ∷ upto n

length-upto : (n : ℕ) → length (upto n) ≡ n
length-upto zero = refl
length-upto (suc n) = ap suc (length-upto n)

contains_upto : (n k : ℕ) → k < n → Contains (upto n) k
contains_upto zero k h = absurd (omega arith)
contains_upto (suc n) k h = split (cases_lt k n) (contains_upto n k)
  where
    split : (k < n) ⊎ (n ≤ k) → (k < n → Contains (upto n) k) → Contains (upto (suc n)) k
    split (inl l) lower = contains_later n (upto n) k (lower l)
    split (inr l) lower =
        let e : n ≡ k = omega arith in
        (0, omega arith, e)

-- numbers below n, none of them twice, are at most n
pub length-le_below : (xs : List ℕ) (n : ℕ) → AllPairs ◌≢◌ xs → ((x : ℕ) → Contains xs x → x < n) → length xs ≤ n
length-le_below xs n h b = omega (arith, length-le_within xs (upto n) h (λ x m. contains_upto n x (b x m)), length-upto n)

-- Where each element has a number below n, and no two of them share one, there are at most n elements.
module _ {X : Type 0} (Has : X → ℕ → Type 0) (n : ℕ) where
  abbrev HasOne : X → Type 0
  HasOne x = (k : ℕ) × ((k < n) × Has x k)

  abbrev numbers : (xs : List X) → ((x : X) → Contains xs x → HasOne x) → List ℕ
  numbers [] h = []
  numbers (x ∷ xs) h = (h x (contains_here x xs)).0 ∷ numbers xs (λ y m. h y (contains_later x xs y m))

  numbered : (xs : List X) (h : (x : X) → Contains xs x → HasOne x) (k : ℕ) → Contains (numbers xs h) k → (x : X) × (Contains xs x × ((k < n) × Has x k))
  numbered [] h k m = absurd (contains_none k m)
  numbered (x ∷ xs) h k m =
      elim (contains_cases (h x (contains_here x xs)).0 (numbers xs (λ y i. h y (contains_later x xs y i))) k m) [
        | inl e ↦ (x, (contains_here x xs, subst (λ j. (j < n) × Has x j) e (h x (contains_here x xs)).1))
        | inr i ↦ let r = numbered xs (λ y l. h y (contains_later x xs y l)) k i in (r.0, (contains_later x xs r.0 r.1.0, r.1.1))
      ]

  distinct : (xs : List X) (h : (x : X) → Contains xs x → HasOne x) → AllPairs (λ x y. (k : ℕ) → Has x k → Has y k → ⊥) xs → AllPairs ◌≢◌ (numbers xs h)
  distinct [] h apart = λ i j d l m. absurd (omega (arith, m))
  distinct (x ∷ xs) h apart =
      let rest : (y : X) → Contains xs y → HasOne y = λ y m. h y (contains_later x xs y m) in
      let Apart : X → X → Type 0 = λ y z. (k : ℕ) → Has y k → Has z k → ⊥ in
      let own = h x (contains_here x xs) in
      AllPairs-cons own.0 (numbers xs rest) (distinct xs rest (AllPairs-tail Apart x xs apart))
      (λ k m e. let r = numbered xs rest k m in AllPairs-first Apart x xs r.0 apart r.1.0 k (subst (Has x) e own.1.1) r.1.1.1)

  length-numbers : (xs : List X) (h : (x : X) → Contains xs x → HasOne x) → length (numbers xs h) ≡ length xs
  length-numbers [] h = refl
  length-numbers (x ∷ xs) h = ap suc (length-numbers xs (λ y m. h y (contains_later x xs y m)))

  pub length-le_numbered : (xs : List X) → ((x : X) → Contains xs x → HasOne x) → AllPairs (λ x y. (k : ℕ) → Has x k → Has y k → ⊥) xs → length xs ≤ n
  length-le_numbered xs h apart =
      let few = length-le_below (numbers xs h) n (distinct xs h apart) (λ k m. (numbered xs h k m).1.1.0) in
      omega (arith, few, length-numbers xs h)
