-- A fold over a commutative semigroup depends only on how often each element occurs.
use Rattle.std.proofs.Common.{◌≡◌, ℕ, ◌+◌, ◌<◌, Bool, true, false, List, [], ◌∷◌, refl, sym, ap, subst, ◌∙◌, arith}
use Rattle.std.specs.List.{All, AllByRecursion, fold, count_by}
use Rattle.std.specs.Prelude.{cond}
use Rattle.std.proofs.lemmas.List.Sums.{sum_by-cons}
use Rattle.std.proofs.lemmas.List.Elements.{recursion_from_All}

-- an operation on the elements that P holds of
pub record IsCommutativeSemigroup {A : Type 0} (P : A → Type 0) (op : A → A → A) : Type 0 where
  pub closed : (x y : A) → P x → P y → P (op x y)
  pub commutes : (x y : A) → P x → P y → op x y ≡ op y x
  pub associates : (x y z : A) → P x → P y → P z → op (op x y) z ≡ op x (op y z)

-- a test of equality
pub record IsEqualityTest {A : Type 0} (eq : A → A → Bool) : Type 0 where
  pub is : (x y : A) → eq x y ≡ true → x ≡ y
  pub self : (x : A) → eq x x ≡ true

-- each element occurs as often in both
abbrev pub SameCounts : {A : Type 0} → (A → A → Bool) → List A → List A → Type 0
SameCounts {A} eq xs ys = (q : A) → count_by (eq q) xs ≡ count_by (eq q) ys

module _ {A : Type 0} (eq : A → A → Bool) (test : IsEqualityTest eq) where
  -- the list without the first x
  abbrev without : A → List A → List A
  without x [] = []
  without x (y ∷ ys) = cond (eq x y) ys (y ∷ without x ys)

  count-cons : (q x : A) (xs : List A) → count_by (eq q) (x ∷ xs) ≡ cond (eq q x) 1 0 + count_by (eq q) xs
  count-cons q x xs = sum_by-cons (λ y. cond (eq q y) 1 0) x xs

  count_first : (x : A) (xs : List A) → count_by (eq x) (x ∷ xs) ≡ 1 + count_by (eq x) xs
  count_first x xs = count-cons x x xs ∙ ap (λ b. cond b 1 0 + count_by (eq x) xs) (test.self x)

  -- beside what is left without it, each element occurs as often
  count-without : (x : A) (ys : List A) → 0 < count_by (eq x) ys → (q : A) → cond (eq q x) 1 0 + count_by (eq q) (without x ys) ≡ count_by (eq q) ys
  count-without x [] h q = absurd (omega arith)
  count-without x (y ∷ ys) h q = go (eq x y) refl (count-without x ys) where
    go : (b : Bool) → eq x y ≡ b → (0 < count_by (eq x) ys → (q : A) → cond (eq q x) 1 0 + count_by (eq q) (without x ys) ≡ count_by (eq q) ys) → cond (eq q x) 1 0 + count_by (eq q) (cond b ys (y ∷ without x ys)) ≡ count_by (eq q) (y ∷ ys)
    go true e rest = ap (λ z. cond (eq q z) 1 0 + count_by (eq q) ys) (test.is x y e) ∙ sym (count-cons q y ys)
    go false e rest =
        let zero_here : cond {A = ℕ} (eq x y) 1 0 ≡ 0 = ap (λ b. cond {A = ℕ} b 1 0) e in
        let c : count_by (eq x) (y ∷ ys) ≡ cond (eq x y) 1 0 + count_by (eq x) ys = count-cons x y ys in
        let more : 0 < count_by (eq x) ys = omega arith in
        let r : cond (eq q x) 1 0 + count_by (eq q) (without x ys) ≡ count_by (eq q) ys = rest more q in
        let a : count_by (eq q) (y ∷ without x ys) ≡ cond (eq q y) 1 0 + count_by (eq q) (without x ys) = count-cons q y (without x ys) in
        let b : count_by (eq q) (y ∷ ys) ≡ cond (eq q y) 1 0 + count_by (eq q) ys = count-cons q y ys in
        omega arith

  no_counts : (ys : List A) → SameCounts eq [] ys → ys ≡ []
  no_counts [] same = refl
  no_counts (y ∷ ys) same = absurd (let a = same y in let b = count_first y ys in omega arith)

  -- what is left of two lists without an element of both
  left_over : (x : A) (xs ys : List A) → SameCounts eq (x ∷ xs) ys → (0 < count_by (eq x) ys) × SameCounts eq xs (without x ys)
  left_over x xs ys same =
      let occurs : 0 < count_by (eq x) ys = let a = same x in let b = count_first x xs in omega arith in
      (occurs, λ q. let a = same q in let b = count-cons q x xs in let c = count-without x ys occurs q in omega arith)

  module _ (P : A → Type 0) (op : A → A → A) (law : IsCommutativeSemigroup P op) where
    each-without : (x : A) (ys : List A) → AllByRecursion P ys → AllByRecursion P (without x ys)
    each-without x [] h = tt
    each-without x (y ∷ ys) h = go (eq x y) (each-without x ys h.1) where
      go : (b : Bool) → AllByRecursion P (without x ys) → AllByRecursion P (cond b ys (y ∷ without x ys))
      go true r = h.1
      go false r = (h.0, r)

    -- an element of the list may come first
    fold-first : (a x : A) (ys : List A) → P a → P x → AllByRecursion P ys → 0 < count_by (eq x) ys → fold op a ys ≡ fold op (op a x) (without x ys)
    fold-first a x [] pa px each h = absurd (omega arith)
    fold-first a x (y ∷ ys) pa px each h = go (eq x y) refl (fold-first (op a y) x ys (law.closed a y pa each.0) px each.1) where
      go : (b : Bool) → eq x y ≡ b → (0 < count_by (eq x) ys → fold op (op a y) ys ≡ fold op (op (op a y) x) (without x ys)) → fold op (op a y) ys ≡ fold op (op a x) (cond b ys (y ∷ without x ys))
      go true e rest = ap (λ z. fold op (op a z) ys) (sym (test.is x y e))
      go false e rest =
          let zero_here : cond {A = ℕ} (eq x y) 1 0 ≡ 0 = ap (λ b. cond {A = ℕ} b 1 0) e in
          let c : count_by (eq x) (y ∷ ys) ≡ cond (eq x y) 1 0 + count_by (eq x) ys = count-cons x y ys in
          let more : 0 < count_by (eq x) ys = omega arith in
          let swap : op (op a y) x ≡ op (op a x) y = law.associates a y x pa each.0 px ∙ ap (op a) (law.commutes y x each.0 px) ∙ sym (law.associates a x y pa px each.0) in
          rest more ∙ ap (λ z. fold op z (without x ys)) swap

    -- from one start, lists in which each element occurs as often have one fold
    fold-same : (a : A) (xs ys : List A) → P a → AllByRecursion P xs → AllByRecursion P ys → SameCounts eq xs ys → fold op a xs ≡ fold op a ys
    fold-same a [] ys pa hx hy same = ap (fold op a) (sym (no_counts ys same))
    fold-same a (x ∷ xs) ys pa hx hy same =
        let left = left_over x xs ys same in
        fold-same (op a x) xs (without x ys) (law.closed a x pa hx.0) hx.1 (each-without x ys hy) left.1 ∙ sym (fold-first a x ys pa hx.0 hy left.0)

    -- lists in which each element occurs as often have one fold
    pub fold_same_counts : (x : A) (xs : List A) (y : A) (ys : List A) → All P (x ∷ xs) → All P (y ∷ ys) → SameCounts eq (x ∷ xs) (y ∷ ys) → fold op x xs ≡ fold op y ys
    fold_same_counts x xs y ys hx hy same = go (eq x y) refl where
      each_x : AllByRecursion P (x ∷ xs)
      each_x = recursion_from_All P (x ∷ xs) hx

      each_y : AllByRecursion P (y ∷ ys)
      each_y = recursion_from_All P (y ∷ ys) hy

      go : (b : Bool) → eq x y ≡ b → fold op x xs ≡ fold op y ys
      go true e =
          let s : x ≡ y = test.is x y e in
          fold-same x xs ys each_x.0 each_x.1 each_y.1 (λ q. let a = same q in let b = count-cons q x xs in let c = count-cons q y ys in let f : cond {A = ℕ} (eq q x) 1 0 ≡ cond {A = ℕ} (eq q y) 1 0 = ap (λ z. cond {A = ℕ} (eq q z) 1 0) s in omega arith) ∙ ap (λ z. fold op z ys) s
      go false e =
          let left = left_over x xs (y ∷ ys) same in
          let zero_here : cond {A = ℕ} (eq x y) 1 0 ≡ 0 = ap (λ b. cond {A = ℕ} b 1 0) e in
          let c : count_by (eq x) (y ∷ ys) ≡ cond (eq x y) 1 0 + count_by (eq x) ys = count-cons x y ys in
          let occurs : 0 < count_by (eq x) ys = let o = left.0 in omega arith in
          let rest : SameCounts eq xs (y ∷ without x ys) = subst (λ b. SameCounts eq xs (cond b ys (y ∷ without x ys))) e left.1 in
          let beside : AllByRecursion P (y ∷ without x ys) = (each_y.0, each-without x ys each_y.1) in
          fold-same x xs (y ∷ without x ys) each_x.0 each_x.1 beside rest
          ∙ ap (λ z. fold op z (without x ys)) (law.commutes x y each_x.0 each_y.0)
          ∙ sym (fold-first y x ys each_y.0 each_x.0 each_y.1 occurs)
