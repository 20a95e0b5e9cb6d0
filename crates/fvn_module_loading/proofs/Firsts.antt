-- The first member of a list that is not good is determined.
use Rattle.std.proofs.Common.{◌≡◌, List, [], ◌∷◌, ◌++◌, refl, sym, ap, subst, ◌∙◌}
use Rattle.std.specs.List.{Contains}
use Rattle.fvn_base.proofs.Membership.{contains_here, contains_later}

module _ {A : Type 0} (Good : A → Type 0) where
  -- each member is good
  abbrev pub AreGood : List A → Type 0
  AreGood xs = (x : A) → Contains xs x → Good x

  contained : (a b : List A) (x : A) → Contains (a ++ (x ∷ b)) x
  contained [] b x = contains_here x b
  contained (z ∷ a) b x = contains_later z (a ++ (x ∷ b)) x (contained a b x)

  -- with a member that is not good, not each is
  pub not_good : (xs a b : List A) (x : A) → xs ≡ a ++ (x ∷ b) → (Good x → ⊥) → AreGood xs → ⊥
  not_good xs a b x split bad all = bad (all x (subst (λ ys. Contains ys x) (sym split) (contained a b x)))

  rest_good : (z : A) (a : List A) → AreGood (z ∷ a) → AreGood a
  rest_good z a all = λ x i. all x (contains_later z a x i)

  -- two members that are not good, each behind good ones alone, are one
  pub one_first : (a b c d : List A) (x y : A) → a ++ (x ∷ b) ≡ c ++ (y ∷ d) → AreGood a → AreGood c → (Good x → ⊥) → (Good y → ⊥) → (a ≡ c) × (x ≡ y)
  one_first [] b [] d x y e h g p q = (refl, (let f : x ∷ b ≡ y ∷ d = e in cc))
  one_first [] b (z ∷ c) d x y e h g p q =
      let f : x ∷ b ≡ z ∷ (c ++ (y ∷ d)) = e in
      let is : z ≡ x = cc in
      absurd (p (subst Good is (g z (contains_here z c))))
  one_first (z ∷ a) b [] d x y e h g p q =
      let f : z ∷ (a ++ (x ∷ b)) ≡ y ∷ d = e in
      let is : z ≡ y = cc in
      absurd (q (subst Good is (h z (contains_here z a))))
  one_first (z ∷ a) b (w ∷ c) d x y e h g p q =
      let f : z ∷ (a ++ (x ∷ b)) ≡ w ∷ (c ++ (y ∷ d)) = e in
      let is : z ≡ w = cc in
      let more : a ++ (x ∷ b) ≡ c ++ (y ∷ d) = cc in
      let r = one_first a b c d x y more (rest_good z a h) (rest_good w c g) p q in
      (ap (λ v. v ∷ a) is ∙ ap (λ vs. w ∷ vs) r.0, r.1)
