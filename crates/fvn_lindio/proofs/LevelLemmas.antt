-- How a level grows, and that what is covered stays so.
use Rattle.std.proofs.Common.{◌≡◌, ◌≢◌, ℕ, ◌+◌, ◌<◌, ◌⊎◌, pos, ◌+ℤ◌, List, [], ◌∷◌, ◌++◌, length, get_or, take, ◌≤◌, refl, sym, ap, ◌∙◌, subst, inl, inr, arith}
use Rattle.std.specs.List.{All, AllPairs, Contains}
use Rattle.std.proofs.lemmas.List.Quantifiers.{all_pairs_push}
use Rattle.std.proofs.lemmas.List.{take_more, take_all}
use Rattle.std.proofs.lemmas.List.Elements.{Contains-push, Contains-get_or, Contains-append_left, Contains-push_cases}
use Rattle.fvn_lindio.specs.Vectors.{add}
use Rattle.fvn_lindio.specs.inner.Search.{IsOpposite}
use Rattle.fvn_lindio.specs.inner.Levels.{CanAdd, IsOnce, IsCovered, Grows, GrowsAnew, IsThis, IsAt, IsStepBy, IsStep, IsStepFrom, CoversSteps, CoversStepsFrom}
use Rattle.fvn_lindio.specs.declared.level.Point.{Point}
use Rattle.fvn_lindio.specs.declared.level.Level.{Level}
use Rattle.fvn_lindio.proofs.VectorLemmas.{below_refl}

module _ {X : Type 0} where
  -- membership in a list that is another with one element more
  pub pushed_old : (xs ys : List X) (q p : X) → ys ≡ xs ++ (q ∷ []) → Contains xs p → Contains ys p
  pushed_old xs ys q p e h = subst (λ z. Contains z p) (sym e) (Contains-append_left xs (q ∷ []) p h)

  pub pushed_new : (xs ys : List X) (q : X) → ys ≡ xs ++ (q ∷ []) → Contains ys q
  pushed_new xs ys q e = subst (λ z. Contains z q) (sym e) (Contains-push xs q)

  pub pushed_cases : (xs ys : List X) (q p : X) → ys ≡ xs ++ (q ∷ []) → Contains ys p → Contains xs p ⊎ (q ≡ p)
  pushed_cases xs ys q p e h = Contains-push_cases xs q p (subst (λ z. Contains z p) e h)

pub Grows-found : (old new : Level) (q : Point) → new.found.items ≡ old.found.items ++ (q ∷ []) → new.ahead.items ≡ old.ahead.items → q.value ≡ pos 0 → Grows (IsThis q) old new
Grows-found old new q e f z =
    record {
      found_stays = λ p h. pushed_old old.found.items new.found.items q p e h;
      ahead_stays = λ p h. subst (λ ps. Contains ps p) (sym f) h;
      found_is = λ p h. kept p (pushed_cases old.found.items new.found.items q p e h);
      ahead_is = λ p h. inl (subst (λ ps. Contains ps p) f h);
    }
  where
    kept : (p : Point) → Contains old.found.items p ⊎ (q ≡ p) → Contains old.found.items p ⊎ IsThis q p × (p.value ≡ pos 0)
    kept p (inl h) = inl h
    kept p (inr g) = inr ((ap (λ r. r.parts.items) (sym g), ap (λ r. r.value) (sym g)), ap (λ r. r.value) (sym g) ∙ z)

pub Grows-ahead : (old new : Level) (q : Point) → new.ahead.items ≡ old.ahead.items ++ (q ∷ []) → new.found.items ≡ old.found.items → q.value ≢ pos 0 → Grows (IsThis q) old new
Grows-ahead old new q e f z =
    record {
      found_stays = λ p h. subst (λ ps. Contains ps p) (sym f) h;
      ahead_stays = λ p h. pushed_old old.ahead.items new.ahead.items q p e h;
      found_is = λ p h. inl (subst (λ ps. Contains ps p) f h);
      ahead_is = λ p h. kept p (pushed_cases old.ahead.items new.ahead.items q p e h);
    }
  where
    kept : (p : Point) → Contains old.ahead.items p ⊎ (q ≡ p) → Contains old.ahead.items p ⊎ IsThis q p × (p.value ≢ pos 0)
    kept p (inl h) = inl h
    kept p (inr g) = inr ((ap (λ r. r.parts.items) (sym g), ap (λ r. r.value) (sym g)), λ y. z (ap (λ r. r.value) g ∙ y))

pub covered_found : (level : Level) (xs : List Point) (q : Point) → level.found.items ≡ xs ++ (q ∷ []) → IsCovered level q.parts.items
covered_found level xs q e = inl (q, pushed_new xs level.found.items q e, below_refl q.parts.items)

pub covered_ahead : (level : Level) (xs : List Point) (q : Point) → level.ahead.items ≡ xs ++ (q ∷ []) → IsCovered level q.parts.items
covered_ahead level xs q e = inr (q, pushed_new xs level.ahead.items q e, refl)

pub covered_stays : (P : Point → Type 0) (old new : Level) (v : List ℕ) → Grows P old new → IsCovered old v → IsCovered new v
covered_stays P old new v g (inl h) = inl (h.0, g.found_stays h.0 h.1, h.2)
covered_stays P old new v g (inr h) = inr (h.0, g.ahead_stays h.0 h.1, h.2)

pub Grows-trans : (P Q : Point → Type 0) (a b c : Level) → ((p : Point) → Q p → P p) → Grows P a b → Grows Q b c → Grows P a c
Grows-trans P Q a b c weaker g h =
    record {
      found_stays = λ p k. h.found_stays p (g.found_stays p k);
      ahead_stays = λ p k. h.ahead_stays p (g.ahead_stays p k);
      found_is = λ p k. from_found p (h.found_is p k);
      ahead_is = λ p k. from_ahead p (h.ahead_is p k);
    }
  where
    from_found : (p : Point) → Contains b.found.items p ⊎ Q p × (p.value ≡ pos 0) → Contains a.found.items p ⊎ P p × (p.value ≡ pos 0)
    from_found p (inl k) = g.found_is p k
    from_found p (inr k) = inr (weaker p k.0, k.1)

    from_ahead : (p : Point) → Contains b.ahead.items p ⊎ Q p × (p.value ≢ pos 0) → Contains a.ahead.items p ⊎ P p × (p.value ≢ pos 0)
    from_ahead p (inl k) = g.ahead_is p k
    from_ahead p (inr k) = inr (weaker p k.0, k.1)

pub Grows-refl : (P : Point → Type 0) (a : Level) → Grows P a a
Grows-refl P a =
    record {
      found_stays = λ p k. k;
      ahead_stays = λ p k. k;
      found_is = λ p k. inl k;
      ahead_is = λ p k. inl k;
    }

pub covered_at : (level : Level) (xs : List Point) (v w : List ℕ) → xs ≡ level.ahead.items → v ≡ w → ((p : Point) × Contains xs p × (p.parts.items ≡ v)) → IsCovered level w
covered_at level xs v w e f h = inr (h.0, subst (λ ps. Contains ps h.0) e h.1, h.2 ∙ f)

module _ {X : Type 0} (Q : X → Type 0) where
  -- what holds of each so far and of this one
  pub each_more : (xs : List X) (i : ℕ) (x : X) → i < length xs → x ≡ get_or xs i x → Q x → ((y : X) → Contains (take i xs) y → Q y) → (y : X) → Contains (take (i + 1) xs) y → Q y
  each_more xs i x l e here before y h = split (pushed_cases (take i xs) (take (i + 1) xs) x y (take_more xs i x l ∙ ap (λ z. take i xs ++ (z ∷ [])) (sym e)) h)
    where
      split : Contains (take i xs) y ⊎ (x ≡ y) → Q y
      split (inl k) = before y k
      split (inr g) = subst Q g here

  pub each_all : (xs : List X) (i : ℕ) → length xs ≤ i → ((y : X) → Contains (take i xs) y → Q y) → (y : X) → Contains xs y → Q y
  each_all xs i l each y h = each y (subst (λ z. Contains z y) (sym (take_all i xs l)) h)

-- this iteration's element is one of the list
pub this_one : {X : Type 0} (xs : List X) (i : ℕ) (x : X) → i < length xs → x ≡ get_or xs i x → Contains xs x
this_one xs i x l e = (i, l, sym e)

pub Grows-weaker : (P Q : Point → Type 0) (a b : Level) → ((p : Point) → Q p → P p) → Grows Q a b → Grows P a b
Grows-weaker P Q a b weaker g = Grows-trans P Q a a b weaker (Grows-refl P a) g

-- the sum of two vectors, let in
pub Grows-step_by : (x g q : Point) (a b : Level) → IsOpposite x.value g.value → q.parts.items ≡ add x.parts.items g.parts.items → q.value ≡ x.value +ℤ g.value → Grows (IsThis q) a b → Grows (IsStepBy x g) a b
Grows-step_by x g q a b o e f h = Grows-weaker (IsStepBy x g) (IsThis q) a b (λ p t. (o, t.0 ∙ e, t.1 ∙ f)) h

-- one generator more from x
pub step_from_more : (gs : List Point) (x g : Point) (i : ℕ) (a b c : Level) → i < length gs → g ≡ get_or gs i g → Grows (IsStep gs x) a b × CoversSteps (take i gs) x b → Grows (IsStepBy x g) b c → (IsOpposite x.value g.value → IsCovered c (add x.parts.items g.parts.items)) → Grows (IsStep gs x) a c × CoversSteps (take (i + 1) gs) x c
step_from_more gs x g i a b c l e h k here = (
  Grows-trans (IsStep gs x) (IsStepBy x g) a b c (λ p s. (g, this_one gs i g l e, s)) h.0 k,
  each_more (λ g. IsOpposite x.value g.value → IsCovered c (add x.parts.items g.parts.items)) gs i g l e here (λ y m o. covered_stays (IsStepBy x g) b c (add x.parts.items y.parts.items) k (h.1 y m o)),
)

-- one vector more from which to step
pub step_more : (gs xs : List Point) (x : Point) (i : ℕ) (a b c : Level) → i < length xs → x ≡ get_or xs i x → Grows (IsStepFrom gs xs) a b × CoversStepsFrom gs (take i xs) b → Grows (IsStep gs x) b c → CoversSteps gs x c → Grows (IsStepFrom gs xs) a c × CoversStepsFrom gs (take (i + 1) xs) c
step_more gs xs x i a b c l e h k here = (
  Grows-trans (IsStepFrom gs xs) (IsStep gs x) a b c (λ p s. (x, this_one xs i x l e, s)) h.0 k,
  each_more (λ x. CoversSteps gs x c) xs i x l e here (λ y m g n o. covered_stays (IsStep gs x) b c (add y.parts.items g.parts.items) k (h.1 y m g n o)),
)

-- one generator more at the first level
pub first_more : (gs : List Point) (g q : Point) (i : ℕ) (a b c : Level) → i < length gs → g ≡ get_or gs i g → q.parts.items ≡ g.parts.items → q.value ≡ g.value → Grows (IsAt gs) a b × ((y : Point) → Contains (take i gs) y → IsCovered b y.parts.items) → Grows (IsThis q) b c → IsCovered c q.parts.items → Grows (IsAt gs) a c × ((y : Point) → Contains (take (i + 1) gs) y → IsCovered c y.parts.items)
first_more gs g q i a b c l e p v h k here = (
  Grows-trans (IsAt gs) (IsThis q) a b c (λ r s. (g, this_one gs i g l e, (s.0 ∙ p, s.1 ∙ v))) h.0 k,
  each_more (λ y. IsCovered c y.parts.items) gs i g l e (subst (IsCovered c) p here) (λ y m. covered_stays (IsThis q) b c y.parts.items k (h.1 y m)),
)

-- nothing stands in an empty list
pub in_none : {X : Type 0} (xs : List X) (x : X) → xs ≡ [] → Contains xs x → ⊥
in_none xs x e h = let l : length xs ≡ 0 = ap length e in omega (arith, h.1)

-- where one of two is impossible, the other holds
pub the_other : {A B : Type 0} → (A → ⊥) → A ⊎ B → B
the_other never (inl a) = absurd (never a)
the_other never (inr b) = b

-- what stands in a level that grew from nothing
pub grown_found : (P : Point → Type 0) (a b : Level) → a.found.items ≡ [] → Grows P a b → (p : Point) → Contains b.found.items p → P p × (p.value ≡ pos 0)
grown_found P a b e g p h = the_other (in_none a.found.items p e) (g.found_is p h)

pub grown_ahead : (P : Point → Type 0) (a b : Level) → a.ahead.items ≡ [] → Grows P a b → (p : Point) → Contains b.ahead.items p → P p × (p.value ≢ pos 0)
grown_ahead P a b e g p h = the_other (in_none a.ahead.items p e) (g.ahead_is p h)

-- a level that grew from the found ones alone
pub anew : (P : Point → Type 0) (old a b : Level) → a.found.items ≡ old.found.items → a.ahead.items ≡ [] → Grows P a b → GrowsAnew P old b
anew P old a b e f g =
    record {
      found_stays = λ p h. g.found_stays p (subst (λ ps. Contains ps p) (sym e) h);
      found_is = λ p h. go p (g.found_is p h);
      ahead_is = grown_ahead P a b f g;
    }
  where
    go : (p : Point) → Contains a.found.items p ⊎ P p × (p.value ≡ pos 0) → Contains old.found.items p ⊎ P p × (p.value ≡ pos 0)
    go p (inl k) = inl (subst (λ ps. Contains ps p) e k)
    go p (inr k) = inr k

pub can_add_read : (gs xs ys : List Point) (i : ℕ) (x : Point) → ys ≡ xs → i < length ys → x ≡ get_or ys i x → All (λ x. All (CanAdd x) gs) xs → All (CanAdd x) gs
can_add_read gs xs ys i x e l r h = subst (λ z. All (CanAdd z) gs) (sym r) (subst (λ zs. All (λ x. All (CanAdd x) gs) zs) (sym e) h i x l)

-- a vector that is not ahead yet stands there once
pub once_push : (old new : Level) (q : Point) → new.ahead.items ≡ old.ahead.items ++ (q ∷ []) → ((p : Point) → Contains old.ahead.items p → p.parts.items ≡ q.parts.items → ⊥) → IsOnce old → IsOnce new
once_push old new q e fresh once =
    let R : Point → Point → Type 0 = λ p r. p.parts.items ≢ r.parts.items in
    subst (AllPairs R) (sym e) (all_pairs_push R old.ahead.items q once (λ k d l f. fresh (get_or old.ahead.items k d) (Contains-get_or old.ahead.items k d l) f))

pub once_none : (level : Level) → level.ahead.items ≡ [] → IsOnce level
once_none level e = subst (AllPairs (λ p r. p.parts.items ≢ r.parts.items)) (sym e) (λ i j d l m. absurd (omega (arith, m)))
