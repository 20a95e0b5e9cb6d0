-- Texts that rise at a byte, and lists of texts that do.
use Rattle.std.proofs.Common.{◌≡◌, ◌⊎◌, inl, inr, ℕ, ◌+◌, ◌<◌, ◌≤◌, Bool, true, false, List, [], ◌∷◌, ◌++◌, length, refl, sym, ap, ◌∙◌, subst, arith}
use Rattle.std.specs.Prelude.{if◌then◌else◌, codes}
use Rattle.std.specs.List.{AllByRecursion}
use Rattle.fvn_base.specs.Order.{IsBefore}
use Rattle.fvn_syntax.specs.Pieces.{Text}
use Rattle.fvn_answer.specs.Writing.{is_after}
use Rattle.fvn_answer.specs.inner.Bytes.{beside, with_each, over_texts, put_text, sorted_texts, pair_text, between, with_pairs}
use Rattle.fvn_answer.specs.inner.Fronts.{AtLeast}
use Rattle.fvn_answer.specs.inner.Twins.{Rises}
use Rattle.fvn_answer.proofs.Fronts.{at_least-itself, all-put, all-map, each-front}
use Rattle.fvn_answer.proofs.LineFronts.{pairs-front}
use Rattle.fvn_answer.proofs.TextOrder.{same, same_is, same_itself, not_after, neither_after, after_trans, one_if, count, count_itself, not-after-before}

-- One text.

pub rises-append : (v w y z : Text) → Rises v w → Rises (v ++ y) (w ++ z)
rises-append [] w y z h = absurd h
rises-append (a ∷ v) [] y z h = absurd h
rises-append (a ∷ v) (b ∷ w) y z (inl l) = inl l
rises-append (a ∷ v) (b ∷ w) y z (inr r) = inr (r.0, rises-append v w y z r.1)

pub rises-behind : (p v w : Text) → Rises v w → Rises (p ++ v) (p ++ w)
rises-behind [] v w h = h
rises-behind (a ∷ p) v w h = inr (refl, rises-behind p v w h)

pub rises-at_least : (v w : Text) → Rises v w → AtLeast v w
rises-at_least [] w h k = absurd h
rises-at_least (a ∷ v) [] h k = absurd h
rises-at_least (a ∷ v) (b ∷ w) (inl l) (inl m) = omega arith
rises-at_least (a ∷ v) (b ∷ w) (inl l) (inr r) = let e = r.0 in omega arith
rises-at_least (a ∷ v) (b ∷ w) (inr s) (inl m) = let e = s.0 in omega arith
rises-at_least (a ∷ v) (b ∷ w) (inr s) (inr r) = rises-at_least v w s.1 r.1

pub rises-not : (v : Text) → Rises v v → ⊥
rises-not [] h = h
rises-not (a ∷ v) (inl l) = omega arith
rises-not (a ∷ v) (inr r) = rises-not v r.1

-- the second text is the first one, or it rises
abbrev pub Stays : Text → Text → Type 0
Stays v w = (w ≡ v) ⊎ Rises v w

pub stays-at_least : (v w : Text) → Stays v w → AtLeast v w
stays-at_least v w (inl e) = subst (AtLeast v) (sym e) (at_least-itself v)
stays-at_least v w (inr r) = rises-at_least v w r

pub stays-behind : (p v w : Text) → Stays v w → Stays (p ++ v) (p ++ w)
stays-behind p v w (inl e) = inl (ap (λ t. p ++ t) e)
stays-behind p v w (inr r) = inr (rises-behind p v w r)

-- Texts of arguments.

-- the texts are one up to a text that rises
abbrev pub RisesAmong : List Text → List Text → Type 0
RisesAmong [] us = ⊥
RisesAmong (t ∷ ts) [] = ⊥
RisesAmong (t ∷ ts) (u ∷ us) = Rises t u ⊎ ((t ≡ u) × RisesAmong ts us)

with_each-rises : (special : ℕ) (acc : Text) (ts us : List Text) → RisesAmong ts us → Rises (with_each special acc ts) (with_each special acc us)
with_each-rises special acc [] us h = absurd h
with_each-rises special acc (t ∷ ts) [] h = absurd h
with_each-rises special acc (t ∷ ts) (u ∷ us) (inl r) =
    let a = each-front 44 (beside acc special ++ t) ts in
    let b = each-front 44 (beside acc special ++ u) us in
    subst (λ v. Rises v (with_each 44 (beside acc special ++ u) us)) (sym a.1)
    (subst (Rises ((beside acc special ++ t) ++ a.0)) (sym b.1)
    (rises-append (beside acc special ++ t) (beside acc special ++ u) a.0 b.0 (rises-behind (beside acc special) t u r)))
with_each-rises special acc (t ∷ ts) (u ∷ us) (inr p) =
    subst (λ w. Rises (with_each 44 (beside acc special ++ t) ts) (with_each 44 (beside acc special ++ w) us)) p.0
    (with_each-rises 44 (beside acc special ++ t) ts us p.1)

-- a name over arguments
pub over-rises : (w : Text) (ts us : List Text) → RisesAmong ts us → Rises (over_texts w ts) (over_texts w us)
over-rises w [] us h = absurd h
over-rises w (t ∷ ts) [] h = absurd h
over-rises w (t ∷ ts) (u ∷ us) h = rises-append (with_each 40 w (t ∷ ts)) (with_each 40 w (u ∷ us)) _ _ (with_each-rises 40 w (t ∷ ts) (u ∷ us) h)

-- Bindings.

-- the bindings are one up to a value whose text rises
abbrev pub RisesAmongPairs : List (Text × Text) → List (Text × Text) → Type 0
RisesAmongPairs [] qs = ⊥
RisesAmongPairs (p ∷ ps) [] = ⊥
RisesAmongPairs (p ∷ ps) (q ∷ qs) = ((p.0 ≡ q.0) × Rises p.1 q.1) ⊎ ((p ≡ q) × RisesAmongPairs ps qs)

pair-rises : (p q : Text × Text) → p.0 ≡ q.0 → Rises p.1 q.1 → Rises (pair_text p) (pair_text q)
pair-rises p q e r =
    subst (λ n. Rises (pair_text p) (n ++ (codes " --> " ++ q.1))) e (rises-behind p.0 (codes " --> " ++ p.1) (codes " --> " ++ q.1) (rises-behind (codes " --> ") p.1 q.1 r))

pub pairs-rise : (first : Bool) (acc : Text) (ps qs : List (Text × Text)) → RisesAmongPairs ps qs → Rises (with_pairs first acc ps) (with_pairs first acc qs)
pairs-rise first acc [] qs h = absurd h
pairs-rise first acc (p ∷ ps) [] h = absurd h
pairs-rise first acc (p ∷ ps) (q ∷ qs) (inl r) =
    let base = between first acc in
    let a = pairs-front false (base ++ pair_text p) ps in
    let b = pairs-front false (base ++ pair_text q) qs in
    subst (λ v. Rises v (with_pairs false (base ++ pair_text q) qs)) (sym a.1)
    (subst (Rises ((base ++ pair_text p) ++ a.0)) (sym b.1)
    (rises-append (base ++ pair_text p) (base ++ pair_text q) a.0 b.0 (rises-behind base (pair_text p) (pair_text q) (pair-rises p q r.0 r.1))))
pairs-rise first acc (p ∷ ps) (q ∷ qs) (inr e) =
    subst (λ w. Rises (with_pairs false (between first acc ++ pair_text p) ps) (with_pairs false (between first acc ++ pair_text w) qs)) e.0
    (pairs-rise false (between first acc ++ pair_text p) ps qs e.1)

-- Texts in byte order.

pub length_sorted : (l : List Text) → length (sorted_texts l) ≡ length l
length_sorted [] = refl
length_sorted (t ∷ l) = let a = put t (sorted_texts l) in let b = length_sorted l in omega (arith, a, b)
  where
    put : (t : Text) (l : List Text) → length (put_text t l) ≡ 1 + length l
    put t [] = refl
    put t (u ∷ l) = go (is_after t u) (put t l)
      where
        go : (b : Bool) → length (put_text t l) ≡ 1 + length l → length (if b then u ∷ put_text t l else t ∷ u ∷ l) ≡ 1 + length (u ∷ l)
        go true ih = omega (arith, ih)
        go false ih = omega arith

count_put : (q t : Text) (l : List Text) → count q (put_text t l) ≡ one_if (same q t) + count q l
count_put q t [] = refl
count_put q t (u ∷ l) = go (is_after t u) (count_put q t l)
  where
    go : (b : Bool) → count q (put_text t l) ≡ one_if (same q t) + count q l →
        count q (if b then u ∷ put_text t l else t ∷ u ∷ l) ≡ one_if (same q t) + (one_if (same q u) + count q l)
    go true ih = omega (arith, ih)
    go false ih = refl

pub count_sorted : (q : Text) (l : List Text) → count q (sorted_texts l) ≡ count q l
count_sorted q [] = refl
count_sorted q (t ∷ l) = count_put q t (sorted_texts l) ∙ ap (λ n. one_if (same q t) + n) (count_sorted q l)

-- no text stands after one behind it
abbrev pub Ascending : List Text → Type 0
Ascending [] = Unit {0}
Ascending (t ∷ l) = AllByRecursion (λ u. is_after t u ≡ false) l × Ascending l

put_ascending : (t : Text) (l : List Text) → Ascending l → Ascending (put_text t l)
put_ascending t [] h = (tt, tt)
put_ascending t (u ∷ l) h = go (is_after t u) refl (put_ascending t l h.1)
  where
    go : (b : Bool) → is_after t u ≡ b → Ascending (put_text t l) → Ascending (if b then u ∷ put_text t l else t ∷ u ∷ l)
    go true e ih = (all-put (λ v. is_after u v ≡ false) t l (not_after t u e) h.0, ih)
    go false e ih = ((e, all-map (λ v. is_after u v ≡ false) (λ v. is_after t v ≡ false) (λ v k. after_trans t u v e k) l h.0), h)

pub sorted_ascending : (l : List Text) → Ascending (sorted_texts l)
sorted_ascending [] = tt
sorted_ascending (t ∷ l) = put_ascending t (sorted_texts l) (sorted_ascending l)

after_itself : (t : Text) → is_after t t ≡ false
after_itself t = go (is_after t t) refl
  where
    go : (b : Bool) → is_after t t ≡ b → is_after t t ≡ false
    go true e = not_after t t e
    go false e = e

counted : (P : Text → Type 0) (q : Text) (l : List Text) → AllByRecursion P l → 1 ≤ count q l → P q
counted P q [] ps h = absurd (omega arith)
counted P q (t ∷ l) ps h = go (same q t) refl (counted P q l ps.1)
  where
    go : (b : Bool) → same q t ≡ b → (1 ≤ count q l → P q) → P q
    go true e ih = subst P (sym (same_is q t e)) ps.0
    go false e ih =
        let below : 1 ≤ 0 + count q l = rw e at h in
        ih (omega arith)

above : (q a : Text) (l : List Text) → AllByRecursion (λ u. is_after a u ≡ false) l → 1 ≤ count q (a ∷ l) → is_after a q ≡ false
above q a l up h = counted (λ u. is_after a u ≡ false) q (a ∷ l) (after_itself a, up) h

here : (q : Text) (l : List Text) (n : ℕ) → count q (q ∷ l) ≡ n → 1 ≤ n
here q l n e = let f = count_itself q l in omega (arith, e, f)

-- b rises from s where it stands after it
abbrev pub IsApart : Text → Text → Type 0
IsApart s b = (b ≡ s → ⊥) → IsBefore s b → Rises s b

module _ (s a b : Text) (more less : List Text) (n : a ≡ b → ⊥) (up : AllByRecursion (λ u. is_after a u ≡ false) more) (down : AllByRecursion (λ u. is_after b u ≡ false) less)
    (below : (q : Text) → IsBefore q s → count q (b ∷ less) ≡ count q (a ∷ more)) where
  -- b does not stand before s
  not_lower : IsBefore b s → is_after a b ≡ false
  not_lower h = above b a more up (here b less (count b (a ∷ more)) (below b h))

  head_here : a ≡ s → IsApart s b → Rises a b
  head_here e apart = subst (λ v. Rises v b) (sym e) (apart (λ h. n (e ∙ sym h)) (go (is_after s b) refl))
    where
      go : (c : Bool) → is_after s b ≡ c → IsBefore s b
      go false h = not-after-before s b h (λ k. n (e ∙ k))
      go true h =
          let m = not_lower (not-after-before b s (not_after s b h) (λ k. n (e ∙ sym k))) in
          let r : is_after s b ≡ false = subst (λ v. is_after v b ≡ false) e m in
          let c : true ≡ false = sym h ∙ r in cc

  head_not_here : (a ≡ s → ⊥) → is_after a s ≡ false → Rises a b
  head_not_here other low =
      let first = not-after-before a s low other in
      let has : count a (a ∷ more) ≡ count a (b ∷ less) = sym (below a first) in
      let ba : is_after b a ≡ false = above a b less down (here a more (count a (b ∷ less)) has) in
      let bs : is_after b s ≡ false = after_trans b a s ba low in
      let differ : b ≡ s → ⊥ = λ e. other (neither_after a s low (subst (λ v. is_after v a ≡ false) e ba)) in
      absurd (n (neither_after a b (not_lower (not-after-before b s bs differ)) ba))

  heads : IsApart s b → count s (b ∷ less) < count s (a ∷ more) → Rises a b
  heads apart more_often = go (same a s) refl
    where
      low : is_after a s ≡ false
      low = above s a more up (omega (arith, more_often))

      go : (c : Bool) → same a s ≡ c → Rises a b
      go true e = head_here (same_is a s e) apart
      go false e = head_not_here (λ h. let r : same a s ≡ true = subst (λ v. same a v ≡ true) h (same_itself a) in let c : true ≡ false = sym r ∙ e in cc) low

-- lists of which the first has s more often, and what stands before s as often
pub among-rises : (s : Text) (l m : List Text) → Ascending l → Ascending m → length l ≡ length m → AllByRecursion (IsApart s) m →
    ((q : Text) → IsBefore q s → count q m ≡ count q l) → count s m < count s l → RisesAmong l m
among-rises s [] m up down long apart below more = absurd (omega (arith, more))
among-rises s (a ∷ l) [] up down long apart below more = absurd (omega (arith, long))
among-rises s (a ∷ l) (b ∷ m) up down long apart below more = go (same a b) refl
    (λ e. among-rises s l m up.1 down.1 (omega (arith, long)) apart.1
    (λ q k. let h = below q k in let f = ap (λ v. one_if (same q v)) e in omega (arith, h, f))
    (let f = ap (λ v. one_if (same s v)) e in omega (arith, more, f)))
  where
    go : (c : Bool) → same a b ≡ c → (a ≡ b → RisesAmong l m) → Rises a b ⊎ ((a ≡ b) × RisesAmong l m)
    go true e rest = inr (same_is a b e, rest (same_is a b e))
    go false e rest =
        inl (heads s a b l m (λ h. let r : same a b ≡ true = subst (λ v. same a v ≡ true) h (same_itself a) in let c : true ≡ false = sym r ∙ e in cc) up.0 down.0 below apart.0 more)
