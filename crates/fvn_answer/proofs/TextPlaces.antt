-- Places in lists of texts.
use Rattle.std.proofs.Common.{◌≡◌, ◌≢◌, ℕ, suc, ◌+◌, ◌<◌, inl, inr, Bool, true, false, cond, List, [], ◌∷◌, ◌++◌, length, get_or, Option, Some, None, refl, sym, ap, ◌∙◌, subst, append_assoc, arith}
use Rattle.std.specs.Prelude.{AllPairs, Contains}
use Rattle.std.specs.List.{position_from}
use Rattle.std.specs.Str.{bytes_eq}
use Rattle.std.proofs.lemmas.Bool.{cases_order}
use Rattle.std.proofs.lemmas.List.{append-nil}
use Rattle.std.proofs.lemmas.List.Elements.{Contains-append_right, Contains-get_or}
use Rattle.fvn_base.proofs.Membership.{contains_here, contains_cases, contains_none}
use Rattle.fvn_syntax.specs.Pieces.{Text}
use Rattle.fvn_syntax.specs.Texts.{place, or_end, place_or_end, unless_at, with_text}
use Rattle.fvn_syntax.proofs.PieceLemmas.{bytes_eq-refl, bytes_eq-is}

-- Searches.

module _ {A : Type 0} (p : A → Bool) where
  -- what is found stays where more comes behind
  position-append : (k : ℕ) (xs ys : List A) (i : ℕ) → position_from p k xs ≡ Some i → position_from p k (xs ++ ys) ≡ Some i
  position-append k [] ys i e = cc
  position-append k (x ∷ xs) ys i e = go (p x) e (position-append (k + 1) xs ys i) where
    go : (b : Bool) → cond b (Some k) (position_from p (k + 1) xs) ≡ Some i → (position_from p (k + 1) xs ≡ Some i → position_from p (k + 1) (xs ++ ys) ≡ Some i) →
        cond b (Some k) (position_from p (k + 1) (xs ++ ys)) ≡ Some i
    go true e ih = e
    go false e ih = ih e

  -- the first one that passes is found at the end of those that do not
  position-new : (k : ℕ) (xs : List A) (y : A) (ys : List A) → position_from p k xs ≡ None → p y ≡ true → position_from p k (xs ++ y ∷ ys) ≡ Some (k + length xs)
  position-new k [] y ys e t = rw t (let same : k ≡ k + 0 = omega arith in ap Some same)
  position-new k (x ∷ xs) y ys e t = go (p x) e (λ n. position-new (k + 1) xs y ys n t) where
    go : (b : Bool) → cond b (Some k) (position_from p (k + 1) xs) ≡ None → (position_from p (k + 1) xs ≡ None → position_from p (k + 1) (xs ++ y ∷ ys) ≡ Some (k + 1 + length xs)) →
        cond b (Some k) (position_from p (k + 1) (xs ++ y ∷ ys)) ≡ Some (k + length (x ∷ xs))
    go true e ih = cc
    go false e ih = ih e ∙ (let same : k + 1 + length xs ≡ k + length (x ∷ xs) = omega arith in ap Some same)

  -- what is found passes
  pub record Finds (k : ℕ) (xs : List A) (d : A) (i : ℕ) : Type 0 where
    pub at : ℕ
    pub is : i ≡ k + at
    pub within : at < length xs
    pub passes : p (get_or xs at d) ≡ true

  pub position-finds : (k : ℕ) (xs : List A) (d : A) (i : ℕ) → position_from p k xs ≡ Some i → Finds k xs d i
  position-finds k [] d i e = cc
  position-finds k (x ∷ xs) d i e = go (p x) refl e (position-finds (k + 1) xs d i) where
    go : (b : Bool) → p x ≡ b → cond b (Some k) (position_from p (k + 1) xs) ≡ Some i → (position_from p (k + 1) xs ≡ Some i → Finds (k + 1) xs d i) → Finds k (x ∷ xs) d i
    go true q e ih = record { at = 0; is = (let same : k ≡ i = (let f : Some k ≡ Some i = e in cc) in omega (arith, same)); within = omega arith; passes = q }
    go false q e ih = let f = ih e in record { at = suc f.at; is = omega (arith, f.is); within = (let l = f.within in omega arith); passes = f.passes }

  -- what passes is found
  pub position-some : (k : ℕ) (xs : List A) (y : A) → Contains xs y → p y ≡ true → (i : ℕ) × (position_from p k xs ≡ Some i)
  position-some k [] y h t = absurd (contains_none y h)
  position-some k (x ∷ xs) y h t = go (p x) refl (λ l. position-some (k + 1) xs y l t) where
    go : (b : Bool) → p x ≡ b → (Contains xs y → (i : ℕ) × (position_from p (k + 1) xs ≡ Some i)) → (i : ℕ) × (cond b (Some k) (position_from p (k + 1) xs) ≡ Some i)
    go true q ih = (k, refl)
    go false q ih = elim (contains_cases x xs y h) [
      | inl e ↦ let n : false ≡ true = sym q ∙ subst (λ z. p z ≡ true) (sym e) t in cc
      | inr l ↦ ih l
    ]

-- Texts.

-- names that go on with this one and others keep its place
pub placed : (before : List Text) (w : Text) (later : List Text) → place_or_end (with_text before w ++ later) w ≡ place_or_end before w
placed before w later = go (place before w) refl where
  go : (o : Option ℕ) → place before w ≡ o → place_or_end (unless_at before w o ++ later) w ≡ or_end before o
  go (Some i) e = ap (or_end (before ++ later)) (position-append (λ t. bytes_eq w t) 0 before later i e)
  go None e =
      ap (λ ts. place_or_end ts w) (append_assoc before (w ∷ []) later)
      ∙ ap (or_end (before ++ w ∷ later)) (position-new (λ t. bytes_eq w t) 0 before w later e (bytes_eq-refl w))
      ∙ (let same : 0 + length before ≡ length before = omega arith in same)

pub with_text-more : (before : List Text) (w : Text) → (more : List Text) × (with_text before w ≡ before ++ more)
with_text-more before w = go (place before w) where
  go : (o : Option ℕ) → (more : List Text) × (unless_at before w o ≡ before ++ more)
  go (Some i) = ([], sym (append-nil before))
  go None = (w ∷ [], refl)

pub with_text-contains : (before : List Text) (w : Text) → Contains (with_text before w) w
with_text-contains before w = go (place before w) refl where
  go : (o : Option ℕ) → place before w ≡ o → Contains (unless_at before w o) w
  go (Some i) e =
      let f = position-finds (λ t. bytes_eq w t) 0 before w i e in
      (f.at, f.within, sym (bytes_eq-is w (get_or before f.at w) f.passes))
  go None e = Contains-append_right before (w ∷ []) w (contains_here w [])

-- a text that is listed stands at its place
pub at-place : (texts : List Text) (w : Text) → Contains texts w → get_or texts (place_or_end texts w) [] ≡ w
at-place texts w h =
    let s = position-some (λ t. bytes_eq w t) 0 texts w h (bytes_eq-refl w) in
    let f = position-finds (λ t. bytes_eq w t) 0 texts [] s.0 s.1 in
    let here : place_or_end texts w ≡ f.at = ap (or_end texts) s.1 ∙ (let same : s.0 ≡ f.at = omega (arith, f.is) in same) in
    subst (λ i. get_or texts i [] ≡ w) (sym here) (sym (bytes_eq-is w (get_or texts f.at []) f.passes))

-- where no text stands twice, each has its own place
pub place-distinct : (texts : List Text) (i : ℕ) → AllPairs (λ v w. v ≢ w) texts → i < length texts → place texts (get_or texts i []) ≡ Some i
place-distinct texts i distinct within =
    let w = get_or texts i [] in
    let s = position-some (λ t. bytes_eq w t) 0 texts w (Contains-get_or texts i [] within) (bytes_eq-refl w) in
    let f = position-finds (λ t. bytes_eq w t) 0 texts [] s.0 s.1 in
    let same : w ≡ get_or texts f.at [] = bytes_eq-is w (get_or texts f.at []) f.passes in
    let low = f.within in
    let here : f.at ≡ i = elim (cases_order f.at i) [
      | inl e ↦ e
      | inr n ↦ elim n [
        | inl l ↦ absurd (distinct f.at i [] l within (sym same))
        | inr l ↦ absurd (distinct i f.at [] l low same)
      ]
    ] in
    s.1 ∙ (let is : s.0 ≡ i = omega (arith, f.is, here) in ap Some is)
