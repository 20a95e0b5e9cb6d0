-- Numbers that digits write, and lists of them.
use Rattle.std.proofs.Common.{◌≡◌, ◌≢◌, ℕ, zero, suc, ◌+◌, ◌-◌, ◌*◌, ◌<◌, ◌≤◌, ◌↔◌, Bool, true, false, List, [], ◌∷◌, ◌++◌, length, take, drop, get_or, map, Option, Some, None, Vec, Global, refl, sym, ap, ◌∙◌, subst, arith, leb-true}
use Rattle.std.specs.Prelude.{nat_le, ◌&&◌, IsSome, unwrap_or, option_to_list, vec_len}
use Rattle.std.specs.List.{AllByRecursion, list_all}
use Rattle.std.proofs.lemmas.Bool.{and_parts}
use Rattle.std.proofs.lemmas.List.{drop_more, drop_all, take_more, take_all, map-append}
use Rattle.fvn_lex.specs.Cut.{Piece}
use Rattle.fvn_syntax.specs.Pieces.{Text, is_word}
use Rattle.fvn_weights.specs.declared.weights.Weight.{Weight}
use Rattle.fvn_weights_reading.specs.declared.entry.Entry.{Entry}
use Rattle.fvn_weights_reading.specs.declared.limits.TheConstants.{NUMBER_DIGITS}
use Rattle.fvn_weights_reading.specs.Spelling.{is_digit, is_short, is_number_text, is_number, number_after, number, IsEntry}
use Rattle.fvn_weights_reading.specs.Reading.{IsWrittenWeight}

-- the least number that so many digits do not write
abbrev pub most : ℕ → ℕ
most zero = 1
most (suc n) = 10 * most n

most-le : (i k : ℕ) → i ≤ k → most i ≤ most k
most-le zero zero h = omega arith
most-le zero (suc k) h = let g = most-le zero k (omega arith) in omega (arith, g)
most-le (suc i) zero h = absurd (omega arith)
most-le (suc i) (suc k) h = let g = most-le i k (omega arith) in omega (arith, g)

most-next : (i : ℕ) → most (i + 1) ≡ 10 * most i
most-next i = let e : i + 1 ≡ suc i = omega arith in ap most e

pub small : (i n : ℕ) → i ≤ NUMBER_DIGITS → n < most i → n < 1000000000
small i n l h =
    let g = most-le i NUMBER_DIGITS l in
    let k : most NUMBER_DIGITS ≡ 1000000000 = refl in
    omega (arith, g, k, h)

all-at : {A : Type 0} (p : A → Bool) (xs : List A) (i : ℕ) (d : A) → list_all p xs ≡ true → i < length xs → p (get_or xs i d) ≡ true
all-at p [] i d h l = absurd (omega arith)
all-at p (x ∷ xs) zero d h l = (and_parts (p x) (list_all p xs) h).0
all-at p (x ∷ xs) (suc i) d h l = all-at p xs i d (and_parts (p x) (list_all p xs) h).1 (omega arith)

pub each-at : {A : Type 0} (P : A → Type 0) (xs : List A) (i : ℕ) (d : A) → AllByRecursion P xs → i < length xs → P (get_or xs i d)
each-at P [] i d h l = absurd (omega arith)
each-at P (x ∷ xs) zero d h l = h.0
each-at P (x ∷ xs) (suc i) d h l = each-at P xs i d h.1 (omega arith)

-- the digits of a number

-- so many digits are read, and they write so much
abbrev pub IsRead : Text → ℕ → ℕ → Type 0
IsRead w i n = (number_after n (drop i w) ≡ number w) × (n < most i)

module _ (w : Text) (is : is_number_text w ≡ true) where
  pub short : length w ≤ NUMBER_DIGITS
  short = leb-true (length w) NUMBER_DIGITS (and_parts (nat_le 1 (length w)) (nat_le (length w) NUMBER_DIGITS) (and_parts (is_short w) (list_all is_digit w) is).0).1

  digit-at : (i d : ℕ) → i < length w → is_digit (get_or w i d) ≡ true
  digit-at i d l = all-at is_digit w i d (and_parts (is_short w) (list_all is_digit w) is).1 l

  pub digit-low : (i d : ℕ) → i < length w → 48 ≤ get_or w i d
  digit-low i d l = leb-true 48 (get_or w i d) (and_parts (nat_le 48 (get_or w i d)) (nat_le (get_or w i d) 57) (digit-at i d l)).0

  pub digit-high : (i d : ℕ) → i < length w → get_or w i d ≤ 57
  digit-high i d l = leb-true (get_or w i d) 57 (and_parts (nat_le 48 (get_or w i d)) (nat_le (get_or w i d) 57) (digit-at i d l)).1

  pub one-digit : (i n d m : ℕ) → i < length w → IsRead w i n → m ≡ 10 * n + (get_or w i d - 48) → IsRead w (i + 1) m
  one-digit i n d m l r is =
      let e = sym (ap (number_after n) (drop_more w i d l)) ∙ r.0 in
      let low = digit-low i d l in
      let high = digit-high i d l in
      let next = most-next i in
      (ap (λ k. number_after k (drop (i + 1) w)) is ∙ e, omega (arith, low, high, next, is, r.1))

  pub all-digits : (i n : ℕ) → length w ≤ i → IsRead w i n → n ≡ number w
  all-digits i n l r = sym (ap (number_after n) (drop_all i w l)) ∙ r.0

pub number-text : (p : Piece) → is_number p ≡ true → is_number_text p.text ≡ true
number-text p h = (and_parts (is_word p) (is_number_text p.text) h).1

-- the numbers of pieces

abbrev pub value : Piece → ℕ
value p = number p.text

pub one-value : (ps : List Piece) (i : ℕ) (d : Piece) (list after : List ℕ) → i < length ps → list ≡ map value (take i ps) → after ≡ list ++ (value (get_or ps i d) ∷ []) → after ≡ map value (take (i + 1) ps)
one-value ps i d list after l h e =
    e ∙ ap (λ x. x ++ (value (get_or ps i d) ∷ [])) h ∙ sym (map-append value (take i ps) (get_or ps i d ∷ [])) ∙ ap (map value) (sym (take_more ps i d l))

pub all-values : (ps : List Piece) (i : ℕ) (list : List ℕ) → length ps ≤ i → list ≡ map value (take i ps) → list ≡ map value ps
all-values ps i list l h = h ∙ ap (map value) (take_all i ps l)

-- the last number is the constant
pub popped : (e : Entry) (before after : Vec ℕ Global) (o : Option ℕ) → IsEntry e → before.items ≡ map value e.numbers → before.items ≡ after.items ++ option_to_list o →
    (IsSome o ↔ (0 < vec_len before)) → (w : Weight) → w.coefficients ≡ after.items → w.constant ≡ unwrap_or o 0 → IsWrittenWeight e w
popped e before after None is are parts some w c k =
    absurd (lost e.numbers is.some are) where
      lost : (ps : List Piece) → ps ≢ [] → before.items ≡ map value ps → ⊥
      lost [] n h = n refl
      lost (p ∷ ps) n h =
          let l : length before.items ≡ length (map value (p ∷ ps)) = ap length h in
          let f : 0 < length (map value (p ∷ ps)) = omega arith in
          let m = before.ok.0 in
          let g : false ≡ true = some.1 (omega (arith, l, f, m)) in
          cc
popped e before after (Some n) is are parts some w c k = sym are ∙ parts ∙ ap (λ x. x ++ (n ∷ [])) (sym c) ∙ ap (λ m. w.coefficients ++ (m ∷ [])) (sym k)
