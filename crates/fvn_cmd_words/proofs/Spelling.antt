-- Numbers of one to nine decimal digits.
use Rattle.std.proofs.Common.{◌≡◌, ◌≤◌, ◌<◌, ◌+◌, ◌*◌, ◌-◌, ℕ, zero, suc, Bool, true, false, [], ◌∷◌, length, drop, get_or, Option, Some, None, inl, inr, refl, sym, ap, ◌∙◌, subst, arith}
use Rattle.std.specs.Prelude.{◌⊎◌, if◌then◌else◌, ◌&&◌, nat_le}
use Rattle.std.specs.List.{AllByRecursion}
use Rattle.std.proofs.lemmas.Bool.{and_parts, and_from, leb-true, le-leb, lt-leb}
use Rattle.std.proofs.lemmas.List.{drop_more}
use Rattle.fvn_base.proofs.Options.{Some-injective}
use Rattle.fvn_cmd_words.specs.Words.{Word, IsDigit, spelled_behind, IsNumber}
use Rattle.fvn_cmd_words.specs.inner.Reading.{read_on, number_of}

-- what is read behind a test, where it is read
pub passed : {A : Type 0} (b : Bool) (x : Option A) (y : A) → (if b then x else None) ≡ Some y → (b ≡ true) × (x ≡ Some y)
passed true x y e = (refl, e)
passed false x y e = cc

-- a digit goes on
digit : (n byte : ℕ) (bytes : Word) → 48 ≤ byte → byte ≤ 57 → read_on n (byte ∷ bytes) ≡ read_on (10 * n + (byte - 48)) bytes
digit n byte bytes l h =
    let a : nat_le 48 byte ≡ true = le-leb 48 byte l in
    let b : nat_le byte 57 ≡ true = le-leb byte 57 h in
    rw (a, b) refl

pub digit_step : (word : Word) (n i r : ℕ) → i < length word → 48 ≤ get_or word i 0 → get_or word i 0 ≤ 57 → r ≡ get_or word i 0 - 48 →
    read_on n (drop i word) ≡ read_on (10 * n + r) (drop (i + 1) word)
digit_step word n i r within l h is =
    ap (read_on n) (drop_more word i 0 within) ∙ digit n (get_or word i 0) (drop (i + 1) word) l h ∙ ap (λ x. read_on (10 * n + x) (drop (i + 1) word)) (sym is)

-- what is no digit
pub bad_digit : (word : Word) (n i : ℕ) → i < length word → (get_or word i 0 < 48) ⊎ (57 < get_or word i 0) → read_on n (drop i word) ≡ None
bad_digit word n i within h = ap (read_on n) (drop_more word i 0 within) ∙ go h
  where
    go : (get_or word i 0 < 48) ⊎ (57 < get_or word i 0) → read_on n (get_or word i 0 ∷ drop (i + 1) word) ≡ None
    go (inl low) = let a : nat_le 48 (get_or word i 0) ≡ false = lt-leb 48 (get_or word i 0) low in rw a refl
    go (inr high) = upper (nat_le 48 (get_or word i 0)) (lt-leb (get_or word i 0) 57 high)
      where
        upper : (b : Bool) → nat_le (get_or word i 0) 57 ≡ false → (if b && nat_le (get_or word i 0) 57 then read_on (10 * n + (get_or word i 0 - 48)) (drop (i + 1) word) else None) ≡ None
        upper true q = ap (λ t. if t then read_on (10 * n + (get_or word i 0 - 48)) (drop (i + 1) word) else None) q
        upper false q = refl

digits_read : (n : ℕ) (word : Word) (r : ℕ) → read_on n word ≡ Some r → AllByRecursion IsDigit word × (r ≡ spelled_behind n word)
digits_read n [] r e = (tt, sym (Some-injective e))
digits_read n (byte ∷ bytes) r e =
    let h = passed (nat_le 48 byte && nat_le byte 57) (read_on (10 * n + (byte - 48)) bytes) r e in
    let d = and_parts (nat_le 48 byte) (nat_le byte 57) h.0 in
    let more = digits_read (10 * n + (byte - 48)) bytes r h.1 in
    (((leb-true 48 byte d.0, leb-true byte 57 d.1), more.0), more.1)

digits_spelled : (n : ℕ) (word : Word) → AllByRecursion IsDigit word → read_on n word ≡ Some (spelled_behind n word)
digits_spelled n [] d = refl
digits_spelled n (byte ∷ bytes) d = digit n byte bytes d.0.0 d.0.1 ∙ digits_spelled (10 * n + (byte - 48)) bytes d.1

pub number_read : (word : Word) (n : ℕ) → number_of word ≡ Some n → IsNumber word n
unfolding number_of
number_read word n e =
    let h = passed (nat_le 1 (length word) && nat_le (length word) 9) (read_on 0 word) n e in
    let l = and_parts (nat_le 1 (length word)) (nat_le (length word) 9) h.0 in
    let d = digits_read 0 word n h.1 in
    record { digits = d.0; some = leb-true 1 (length word) l.0; short = leb-true (length word) 9 l.1; number_is = d.1 }

pub number_spelled : (word : Word) (n : ℕ) → IsNumber word n → number_of word ≡ Some n
unfolding number_of
number_spelled word n h =
    let a : nat_le 1 (length word) ≡ true = le-leb 1 (length word) h.some in
    let b : nat_le (length word) 9 ≡ true = le-leb (length word) 9 h.short in
    ap (λ t. if t then read_on 0 word else None) (and_from (nat_le 1 (length word)) (nat_le (length word) 9) a b)
    ∙ digits_spelled 0 word h.digits
    ∙ ap Some (sym h.number_is)

-- as many digits spell less than this
abbrev pub ten_to : ℕ → ℕ
ten_to zero = 1
ten_to (suc i) = 10 * ten_to i

pub ten_more : (i : ℕ) → ten_to (i + 1) ≡ 10 * ten_to i
ten_more i = let on : suc i ≡ i + 1 = omega arith in ap ten_to (sym on)

ten_small : (r i : ℕ) → i + r ≡ 9 → ten_to i ≤ 1000000000
ten_small zero i e = let nine : i ≡ 9 = omega (arith, e) in subst (λ n. ten_to n ≤ 1000000000) (sym nine) (omega arith)
ten_small (suc r) i e = let h : ten_to (suc i) ≤ 1000000000 = ten_small r (suc i) (omega (arith, e)) in omega (arith, h)

pub nine_digits : (i : ℕ) → i ≤ 9 → ten_to i ≤ 1000000000
nine_digits i h = ten_small (9 - i) i (omega (arith, h))
