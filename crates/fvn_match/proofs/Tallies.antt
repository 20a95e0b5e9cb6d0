-- Pieces with their numbers, counted.
use Rattle.std.proofs.Common.{◌≡◌, ℕ, ◌+◌, ◌-◌, ◌*◌, ◌/◌, ◌≤◌, ◌<◌, Bool, true, false, zero, suc, List, [], ◌∷◌, ◌++◌, length, map, replicate, take, drop, get_or, set, refl, sym, ap, ◌∙◌, arith}
use Rattle.std.specs.Prelude.{if◌then◌else◌, sum}
use Rattle.std.specs.List.{AllZip, AllByRecursion}
use Rattle.std.proofs.lemmas.List.{length-append, length-replicate, length-drop, at_drop_more, get_or_read, nil_from_length, take_more, take-append-drop}
use Rattle.std.proofs.Math.Nat.{mul-le-mul_left, mul-div-le}
use Rattle.std.proofs.lemmas.Nat.{le-div}
use Rattle.fvn_forms.specs.Flat.{FlatTerm}
use Rattle.fvn_forms.specs.Order.{same_flat}
use Rattle.fvn_forms.specs.InOrder.{one_if, count, SameCounts}
use Rattle.fvn_forms.proofs.Order.{same_flat_is, same_flat_itself}
use Rattle.fvn_forms.proofs.InOrder.{count_append, length_sort, sort_same_counts, count_itself}
use Rattle.fvn_match.specs.inner.Choices.{quotients, reduced}
use Rattle.fvn_match.specs.inner.Tallies.{tally, repeated, AreDistinct}
use Rattle.fvn_match.proofs.Advancing.{sum-cons}

-- n where it is true, else 0
abbrev pub times : Bool → ℕ → ℕ
times b n = if b then n else 0

pub times-add : (b : Bool) (n m : ℕ) → times b (n + m) ≡ times b n + times b m
times-add true n m = refl
times-add false n m = refl

pub times-one : (b : Bool) → times b 1 ≡ one_if b
times-one true = refl
times-one false = refl

-- counts of a repeated piece
pub count_replicate : (q t : FlatTerm) (n : ℕ) → count q (replicate n t) ≡ times (same_flat q t) n
count_replicate q t zero = go (same_flat q t)
  where
    go : (x : Bool) → 0 ≡ times x 0
    go true = refl
    go false = refl
count_replicate q t (suc n) = go (same_flat q t) refl (count_replicate q t n)
  where
    go : (x : Bool) → same_flat q t ≡ x → count q (replicate n t) ≡ times (same_flat q t) n → one_if (same_flat q t) + count q (replicate n t) ≡ times (same_flat q t) (suc n)
    go true p ih = let e : count q (replicate n t) ≡ n = rw p at ih in rw p (omega arith)
    go false p ih = let e : count q (replicate n t) ≡ 0 = rw p at ih in rw p (omega arith)

pub count_repeated : (q : FlatTerm) (ts : List FlatTerm) (ns : List ℕ) → count q (repeated ts ns) ≡ tally q ts ns
count_repeated q [] ns = refl
count_repeated q (t ∷ ts) [] = refl
count_repeated q (t ∷ ts) (n ∷ ns) = let a = count_append q (replicate n t) (repeated ts ns) in let b = count_repeated q ts ns in let c = count_replicate q t n in omega arith

pub length_repeated : (ts : List FlatTerm) (ns : List ℕ) → length ns ≡ length ts → length (repeated ts ns) ≡ sum ns
length_repeated [] [] e = refl
length_repeated [] (n ∷ ns) e = absurd (omega arith)
length_repeated (t ∷ ts) [] e = absurd (omega arith)
length_repeated (t ∷ ts) (n ∷ ns) e = let a = length-append (replicate n t) (repeated ts ns) in let b = length-replicate n t in let c = length_repeated ts ns (omega arith) in omega (arith, sum-cons n ns)

pub same_length : (l m : List FlatTerm) → SameCounts l m → length l ≡ length m
same_length l m h = sym (length_sort l) ∙ ap length (sort_same_counts l m h) ∙ length_sort m

-- where q is no piece, its tally is nothing
pub tally_elsewhere : (q : FlatTerm) (ts : List FlatTerm) (ns : List ℕ) → count q ts ≡ 0 → tally q ts ns ≡ 0
tally_elsewhere q [] ns e = refl
tally_elsewhere q (t ∷ ts) [] e = refl
tally_elsewhere q (t ∷ ts) (n ∷ ns) e = go (same_flat q t) refl (λ k. tally_elsewhere q ts ns k)
  where
    go : (x : Bool) → same_flat q t ≡ x → (count q ts ≡ 0 → tally q ts ns ≡ 0) → times x n + tally q ts ns ≡ 0
    go true p ih = let one : 1 + count q ts ≡ 0 = rw p at e in absurd (omega arith)
    go false p ih = let none : 0 + count q ts ≡ 0 = rw p at e in let k = ih (omega arith) in omega arith

-- the tally of numbers that a function gives
pub tally-map : (g : FlatTerm → ℕ) (q : FlatTerm) (ts : List FlatTerm) → tally q ts (map g ts) ≡ count q ts * g q
tally-map g q [] = omega arith
tally-map g q (t ∷ ts) = go (same_flat q t) refl (tally-map g q ts)
  where
    go : (x : Bool) → same_flat q t ≡ x → tally q ts (map g ts) ≡ count q ts * g q → times x (g t) + tally q ts (map g ts) ≡ (one_if (same_flat q t) + count q ts) * g q
    go true p ih = let e : g t ≡ g q = ap g (sym (same_flat_is q t p)) in rw p (omega arith)
    go false p ih = rw p (omega arith)

pub tally-zeros : (q : FlatTerm) (ts : List FlatTerm) (n : ℕ) → tally q ts (replicate n 0) ≡ 0
tally-zeros q [] n = refl
tally-zeros q (t ∷ ts) zero = refl
tally-zeros q (t ∷ ts) (suc n) = go (same_flat q t) (tally-zeros q ts n)
  where
    go : (x : Bool) → tally q ts (replicate n 0) ≡ 0 → times x 0 + tally q ts (replicate n 0) ≡ 0
    go true ih = omega arith
    go false ih = omega arith

-- all numbers are zero where every tally is
pub zeros-tally : (ts : List FlatTerm) (ns : List ℕ) → length ns ≡ length ts → ((q : FlatTerm) → tally q ts ns ≡ 0) → sum ns ≡ 0
zeros-tally [] [] e h = refl
zeros-tally [] (n ∷ ns) e h = absurd (omega arith)
zeros-tally (t ∷ ts) [] e h = absurd (omega arith)
zeros-tally (t ∷ ts) (n ∷ ns) e h =
    let here : n + tally t ts ns ≡ 0 = rw (same_flat_itself t) at (h t) in
    let rest = zeros-tally ts ns (omega arith) (λ q. let k = h q in omega arith) in
    omega (arith, sum-cons n ns)

pub tally_none : (q : FlatTerm) (ts : List FlatTerm) (ns : List ℕ) → length ns ≡ length ts → sum ns ≡ 0 → tally q ts ns ≡ 0
tally_none q ts ns e h =
    let k = sym (count_repeated q ts ns) in
    let l : length (repeated ts ns) ≡ 0 = length_repeated ts ns e ∙ h in
    k ∙ go (repeated ts ns) l
  where
    go : (l : List FlatTerm) → length l ≡ 0 → count q l ≡ 0
    go [] p = refl
    go (t ∷ l) p = absurd (omega arith)

-- taking a choice away k times
pub tally-reduced : (k : ℕ) (q : FlatTerm) (ts : List FlatTerm) (ns js : List ℕ) → AllZip (λ j n. k * j ≤ n) js ns → tally q ts (reduced k ns js) + k * tally q ts js ≡ tally q ts ns
tally-reduced k q [] ns js h = omega arith
tally-reduced k q (t ∷ ts) [] [] h = omega arith
tally-reduced k q (t ∷ ts) [] (j ∷ js) h = absurd h
tally-reduced k q (t ∷ ts) (n ∷ ns) [] h = absurd h
tally-reduced k q (t ∷ ts) (n ∷ ns) (j ∷ js) h = go (same_flat q t) (tally-reduced k q ts ns js h.1)
  where
    go : (x : Bool) → tally q ts (reduced k ns js) + k * tally q ts js ≡ tally q ts ns → (times x (n - k * j) + tally q ts (reduced k ns js)) + k * (times x j + tally q ts js) ≡ times x n + tally q ts ns
    go true ih = omega (arith, h.0)
    go false ih = omega arith

-- so often does each piece fit
pub fits_quotients : (k : ℕ) (ns js : List ℕ) → AllZip (λ j l. j ≤ l) js (quotients k ns) → AllZip (λ j n. k * j ≤ n) js ns
fits_quotients k [] [] h = tt
fits_quotients k [] (j ∷ js) h = absurd h
fits_quotients k (n ∷ ns) [] h = absurd h
fits_quotients k (n ∷ ns) (j ∷ js) h = (let a = mul-le-mul_left k h.0 in let b = mul-div-le n k in omega arith, fits_quotients k ns js h.1)

-- the numbers of a list, piece by piece
abbrev pub numbers_in : List FlatTerm → List FlatTerm → List ℕ
numbers_in ts m = map (λ t. count t m) ts

-- where all of k times a list are among different pieces, so are its numbers
pub fits_numbers : (k : ℕ) → 1 ≤ k → (m ts : List FlatTerm) (ns : List ℕ) → length ns ≡ length ts → AreDistinct ts → ((q : FlatTerm) → 1 ≤ count q ts → k * count q m ≤ tally q ts ns) →
    AllZip (λ j l. j ≤ l) (numbers_in ts m) (quotients k ns)
fits_numbers k some m [] [] e distinct h = tt
fits_numbers k some m [] (n ∷ ns) e distinct h = absurd (omega arith)
fits_numbers k some m (t ∷ ts) [] e distinct h = absurd (omega arith)
fits_numbers k some m (t ∷ ts) (n ∷ ns) e distinct h = (here, fits_numbers k some m ts ns (omega arith) (λ q. let x = distinct q in omega arith) later)
  where
    alone : count t ts ≡ 0
    alone = let x = distinct t in let y = count_itself t ts in omega arith

    here : count t m ≤ n / k
    here =
        let y = count_itself t ts in
        let x : k * count t m ≤ n + tally t ts ns = rw (same_flat_itself t) at (h t (omega arith)) in
        let z = tally_elsewhere t ts ns alone in
        le-div (count t m) n k (omega arith) (omega arith)

    later : (q : FlatTerm) → 1 ≤ count q ts → k * count q m ≤ tally q ts ns
    later q some2 = go (same_flat q t) refl
      where
        go : (x : Bool) → same_flat q t ≡ x → k * count q m ≤ tally q ts ns
        go true p = let z : count q ts ≡ 0 = ap (λ u. count u ts) (same_flat_is q t p) ∙ alone in absurd (omega arith)
        go false p = let z : k * count q m ≤ 0 + tally q ts ns = rw p at (h q (let o = one_if (same_flat q t) in omega arith)) in omega arith

-- the numbers of a list all of which are among different pieces make up the list
pub numbers_make_up : (m ts : List FlatTerm) → AreDistinct ts → ((q : FlatTerm) → count q ts ≡ 0 → count q m ≡ 0) → (q : FlatTerm) → tally q ts (numbers_in ts m) ≡ count q m
numbers_make_up m ts distinct h q = go (count q ts) refl
  where
    go : (n : ℕ) → count q ts ≡ n → tally q ts (numbers_in ts m) ≡ count q m
    go zero e = let a = tally-map (λ t. count t m) q ts in let b = h q e in omega (arith, ap (λ n. n * count q m) e)
    go (suc n) e = let a = tally-map (λ t. count t m) q ts in let b = distinct q in let one : count q ts ≡ 1 = omega arith in omega (arith, ap (λ n. n * count q m) one)

-- one number changed
pub tally-set : (q : FlatTerm) (ts : List FlatTerm) (ns : List ℕ) (i n : ℕ) (d : FlatTerm) → length ns ≡ length ts → i < length ns →
    tally q ts (set ns i n) + times (same_flat q (get_or ts i d)) (get_or ns i 0) ≡ tally q ts ns + times (same_flat q (get_or ts i d)) n
tally-set q [] ns i n d e h = absurd (omega arith)
tally-set q (t ∷ ts) [] i n d e h = absurd (omega arith)
tally-set q (t ∷ ts) (m ∷ ns) zero n d e h = omega arith
tally-set q (t ∷ ts) (m ∷ ns) (suc i) n d e h = let k = tally-set q ts ns i n d (omega arith) (omega arith) in omega arith

-- one piece more
pub tally-push : (q : FlatTerm) (ts : List FlatTerm) (ns : List ℕ) (t : FlatTerm) (n : ℕ) → length ns ≡ length ts → tally q (ts ++ t ∷ []) (ns ++ n ∷ []) ≡ tally q ts ns + times (same_flat q t) n
tally-push q [] [] t n e = omega arith
tally-push q [] (m ∷ ns) t n e = absurd (omega arith)
tally-push q (u ∷ ts) [] t n e = absurd (omega arith)
tally-push q (u ∷ ts) (m ∷ ns) t n e = let k = tally-push q ts ns t n (omega arith) in omega arith

-- the first of what is left of pieces and numbers
pub tally-drop : (q : FlatTerm) (ts : List FlatTerm) (ns : List ℕ) (i : ℕ) (d : FlatTerm) → i < length ts → i < length ns →
    tally q (drop i ts) (drop i ns) ≡ times (same_flat q (get_or ts i d)) (get_or ns i 0) + tally q (drop (i + 1) ts) (drop (i + 1) ns)
tally-drop q ts ns i d h k = at_drop_more (λ us. tally q us (drop i ns)) ts i d h ∙ at_drop_more (λ ms. tally q (get_or ts i d ∷ drop (i + 1) ts) ms) ns i 0 k

pub repeated-drop : (ts : List FlatTerm) (ns : List ℕ) (i : ℕ) (d : FlatTerm) → i < length ts → i < length ns →
    repeated (drop i ts) (drop i ns) ≡ replicate (get_or ns i 0) (get_or ts i d) ++ repeated (drop (i + 1) ts) (drop (i + 1) ns)
repeated-drop ts ns i d h k = at_drop_more (λ us. repeated us (drop i ns)) ts i d h ∙ at_drop_more (λ ms. repeated (get_or ts i d ∷ drop (i + 1) ts) ms) ns i 0 k

-- one piece less
pub tally_less : (q : FlatTerm) (ts : List FlatTerm) (ns : List ℕ) (i n : ℕ) (u : FlatTerm) → length ns ≡ length ts → i < length ns → u ≡ get_or ts i u → n ≡ get_or ns i n → 0 < n →
    tally q ts (set ns i (n - 1)) + (one_if (same_flat q u) + 0) ≡ tally q ts ns
tally_less q ts ns i n u e h at is some = go (same_flat q u) refl
  where
    read : n ≡ get_or ns i 0
    read = get_or_read ns i n h is 0

    changed : tally q ts (set ns i (n - 1)) + times (same_flat q u) n ≡ tally q ts ns + times (same_flat q u) (n - 1)
    changed = ap (λ m. tally q ts (set ns i (n - 1)) + m) (ap (times (same_flat q u)) read ∙ ap (λ v. times (same_flat q v) (get_or ns i 0)) at) ∙ tally-set q ts ns i (n - 1) u e h ∙ ap (λ v. tally q ts ns + times (same_flat q v) (n - 1)) (sym at)

    go : (b : Bool) → same_flat q u ≡ b → tally q ts (set ns i (n - 1)) + (one_if (same_flat q u) + 0) ≡ tally q ts ns
    go true p = let a : tally q ts (set ns i (n - 1)) + n ≡ tally q ts ns + (n - 1) = rw p at changed in rw p (omega arith)
    go false p = let a : tally q ts (set ns i (n - 1)) + 0 ≡ tally q ts ns + 0 = rw p at changed in rw p (omega arith)

-- where the piece is another one or none of it is left, the tally is that of the other pieces
pub tally_passed : (u : FlatTerm) (ts : List FlatTerm) (ns : List ℕ) (i n : ℕ) (t : FlatTerm) → i < length ts → i < length ns → t ≡ get_or ts i t → n ≡ get_or ns i n → ((t ≡ u) × (0 < n) → ⊥) →
    tally u (drop i ts) (drop i ns) ≡ tally u (drop (i + 1) ts) (drop (i + 1) ns)
tally_passed u ts ns i n t h j at is none =
    tally-drop u ts ns i t h j
    ∙ ap (λ m. m + tally u (drop (i + 1) ts) (drop (i + 1) ns)) (ap (λ v. times (same_flat u v) (get_or ns i 0)) (sym at) ∙ ap (times (same_flat u t)) (sym (get_or_read ns i n j is 0)) ∙ nothing (same_flat u t) refl n none)
    ∙ (let a : 0 + tally u (drop (i + 1) ts) (drop (i + 1) ns) ≡ tally u (drop (i + 1) ts) (drop (i + 1) ns) = omega arith in a)
  where
    nothing : (b : Bool) → same_flat u t ≡ b → (m : ℕ) → ((t ≡ u) × (0 < m) → ⊥) → times b m ≡ 0
    nothing true p zero never = refl
    nothing true p (suc m) never = absurd (never (sym (same_flat_is u t p), omega arith))
    nothing false p m never = refl

pub tally_past : (q : FlatTerm) (ts : List FlatTerm) (ns : List ℕ) (i : ℕ) → length ts ≤ i → tally q (drop i ts) (drop i ns) ≡ 0
tally_past q ts ns i h = ap (λ l. tally q l (drop i ns)) (nil_from_length (drop i ts) (let a = length-drop i ts in omega arith))

-- counts of the front of a list
pub count_take_more : (q : FlatTerm) (us : List FlatTerm) (i : ℕ) (u : FlatTerm) → i < length us → u ≡ get_or us i u → count q (take (i + 1) us) ≡ count q (take i us) + (one_if (same_flat q u) + 0)
count_take_more q us i u h at = ap (count q) (take_more us i u h) ∙ count_append q (take i us) (get_or us i u ∷ []) ∙ ap (λ v. count q (take i us) + (one_if (same_flat q v) + 0)) (sym at)

pub count_take_le : (q : FlatTerm) (us : List FlatTerm) (i : ℕ) → count q (take i us) ≤ count q us
count_take_le q us i = let a = ap (count q) (take-append-drop i us) in let b = count_append q (take i us) (drop i us) in omega arith

-- what holds of each piece holds of each repeated
each_replicate : (P : FlatTerm → Type 0) (n : ℕ) (t : FlatTerm) (l : List FlatTerm) → P t → AllByRecursion P l → AllByRecursion P (replicate n t ++ l)
each_replicate P zero t l a h = h
each_replicate P (suc n) t l a h = (a, each_replicate P n t l a h)

pub each_repeated : (P : FlatTerm → Type 0) (ts : List FlatTerm) (ns : List ℕ) → AllByRecursion P ts → AllByRecursion P (repeated ts ns)
each_repeated P [] ns h = tt
each_repeated P (t ∷ ts) [] h = tt
each_repeated P (t ∷ ts) (n ∷ ns) h = each_replicate P n t (repeated ts ns) h.0 (each_repeated P ts ns h.1)
