-- Vectors, each so many times, all together.
use Rattle.std.proofs.Common.{◌≡◌, ℕ, zero, suc, ◌+◌, ◌*◌, List, [], ◌∷◌, length, map, replicate, get_or, refl, sym, ap, ◌∙◌, arith, All}
use Rattle.std.specs.Prelude.{ℤ}
use Rattle.std.proofs.lemmas.List.{length-map, length-replicate}
use Rattle.std.proofs.lemmas.List.Elements.{All-head, All-tail}
use Rattle.fvn_lindio.specs.Vectors.{add}
use Rattle.fvn_lindio.specs.Systems.{above, below, up, down, Solves}
use Rattle.fvn_lindio.specs.Laws.{combination}

pub length-add : (x y : List ℕ) → length x ≡ length y → length (add x y) ≡ length y
length-add [] [] e = refl
length-add [] (b ∷ y) e = absurd (omega (arith, e))
length-add (a ∷ x) [] e = absurd (omega (arith, e))
length-add (a ∷ x) (b ∷ y) e = ap suc (length-add x y (omega (arith, e)))

pub get_or-add : (x y : List ℕ) → length x ≡ length y → (j : ℕ) → get_or (add x y) j 0 ≡ get_or x j 0 + get_or y j 0
get_or-add [] [] e j = refl
get_or-add [] (b ∷ y) e j = absurd (omega (arith, e))
get_or-add (a ∷ x) [] e j = absurd (omega (arith, e))
get_or-add (a ∷ x) (b ∷ y) e zero = refl
get_or-add (a ∷ x) (b ∷ y) e (suc j) = get_or-add x y (omega (arith, e)) j

get_or-times : (n : ℕ) (v : List ℕ) (j : ℕ) → get_or (map (λ a. n * a) v) j 0 ≡ n * get_or v j 0
get_or-times n [] j = omega arith
get_or-times n (a ∷ v) zero = refl
get_or-times n (a ∷ v) (suc j) = get_or-times n v j

abbrev pub Sized : ℕ → List (List ℕ) → Type 0
Sized columns list = All (λ v. length v ≡ columns) list

pub length-combination : (columns : ℕ) (times : List ℕ) (list : List (List ℕ)) → Sized columns list → length (combination columns times list) ≡ columns
length-combination columns [] list h = length-replicate columns 0
length-combination columns (n ∷ times) [] h = length-replicate columns 0
length-combination columns (n ∷ times) (v ∷ list) h =
    let P = λ (v : List ℕ). length v ≡ columns in
    let rest = length-combination columns times list (All-tail P v list h) in
    let one = length-map v (λ a. n * a) in
    let sized = All-head P v list h in
    length-add (map (λ a. n * a) v) (combination columns times list) (omega (arith, rest, one, sized)) ∙ rest

-- what the vectors have in column j, each so many times
abbrev pub weight : List ℕ → List (List ℕ) → ℕ → ℕ
weight [] list j = 0
weight (n ∷ times) [] j = 0
weight (n ∷ times) (v ∷ list) j = n * get_or v j 0 + weight times list j

zeroes : (columns j : ℕ) → get_or {A = ℕ} (replicate columns 0) j 0 ≡ 0
zeroes zero j = refl
zeroes (suc columns) zero = refl
zeroes (suc columns) (suc j) = zeroes columns j

pub get_or-combination : (columns : ℕ) (times : List ℕ) (list : List (List ℕ)) → Sized columns list → (j : ℕ) → get_or (combination columns times list) j 0 ≡ weight times list j
get_or-combination columns [] list h j = zeroes columns j
get_or-combination columns (n ∷ times) [] h j = zeroes columns j
get_or-combination columns (n ∷ times) (v ∷ list) h j =
    let P = λ (v : List ℕ). length v ≡ columns in
    let tail = All-tail P v list h in
    let size = length-combination columns times list tail in
    let one = length-map v (λ a. n * a) in
    let sized = All-head P v list h in
    let sum = get_or-add (map (λ a. n * a) v) (combination columns times list) (omega (arith, size, one, sized)) j in
    let first = get_or-times n v j in
    let rest = get_or-combination columns times list tail j in
    omega (arith, sum, first, rest)

add_nothing : (v y : List ℕ) → length v ≡ length y → add (map (λ a. 0 * a) v) y ≡ y
add_nothing [] [] e = refl
add_nothing [] (b ∷ y) e = absurd (omega (arith, e))
add_nothing (a ∷ v) [] e = absurd (omega (arith, e))
add_nothing (a ∷ v) (b ∷ y) e = ap (λ ys. (0 * a + b) ∷ ys) (add_nothing v y (omega (arith, e))) ∙ ap (λ n. n ∷ y) (let z : 0 * a + b ≡ b = omega arith in z)

-- a vector that is taken no times
pub combination-none : (columns : ℕ) (times : List ℕ) (v : List ℕ) (list : List (List ℕ)) → length v ≡ columns → Sized columns list → combination columns (0 ∷ times) (v ∷ list) ≡ combination columns times list
combination-none columns times v list e h = let size = length-combination columns times list h in add_nothing v (combination columns times list) (omega (arith, e, size))

-- none of the vectors
pub combination-nothing : (columns n : ℕ) (list : List (List ℕ)) → Sized columns list → combination columns (replicate n 0) list ≡ replicate columns 0
combination-nothing columns zero list h = refl
combination-nothing columns (suc n) [] h = refl
combination-nothing columns (suc n) (v ∷ list) h =
    let P = λ (v : List ℕ). length v ≡ columns in
    let tail = All-tail P v list h in
    combination-none columns (replicate n 0) v list (All-head P v list h) tail ∙ combination-nothing columns n list tail

-- rows at sums of vectors
side-add : (f : ℤ → ℕ) (side : List ℤ → List ℕ → ℕ) → ((x : List ℕ) → side [] x ≡ 0) → ((c : ℤ) (row : List ℤ) → side (c ∷ row) [] ≡ 0) → ((c : ℤ) (row : List ℤ) (a : ℕ) (x : List ℕ) → side (c ∷ row) (a ∷ x) ≡ f c * a + side row x) →
    (row : List ℤ) (x y : List ℕ) → length x ≡ length y → side row (add x y) ≡ side row x + side row y
side-add f side none short more [] x y e = let a = none (add x y) in let b = none x in let c = none y in omega (arith, a, b, c)
side-add f side none short more (c ∷ row) [] [] e = let a = short c row in omega (arith, a)
side-add f side none short more (c ∷ row) [] (b ∷ y) e = absurd (omega (arith, e))
side-add f side none short more (c ∷ row) (a ∷ x) [] e = absurd (omega (arith, e))
side-add f side none short more (c ∷ row) (a ∷ x) (b ∷ y) e =
    let rest = side-add f side none short more row x y (omega (arith, e)) in
    let p = more c row (a + b) (add x y) in
    let q = more c row a x in
    let r = more c row b y in
    omega (arith, rest, p, q, r)

pub up-add : (row : List ℤ) (x y : List ℕ) → length x ≡ length y → up row (add x y) ≡ up row x + up row y
up-add = side-add above up (λ x. refl) (λ c row. refl) (λ c row a x. refl)

pub down-add : (row : List ℤ) (x y : List ℕ) → length x ≡ length y → down row (add x y) ≡ down row x + down row y
down-add = side-add below down (λ x. refl) (λ c row. refl) (λ c row a x. refl)

side-times : (f : ℤ → ℕ) (side : List ℤ → List ℕ → ℕ) → ((x : List ℕ) → side [] x ≡ 0) → ((c : ℤ) (row : List ℤ) → side (c ∷ row) [] ≡ 0) → ((c : ℤ) (row : List ℤ) (a : ℕ) (x : List ℕ) → side (c ∷ row) (a ∷ x) ≡ f c * a + side row x) →
    (n : ℕ) (row : List ℤ) (x : List ℕ) → side row (map (λ a. n * a) x) ≡ n * side row x
side-times f side none short more n [] x = let a = none (map (λ a. n * a) x) in let b = none x in omega (arith, a, ap (λ k. n * k) b)
side-times f side none short more n (c ∷ row) [] = let a = short c row in omega (arith, a, ap (λ k. n * k) a)
side-times f side none short more n (c ∷ row) (a ∷ x) =
    let rest = side-times f side none short more n row x in
    let p = more c row (n * a) (map (λ a. n * a) x) in
    let q = ap (λ k. n * k) (more c row a x) in
    omega (arith, rest, p, q)

up-times : (n : ℕ) (row : List ℤ) (x : List ℕ) → up row (map (λ a. n * a) x) ≡ n * up row x
up-times = side-times above up (λ x. refl) (λ c row. refl) (λ c row a x. refl)

down-times : (n : ℕ) (row : List ℤ) (x : List ℕ) → down row (map (λ a. n * a) x) ≡ n * down row x
down-times = side-times below down (λ x. refl) (λ c row. refl) (λ c row a x. refl)

zero_nothing : (row : List ℤ) (n : ℕ) → (up row (replicate n 0) ≡ 0) × (down row (replicate n 0) ≡ 0)
zero_nothing [] n = (refl, refl)
zero_nothing (c ∷ row) zero = (refl, refl)
zero_nothing (c ∷ row) (suc n) = let r = zero_nothing row n in (omega (arith, r.0), omega (arith, r.1))

module _ (columns : ℕ) (rows : List (List ℤ)) where
  nothing_solves : Solves columns rows (replicate columns 0)
  nothing_solves = record {
    sized = length-replicate columns 0;
    zero_rows = λ k e l. let z = zero_nothing (get_or rows k e) columns in z.0 ∙ sym z.1;
    unused = λ j u. zeroes columns j;
  }

  pub combination_solves : (times : List ℕ) (list : List (List ℕ)) → All (Solves columns rows) list → Solves columns rows (combination columns times list)
  combination_solves [] list h = nothing_solves
  combination_solves (n ∷ times) [] h = nothing_solves
  combination_solves (n ∷ times) (v ∷ list) h =
      let first = All-head (Solves columns rows) v list h in
      let rest = combination_solves times list (All-tail (Solves columns rows) v list h) in
      let one = length-map v (λ a. n * a) in
      let same : length (map (λ a. n * a) v) ≡ length (combination columns times list) = let a = first.sized in let b = rest.sized in omega (arith, one, a, b) in
      record {
        sized = length-add (map (λ a. n * a) v) (combination columns times list) same ∙ rest.sized;
        zero_rows = λ k e l.
            let row = get_or rows k e in
            let u = up-add row (map (λ a. n * a) v) (combination columns times list) same in
            let w = down-add row (map (λ a. n * a) v) (combination columns times list) same in
            let p = up-times n row v in
            let q = down-times n row v in
            let a = ap (λ k. n * k) (first.zero_rows k e l) in
            let b = rest.zero_rows k e l in
            omega (arith, u, w, p, q, a, b);
        unused = λ j u.
            let g = get_or-add (map (λ a. n * a) v) (combination columns times list) same j in
            let t = get_or-times n v j in
            let a = ap (λ k. n * k) (first.unused j u) in
            let b = rest.unused j u in
            omega (arith, g, t, a, b);
      }
