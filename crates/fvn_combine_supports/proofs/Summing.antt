-- A solution is a sum of the minimal ones at or below it, each taken so many times, and one of these has each column that it has.
use Rattle.std.proofs.Common.{◌≡◌, ℕ, zero, suc, ◌+◌, ◌-◌, ◌*◌, ◌<◌, ◌≤◌, ◌⊎◌, List, [], ◌∷◌, length, map, replicate, get_or, sum, refl, sym, ap, ◌∙◌, subst, inl, inr, arith, Contains}
use Rattle.std.specs.Prelude.{ℤ}
use Rattle.std.proofs.lemmas.Bool.{cases_lt}
use Rattle.std.proofs.lemmas.List.{length-map, length-replicate}
use Rattle.std.proofs.lemmas.List.Sums.{sum_by-cons}
use Rattle.std.proofs.lemmas.List.Elements.{All-head, All-tail, All-weaker, All-contains_itself}
use Rattle.fvn_lindio.specs.Vectors.{IsAtOrBelow, add}
use Rattle.fvn_lindio.specs.Systems.{Solves, IsMinimal}
use Rattle.fvn_lindio.specs.Laws.{combination, MinimalBelow}
use Rattle.fvn_combine_supports.specs.Laws.{MinimalHasColumn}
use Rattle.fvn_combine_supports.proofs.Combining.{Sized, get_or-add, up-add, down-add, length-combination, combination-nothing}

zeroes_from_sum : (x : List ℕ) → sum x ≡ 0 → replicate (length x) 0 ≡ x
zeroes_from_sum [] h = refl
zeroes_from_sum (a ∷ x) h =
    let s = sum_by-cons (λ (b : ℕ). b) a x in
    let e : 0 ≡ a = omega (arith, h, s) in
    let r : replicate (length x) 0 ≡ x = zeroes_from_sum x (omega (arith, h, s)) in
    cc

sum-add : (x y : List ℕ) → length x ≡ length y → sum (add x y) ≡ sum x + sum y
sum-add [] [] h = refl
sum-add [] (b ∷ y) h = absurd (omega (arith, h))
sum-add (a ∷ x) [] h = absurd (omega (arith, h))
sum-add (a ∷ x) (b ∷ y) h =
    let r = sum-add x y (omega (arith, h)) in
    let p = sum_by-cons (λ (c : ℕ). c) (a + b) (add x y) in
    let q = sum_by-cons (λ (c : ℕ). c) a x in
    let t = sum_by-cons (λ (c : ℕ). c) b y in
    omega (arith, r, p, q, t)

-- what is missing from x to y
difference : (x y : List ℕ) → IsAtOrBelow x y → (d : List ℕ) × (length x ≡ length d) × (add x d ≡ y)
difference [] [] h = ([], refl, refl)
difference [] (b ∷ y) h = absurd h
difference (a ∷ x) [] h = absurd h
difference (a ∷ x) (b ∷ y) h =
    let r = difference x y h.1 in
    let l = h.0 in
    let e : a + (b - a) ≡ b = omega (arith, l) in
    let t : add x r.0 ≡ y = r.2 in
    ((b - a) ∷ r.0, ap suc r.1, cc)

-- what is below a vector is below its sum with another one
below_sum : (v m d : List ℕ) → length m ≡ length d → IsAtOrBelow v d → IsAtOrBelow v (add m d)
below_sum [] [] [] e h = tt
below_sum [] (a ∷ m) [] e h = absurd (omega (arith, e))
below_sum [] m (c ∷ d) e h = absurd h
below_sum (b ∷ v) m [] e h = absurd h
below_sum (b ∷ v) [] (c ∷ d) e h = absurd (omega (arith, e))
below_sum (b ∷ v) (a ∷ m) (c ∷ d) e h = (let l = h.0 in omega (arith, l), below_sum v m d (omega (arith, e)) h.1)

add_once : (n : ℕ) (v c : List ℕ) → length v ≡ length c → add (map (λ a. (n + 1) * a) v) c ≡ add v (add (map (λ a. n * a) v) c)
add_once n [] c h = refl
add_once n (a ∷ v) [] h = absurd (omega (arith, h))
add_once n (a ∷ v) (b ∷ c) h =
    let e : (n + 1) * a + b ≡ a + (n * a + b) = omega arith in
    let r = add_once n v c (omega (arith, h)) in
    cc

add_swap : (u w r : List ℕ) → length u ≡ length w → add u (add w r) ≡ add w (add u r)
add_swap [] [] r h = refl
add_swap [] (b ∷ w) r h = absurd (omega (arith, h))
add_swap (a ∷ u) [] r h = absurd (omega (arith, h))
add_swap (a ∷ u) (b ∷ w) [] h = refl
add_swap (a ∷ u) (b ∷ w) (c ∷ r) h =
    let e : a + (b + c) ≡ b + (a + c) = omega arith in
    let k = add_swap u w r (omega (arith, h)) in
    cc

-- one more at place k
abbrev bump : ℕ → List ℕ → List ℕ
bump k [] = []
bump zero (n ∷ times) = (n + 1) ∷ times
bump (suc k) (n ∷ times) = n ∷ bump k times

length-bump : (k : ℕ) (times : List ℕ) → length (bump k times) ≡ length times
length-bump k [] = refl
length-bump zero (n ∷ times) = refl
length-bump (suc k) (n ∷ times) = ap suc (length-bump k times)

combination-bump : (columns : ℕ) (times : List ℕ) (list : List (List ℕ)) (k : ℕ) (d : List ℕ) → Sized columns list → length times ≡ length list → k < length list → combination columns (bump k times) list ≡ add (get_or list k d) (combination columns times list)
combination-bump columns [] [] k d h e l = absurd (omega (arith, l))
combination-bump columns [] (v ∷ list) k d h e l = absurd (omega (arith, e))
combination-bump columns (n ∷ times) [] k d h e l = absurd (omega (arith, e))
combination-bump columns (n ∷ times) (v ∷ list) zero d h e l =
    let P = λ (v : List ℕ). length v ≡ columns in
    let r = length-combination columns times list (All-tail P v list h) in
    add_once n v (combination columns times list) (All-head P v list h ∙ sym r)
combination-bump columns (n ∷ times) (v ∷ list) (suc k) d h e l =
    let P = λ (v : List ℕ). length v ≡ columns in
    let s : Sized columns list = All-tail P v list h in
    let b : k < length list = omega (arith, l) in
    let r = combination-bump columns times list k d s (omega (arith, e)) b in
    let z : length (map (λ a. n * a) v) ≡ columns = length-map v (λ a. n * a) ∙ All-head P v list h in
    let w : columns ≡ length (get_or list k d) = sym (s k d b) in
    ap (λ c. add (map (λ a. n * a) v) c) r ∙ add_swap (map (λ a. n * a) v) (get_or list k d) (combination columns times list) (z ∙ w)

module _ (columns : ℕ) (rows : List (List ℤ)) where
  -- what is left of a solution without another one solves too
  rest_solves : (m d : List ℕ) → length m ≡ length d → Solves columns rows m → Solves columns rows (add m d) → Solves columns rows d
  rest_solves m d e h k = record {
    sized = sym e ∙ h.sized;
    zero_rows = λ i o l.
        let row = get_or rows i o in
        let u = up-add row m d e in
        let w = down-add row m d e in
        let a = h.zero_rows i o l in
        let b = k.zero_rows i o l in
        omega (arith, u, w, a, b);
    unused = λ j u.
        let g = get_or-add m d e j in
        let b = k.unused j u in
        omega (arith, g, b);
  }

module _ (below : MinimalBelow) (columns : ℕ) (rows : List (List ℤ)) (list : List (List ℕ)) (minimal : (v : List ℕ) → Contains list v → IsMinimal columns rows v) where
  abbrev Sum : List ℕ → Type 0
  Sum x = (times : List ℕ) × (length times ≡ length list) × (combination columns times list ≡ x)

  -- the minimal solutions at or below x are listed
  abbrev AreListed : List ℕ → Type 0
  AreListed x = (v : List ℕ) → IsMinimal columns rows v → IsAtOrBelow v x → Contains list v

  sized : Sized columns list
  sized = All-weaker (Contains list) (λ v. length v ≡ columns) (λ v c. (minimal v c).solves.sized) list (All-contains_itself list)

  sum_of_none : (x : List ℕ) → length x ≡ columns → sum x ≡ 0 → Sum x
  sum_of_none x e z = (
    replicate (length list) 0,
    length-replicate (length list) 0,
    combination-nothing columns (length list) list sized ∙ subst (λ n. replicate n 0 ≡ x) e (zeroes_from_sum x z),
  )

  sum_more : (m x : List ℕ) → Solves columns rows x → AreListed x → IsMinimal columns rows m → IsAtOrBelow m x → ((y : List ℕ) → sum y < sum x → Solves columns rows y → AreListed y → Sum y) → Sum x
  sum_more m x h listed p under further =
      let d = difference m x under in
      let e : add m d.0 ≡ x = d.2 in
      let s : Solves columns rows d.0 = rest_solves columns rows m d.0 d.1 p.solves (subst (Solves columns rows) (sym e) h) in
      let total : sum m + sum d.0 ≡ sum x = sym (sum-add m d.0 d.1) ∙ ap sum e in
      let some = p.nonzero in
      let r = further d.0 (omega (arith, total, some)) s (λ v q b. listed v q (subst (IsAtOrBelow v) e (below_sum v m d.0 d.1 b))) in
      let at = listed m p under in
      (bump at.0 r.0, length-bump at.0 r.0 ∙ r.1, combination-bump columns r.0 list at.0 m sized r.1 at.1 ∙ (ap (λ v. add v (combination columns r.0 list)) at.2 ∙ (ap (add m) r.2 ∙ e)))

  sum_up_to : (n : ℕ) (x : List ℕ) → sum x ≤ n → Solves columns rows x → AreListed x → Sum x
  sum_up_to zero x b h listed = sum_of_none x h.sized (omega (arith, b))
  sum_up_to (suc n) x b h listed = go (cases_lt 0 (sum x)) (sum_up_to n)
    where
      go : (0 < sum x) ⊎ (sum x ≤ 0) → ((y : List ℕ) → sum y ≤ n → Solves columns rows y → AreListed y → Sum y) → Sum x
      go (inr z) further = sum_of_none x h.sized (omega (arith, z))
      go (inl p) further =
          let m = below columns rows x h p in
          sum_more m.0 x h listed m.1 m.2 (λ y l s among. further y (omega (arith, l, b)) s among)

  pub sum_of_listed : (x : List ℕ) → Solves columns rows x → AreListed x → Sum x
  sum_of_listed x h listed = sum_up_to (sum x) x (omega arith) h listed

at_most_sum : (x : List ℕ) (j : ℕ) → get_or x j 0 ≤ sum x
at_most_sum [] j = omega arith
at_most_sum (a ∷ x) zero = let s = sum_by-cons (λ (b : ℕ). b) a x in omega (arith, s)
at_most_sum (a ∷ x) (suc j) = let s = sum_by-cons (λ (b : ℕ). b) a x in let r = at_most_sum x j in omega (arith, s, r)

module _ (below : MinimalBelow) (columns : ℕ) (rows : List (List ℤ)) (j : ℕ) where
  -- a minimal solution at or below x that has column j
  abbrev HasMinimal : List ℕ → Type 0
  HasMinimal x = (v : List ℕ) × IsMinimal columns rows v × IsAtOrBelow v x × (0 < get_or v j 0)

  -- where a minimal solution below x does not have the column, what is left of x has it
  left_has : (m x : List ℕ) → Solves columns rows x → 0 < get_or x j 0 → IsMinimal columns rows m → IsAtOrBelow m x → get_or m j 0 ≤ 0 → ((y : List ℕ) → sum y < sum x → Solves columns rows y → 0 < get_or y j 0 → HasMinimal y) → HasMinimal x
  left_has m x h p least under none further =
      let d = difference m x under in
      let e : add m d.0 ≡ x = d.2 in
      let s : Solves columns rows d.0 = rest_solves columns rows m d.0 d.1 least.solves (subst (Solves columns rows) (sym e) h) in
      let total : sum m + sum d.0 ≡ sum x = sym (sum-add m d.0 d.1) ∙ ap sum e in
      let some = least.nonzero in
      let at = get_or-add m d.0 d.1 j in
      let same = ap (λ y. get_or y j 0) e in
      let r = further d.0 (omega (arith, total, some)) s (omega (arith, at, same, p, none)) in
      (r.0, r.1, subst (IsAtOrBelow r.0) e (below_sum r.0 m d.0 d.1 r.2), r.3)

  has_minimal : (n : ℕ) (x : List ℕ) → sum x ≤ n → Solves columns rows x → 0 < get_or x j 0 → HasMinimal x
  has_minimal zero x b h p = absurd (let a = at_most_sum x j in omega (arith, a, b, p))
  has_minimal (suc n) x b h p = go (has_minimal n)
    where
      go : ((y : List ℕ) → sum y ≤ n → Solves columns rows y → 0 < get_or y j 0 → HasMinimal y) → HasMinimal x
      go further =
          let m = below columns rows x h (let a = at_most_sum x j in omega (arith, a, p)) in
          elim (cases_lt 0 (get_or m.0 j 0)) [
            | inl some ↦ (m.0, m.1, m.2, some)
            | inr none ↦ left_has m.0 x h p m.1 m.2 none (λ y l s q. further y (omega (arith, l, b)) s q)
          ]

pub minimal_has_column : MinimalBelow → MinimalHasColumn
minimal_has_column below columns rows x h j p = has_minimal below columns rows j (sum x) x (omega arith) h p
