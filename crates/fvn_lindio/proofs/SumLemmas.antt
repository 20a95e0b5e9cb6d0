-- Every solution is a sum of minimal ones.
use Rattle.std.proofs.Common.{◌≡◌, ℕ, zero, suc, ◌+◌, ◌*◌, ◌<◌, ◌≤◌, ◌⊎◌, ◌↔◌, ℤ, List, [], ◌∷◌, length, get_or, sum, map, replicate, refl, sym, ap, ◌∙◌, subst, inl, inr, arith}
use Rattle.std.specs.List.{All, Contains}
use Rattle.std.proofs.lemmas.List.{length-map, length-replicate}
use Rattle.std.proofs.lemmas.List.Elements.{All-tail, All-head, Contains-get_or}
use Rattle.std.proofs.lemmas.Bool.{cases_lt}
use Rattle.fvn_lindio.specs.Vectors.{IsAtOrBelow, add}
use Rattle.fvn_lindio.specs.Systems.{Solves, IsMinimal}
use Rattle.fvn_lindio.specs.inner.Search.{Lies}
use Rattle.fvn_lindio.specs.Laws.{combination, SumOfMinimal}
use Rattle.fvn_lindio.proofs.VectorLemmas.{sum-cons, length-add, sum-add, difference}
use Rattle.fvn_lindio.proofs.Solving.{minimal_below, Lies-rest, Lies-from_solves, Solves-from_lies}

zeros_from_sum : (x : List ℕ) → sum x ≡ 0 → replicate (length x) 0 ≡ x
zeros_from_sum [] h = refl
zeros_from_sum (a ∷ x) h =
    let e : 0 ≡ a = omega (arith, sum-cons a x) in
    let r : replicate (length x) 0 ≡ x = zeros_from_sum x (omega (arith, sum-cons a x)) in
    cc

add_none : (v : List ℕ) → add (map (λ a. 0 * a) v) (replicate (length v) 0) ≡ replicate (length v) 0
add_none [] = refl
add_none (a ∷ v) =
    let e : 0 * a + 0 ≡ 0 = omega arith in
    let r = add_none v in
    cc

add_once : (n : ℕ) (v c : List ℕ) → length v ≡ length c → add (map (λ a. (n + 1) * a) v) c ≡ add v (add (map (λ a. n * a) v) c)
add_once n [] c h = refl
add_once n (a ∷ v) [] h = absurd (omega arith)
add_once n (a ∷ v) (b ∷ c) h =
    let e : (n + 1) * a + b ≡ a + (n * a + b) = omega arith in
    let l : length v ≡ length c = omega arith in
    let r = add_once n v c l in
    cc

add_swap : (u w r : List ℕ) → length u ≡ length w → add u (add w r) ≡ add w (add u r)
add_swap [] [] r h = refl
add_swap [] (b ∷ w) r h = absurd (omega arith)
add_swap (a ∷ u) [] r h = absurd (omega arith)
add_swap (a ∷ u) (b ∷ w) [] h = refl
add_swap (a ∷ u) (b ∷ w) (c ∷ r) h =
    let e : a + (b + c) ≡ b + (a + c) = omega arith in
    let l : length u ≡ length w = omega arith in
    let k = add_swap u w r l in
    cc

-- one more at place k
abbrev bump : ℕ → List ℕ → List ℕ
bump k [] = []
bump zero (n ∷ times) = (n + 1) ∷ times
bump (suc k) (n ∷ times) = n ∷ bump k times

length-bump : (k : ℕ) (times : List ℕ) → length (bump k times) ≡ length times
length-bump k [] = refl
length-bump zero (n ∷ times) = refl
length-bump (suc k) (n ∷ times) = ap suc (length-bump k times)

module _ (columns : ℕ) where
  abbrev Sized : List (List ℕ) → Type 0
  Sized list = All (λ v. length v ≡ columns) list

  length-combination : (times : List ℕ) (list : List (List ℕ)) → Sized list → length (combination columns times list) ≡ columns
  length-combination [] list h = length-replicate columns 0
  length-combination (n ∷ times) [] h = length-replicate columns 0
  length-combination (n ∷ times) (v ∷ list) h =
      let r : length (combination columns times list) ≡ columns = length-combination times list (All-tail (λ w. length w ≡ columns) v list h) in
      let l : length (map (λ a. n * a) v) ≡ columns = length-map v (λ a. n * a) ∙ All-head (λ w. length w ≡ columns) v list h in
      length-add (map (λ a. n * a) v) (combination columns times list) (l ∙ sym r) ∙ l

  combination-none : (list : List (List ℕ)) → Sized list → combination columns (replicate (length list) 0) list ≡ replicate columns 0
  combination-none [] h = refl
  combination-none (v ∷ list) h =
      let r : combination columns (replicate (length list) 0) list ≡ replicate columns 0 = combination-none list (All-tail (λ w. length w ≡ columns) v list h) in
      let l : length v ≡ columns = All-head (λ w. length w ≡ columns) v list h in
      let e : add (map (λ a. 0 * a) v) (replicate columns 0) ≡ replicate columns 0 = subst (λ n. add (map (λ a. 0 * a) v) (replicate n 0) ≡ replicate n 0) l (add_none v) in
      ap (λ c. add (map (λ a. 0 * a) v) c) r ∙ e

  combination-bump : (times : List ℕ) (list : List (List ℕ)) (k : ℕ) (d : List ℕ) → Sized list → length times ≡ length list → k < length list → combination columns (bump k times) list ≡ add (get_or list k d) (combination columns times list)
  combination-bump [] [] k d h e l = absurd (omega arith)
  combination-bump [] (v ∷ list) k d h e l = absurd (omega arith)
  combination-bump (n ∷ times) [] k d h e l = absurd (omega arith)
  combination-bump (n ∷ times) (v ∷ list) zero d h e l =
      let r : length (combination columns times list) ≡ columns = length-combination times list (All-tail (λ w. length w ≡ columns) v list h) in
      add_once n v (combination columns times list) (All-head (λ w. length w ≡ columns) v list h ∙ sym r)
  combination-bump (n ∷ times) (v ∷ list) (suc k) d h e l =
      let f : length times ≡ length list = omega arith in
      let s : Sized list = All-tail (λ w. length w ≡ columns) v list h in
      let b : k < length list = omega arith in
      let r = combination-bump times list k d s f b in
      let z : length (map (λ a. n * a) v) ≡ columns = length-map v (λ a. n * a) ∙ All-head (λ w. length w ≡ columns) v list h in
      let w : columns ≡ length (get_or list k d) = sym (s k d b) in
      ap (λ c. add (map (λ a. n * a) v) c) r ∙ add_swap (map (λ a. n * a) v) (get_or list k d) (combination columns times list) (z ∙ w)

  module _ (rows : List (List ℤ)) (list : List (List ℕ)) (exact : (v : List ℕ) → Contains list v ↔ IsMinimal columns rows v) where
    abbrev Sum : List ℕ → Type 0
    Sum x = (times : List ℕ) × (length times ≡ length list) × (combination columns times list ≡ x)

    sized : Sized list
    sized k d l = ((exact (get_or list k d)).0 (Contains-get_or list k d l)).solves.sized

    sum_of_none : (x : List ℕ) → length x ≡ columns → sum x ≡ 0 → Sum x
    sum_of_none x e z =
        (replicate (length list) 0, length-replicate (length list) 0, combination-none list sized ∙ subst (λ n. replicate n 0 ≡ x) e (zeros_from_sum x z))

    sum_more : (m x : List ℕ) → Solves columns rows x → IsMinimal columns rows m → IsAtOrBelow m x → ((y : List ℕ) → sum y < sum x → Solves columns rows y → Sum y) → Sum x
    sum_more m x h p b further =
        let d = difference m x b in
        let e : add m d.0 ≡ x = d.2 in
        let s : Solves columns rows d.0 = Solves-from_lies (Lies-rest m d.0 d.1 (Lies-from_solves p.solves) (subst (λ z. Lies columns rows rows z) (sym e) (Lies-from_solves h))) in
        let total : sum m + sum d.0 ≡ sum x = sym (sum-add m d.0 d.1) ∙ ap sum e in
        let r = further d.0 (omega (arith, total, p.nonzero)) s in
        let at = (exact m).1 p in
        (bump at.0 r.0, length-bump at.0 r.0 ∙ r.1, combination-bump r.0 list at.0 m sized r.1 at.1 ∙ (ap (λ v. add v (combination columns r.0 list)) at.2 ∙ (ap (add m) r.2 ∙ e)))

    pub sum_of_minimal : (n : ℕ) (x : List ℕ) → sum x ≤ n → Solves columns rows x → Sum x
    sum_of_minimal zero x b h = sum_of_none x h.sized (omega arith)
    sum_of_minimal (suc n) x b h = go (cases_lt 0 (sum x)) (sum_of_minimal n)
      where
        go : (0 < sum x) ⊎ (sum x ≤ 0) → ((y : List ℕ) → sum y ≤ n → Solves columns rows y → Sum y) → Sum x
        go (inr z) further = sum_of_none x h.sized (omega arith)
        go (inl p) further =
            let m = minimal_below columns rows (sum x) x (omega arith) h p in
            sum_more m.0 x h m.1 m.2 (λ y l s. further y (omega (arith, l, b)) s)

pub sum_of_minimal_each : SumOfMinimal
sum_of_minimal_each columns rows list exact x h = sum_of_minimal columns rows list exact (sum x) x (omega arith) h
