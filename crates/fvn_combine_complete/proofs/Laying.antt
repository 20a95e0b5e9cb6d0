-- Pieces that are laid out in a column.
use Rattle.std.proofs.Common.{◌≡◌, ℕ, zero, suc, ◌+◌, ◌*◌, ◌<◌, ◌≤◌, true, List, [], ◌∷◌, length, map, get_or, refl, sym, ap, ◌∙◌, arith}
use Rattle.std.proofs.lemmas.Bool.{true≢false}
use Rattle.std.proofs.lemmas.List.{length-append}
use Rattle.std.proofs.lemmas.List.Sums.{sum_by-cons}
use Rattle.fvn_forms.specs.Flat.{FlatTerm}
use Rattle.fvn_forms.specs.InOrder.{count}
use Rattle.fvn_forms.proofs.InOrder.{count_append}
use Rattle.fvn_acunify.specs.ValidChoice.{column_sum}
use Rattle.fvn_combine_supports.specs.Pieces.{has_some, taken, AreMadeUp}
use Rattle.fvn_combine_complete.specs.LaidOut.{copies, laid_out}
use Rattle.fvn_combine_supports.proofs.Combining.{Sized, weight, get_or-combination}

count_copies : (q : FlatTerm) (n : ℕ) (z : List FlatTerm) → count q (copies n z) ≡ count q z * n
count_copies q zero z = omega arith
count_copies q (suc n) z = let a = count_append q z (copies n z) in let b = count_copies q n z in omega (arith, a, b)

count_laid : (q : FlatTerm) (j : ℕ) (zs : List (List FlatTerm)) (vs : List (List ℕ)) → count q (laid_out j zs vs) ≡ weight (map (count q) zs) vs j
count_laid q j [] vs = refl
count_laid q j (z ∷ zs) [] = refl
count_laid q j (z ∷ zs) (v ∷ vs) =
    let a = count_append q (copies (get_or v j 0) z) (laid_out j zs vs) in
    let b = count_copies q (get_or v j 0) z in
    let c = count_laid q j zs vs in
    omega (arith, a, b, c)

-- what is laid out in a column is what is counted there
pub laid_is_counted : (columns : ℕ) (basis : List (List ℕ)) → Sized columns basis → (counted : FlatTerm → List ℕ) (pieces : List (List FlatTerm)) → AreMadeUp columns basis counted pieces → (q : FlatTerm) (j : ℕ) → count q (laid_out j pieces basis) ≡ get_or (counted q) j 0
laid_is_counted columns basis sized counted pieces are q j =
    count_laid q j pieces basis ∙ sym (get_or-combination columns (map (count q) pieces) basis sized j) ∙ ap (λ l. get_or l j 0) (are.made_up q)

length_copies : (n : ℕ) (z : List FlatTerm) → length (copies n z) ≡ length z * n
length_copies zero z = omega arith
length_copies (suc n) z = let a = length-append z (copies n z) in let b = length_copies n z in omega (arith, a, b)

column_sum-cons : (j : ℕ) (v : List ℕ) (vs : List (List ℕ)) → column_sum j (v ∷ vs) ≡ get_or v j 0 + column_sum j vs
column_sum-cons j v vs = sum_by-cons (λ v. get_or v j 0) v vs

nothing_times : (z n : ℕ) → n ≡ 0 → z * n ≡ 0
nothing_times z n e = ap (λ k. z * k) e ∙ (let w : z * 0 ≡ 0 = omega arith in w)

-- where no vector that is taken has the column, nothing is laid out
nothing_laid : (j : ℕ) (zs : List (List FlatTerm)) (vs : List (List ℕ)) → column_sum j (taken zs vs) ≡ 0 → length (laid_out j zs vs) ≡ 0
nothing_laid j [] vs h = refl
nothing_laid j (z ∷ zs) [] h = refl
nothing_laid j ([] ∷ zs) (v ∷ vs) h =
    let a = length-append (copies (get_or v j 0) []) (laid_out j zs vs) in
    let b = length_copies (get_or v j 0) [] in
    let c = nothing_laid j zs vs h in
    omega (arith, a, b, c)
nothing_laid j ((t ∷ ts) ∷ zs) (v ∷ vs) h =
    let s = column_sum-cons j v (taken zs vs) in
    let n : get_or v j 0 ≡ 0 = omega (arith, s, h) in
    let a = length-append (copies (get_or v j 0) (t ∷ ts)) (laid_out j zs vs) in
    let b = length_copies (get_or v j 0) (t ∷ ts) in
    let z = nothing_times (length (t ∷ ts)) (get_or v j 0) n in
    let c = nothing_laid j zs vs (omega (arith, s, h)) in
    omega (arith, a, b, c, z)

-- a vector that is taken and has the column counts
some_sum : (j : ℕ) (zs : List (List FlatTerm)) (vs : List (List ℕ)) (i : ℕ) → i < length vs → has_some (get_or zs i []) ≡ true → 0 < get_or (get_or vs i []) j 0 → 0 < column_sum j (taken zs vs)
some_sum j [] vs i l s p = absurd (true≢false (sym s))
some_sum j (z ∷ zs) [] i l s p = absurd (omega (arith, l))
some_sum j ([] ∷ zs) (v ∷ vs) zero l s p = absurd (true≢false (sym s))
some_sum j ((t ∷ ts) ∷ zs) (v ∷ vs) zero l s p = let a = column_sum-cons j v (taken zs vs) in omega (arith, a, p)
some_sum j ([] ∷ zs) (v ∷ vs) (suc i) l s p = some_sum j zs vs i (omega (arith, l)) s p
some_sum j ((t ∷ ts) ∷ zs) (v ∷ vs) (suc i) l s p = let a = column_sum-cons j v (taken zs vs) in let r = some_sum j zs vs i (omega (arith, l)) s p in omega (arith, a, r)

-- where a vector with one piece has the column, and it counts no more than one there, no more than one piece is laid out
pub one_laid : (j : ℕ) (zs : List (List FlatTerm)) (vs : List (List ℕ)) (i : ℕ) → i < length vs → length (get_or zs i []) ≡ 1 → 0 < get_or (get_or vs i []) j 0 → column_sum j (taken zs vs) ≤ 1 → length (laid_out j zs vs) ≤ 1
one_laid j [] vs i l n p h = absurd (omega (arith, n))
one_laid j (z ∷ zs) [] i l n p h = absurd (omega (arith, l))
one_laid j ([] ∷ zs) (v ∷ vs) zero l n p h = absurd (omega (arith, n))
one_laid j ((t ∷ ts) ∷ zs) (v ∷ vs) zero l n p h =
    let s = column_sum-cons j v (taken zs vs) in
    let a = length-append (copies (get_or v j 0) (t ∷ ts)) (laid_out j zs vs) in
    let b = length_copies (get_or v j 0) (t ∷ ts) in
    let m : length (t ∷ ts) * get_or v j 0 ≡ 1 * get_or v j 0 = ap (λ k. k * get_or v j 0) n in
    let c = nothing_laid j zs vs (omega (arith, s, h, p)) in
    omega (arith, a, b, m, c, s, h)
one_laid j ([] ∷ zs) (v ∷ vs) (suc i) l n p h =
    let a = length-append (copies (get_or v j 0) []) (laid_out j zs vs) in
    let b = length_copies (get_or v j 0) [] in
    let r = one_laid j zs vs i (omega (arith, l)) n p h in
    omega (arith, a, b, r)
one_laid j ((t ∷ ts) ∷ zs) (v ∷ vs) (suc i) l n p h =
    let s = column_sum-cons j v (taken zs vs) in
    let q = some_sum j zs vs i (omega (arith, l)) (one_some (get_or zs i []) n) p in
    let e : get_or v j 0 ≡ 0 = omega (arith, s, h, q) in
    let a = length-append (copies (get_or v j 0) (t ∷ ts)) (laid_out j zs vs) in
    let b = length_copies (get_or v j 0) (t ∷ ts) in
    let z = nothing_times (length (t ∷ ts)) (get_or v j 0) e in
    let r = one_laid j zs vs i (omega (arith, l)) n p (omega (arith, s, h)) in
    omega (arith, a, b, z, r)
  where
    one_some : (z : List FlatTerm) → length z ≡ 1 → has_some z ≡ true
    one_some [] e = absurd (omega (arith, e))
    one_some (x ∷ xs) e = refl
