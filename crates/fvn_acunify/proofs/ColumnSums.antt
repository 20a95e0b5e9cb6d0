-- Sums over a column of vectors.
use Rattle.std.proofs.Common.{◌≡◌, ◌↔◌, ℕ, ◌+◌, ◌<◌, ◌≤◌, Bool, true, false, not, IsTrue, nat_lt, cond, List, [], ◌∷◌, length, take, drop, get_or, slice_index, All, refl, ap, sym, subst, ◌∙◌, inl, inr, arith}
use Rattle.std.proofs.lemmas.Bool.{cond-true, cond-false, cond_both, lt-ltb, le-ltb, ltb-true, ltb-false, true≢false, cases_lt}
use Rattle.std.proofs.lemmas.List.{get_or_past}
use Rattle.std.proofs.lemmas.List.Elements.{All-head, All-tail}
use Rattle.std.proofs.lemmas.List.Sums.{sum_by-cons, sum_by_more, sum_by-drop_more, sum_by-le-sum_by, get_or-le-sum_by, count_by_more_no}
use Rattle.fvn_lindio.specs.declared.system.Solution.{Solution}
use Rattle.fvn_acunify.specs.ValidChoice.{column_sum, touched}
use Rattle.fvn_acunify.specs.inner.Prefix.{share, useful_part, useful_sum}

pub column_sum-cons : (j : ℕ) (v : List ℕ) (list : List (List ℕ)) → column_sum j (v ∷ list) ≡ slice_index v j + column_sum j list
column_sum-cons j v list = sum_by-cons (λ w. slice_index w j) v list

-- ---- what solutions can give to a column

pub useful_part-le : (constants : List ℕ) (j : ℕ) (v : List ℕ) → useful_part constants j v ≤ slice_index v j
useful_part-le constants j v =
    cond_both (nat_lt 1 (share constants v)) 0 (slice_index v j) (λ n. n ≤ slice_index v j) (λ _. omega arith) (λ _. omega arith)

-- one with two constants, or one twice, gives nothing, and each other one its part
useful_part-two : (constants : List ℕ) (j : ℕ) (v : List ℕ) → 1 < share constants v → useful_part constants j v ≡ 0
useful_part-two constants j v two = cond-true _ _ _ (lt-ltb 1 (share constants v) two)

pub useful_part-one : (constants : List ℕ) (j : ℕ) (v : List ℕ) → share constants v ≤ 1 → useful_part constants j v ≡ slice_index v j
useful_part-one constants j v one = cond-false _ _ _ (le-ltb 1 (share constants v) one)

-- where a vector is above zero in the column, it gives something unless it has two constants, or one twice
pub useful_part-iff : (constants : List ℕ) (j : ℕ) (v : List ℕ) (two : Bool) → (slice_index v j ≡ 0 → ⊥) → (IsTrue two ↔ (1 < share constants v)) → IsTrue (not two) ↔ (0 < useful_part constants j v)
useful_part-iff constants j v true above tells =
    let none = useful_part-two constants j v (tells.0 refl) in
    (λ e. absurd (true≢false (sym e)), λ h. absurd (omega (arith, none, h)))
useful_part-iff constants j v false above tells =
    let one : share constants v ≤ 1 = elim (cases_lt 1 (share constants v)) [ inl h ↦ absurd (true≢false (sym (tells.1 h))) | inr h ↦ h ] in
    let all = useful_part-one constants j v one in
    let some : 0 < slice_index v j = elim (cases_lt 0 (slice_index v j)) [ inl h ↦ h | inr h ↦ absurd (above (omega (arith, h))) ] in
    (λ _. omega (arith, all, some), λ _. refl)

pub useful_sum-cons : (constants : List ℕ) (j : ℕ) (v : Solution) (list : List Solution) → useful_sum constants j (v ∷ list) ≡ useful_part constants j v.parts + useful_sum constants j list
useful_sum-cons constants j v list = sum_by-cons (λ w. useful_part constants j w.parts) v list

-- a solution that gives something, among others that may
pub useful_sum-some : (constants : List ℕ) (j : ℕ) (list : List Solution) (i : ℕ) (d : Solution) (parts : List ℕ) → i < length list → parts ≡ (get_or list i d).parts → 0 < useful_part constants j parts → 0 < useful_sum constants j list
useful_sum-some constants j list i d parts within is some =
    omega (arith, some, ap (useful_part constants j) is, get_or-le-sum_by (λ v. useful_part constants j v.parts) list i d within)

-- a solution more that gives nothing
pub useful_sum-none : (constants : List ℕ) (j : ℕ) (list : List Solution) (i : ℕ) (d : Solution) (parts : List ℕ) → i < length list → parts ≡ (get_or list i d).parts → (0 < useful_part constants j parts → ⊥) → useful_sum constants j (take i list) ≡ 0 → useful_sum constants j (take (i + 1) list) ≡ 0
useful_sum-none constants j list i d parts within is nothing before =
    let here : useful_part constants j parts ≡ 0 = elim (cases_lt 0 (useful_part constants j parts)) [ inl h ↦ absurd (nothing h) | inr h ↦ omega (arith, h) ] in
    omega (arith, before, here, ap (useful_part constants j) is, sum_by_more (λ v. useful_part constants j v.parts) list i d within)

-- one solution more gives its part
pub useful_sum-take_more : (constants : List ℕ) (j : ℕ) (list : List Solution) (i : ℕ) (d : Solution) → i < length list → useful_sum constants j (take (i + 1) list) ≡ useful_sum constants j (take i list) + useful_part constants j (get_or list i d).parts
useful_sum-take_more constants j list i d within = sum_by_more (λ v. useful_part constants j v.parts) list i d within

-- past the last column there is nothing
pub useful_sum-past : (constants : List ℕ) (n j : ℕ) (list : List Solution) → All (λ v. length v.parts ≡ n) list → n ≤ j → useful_sum constants j list ≡ 0
useful_sum-past constants n j [] sized past = refl
useful_sum-past constants n j (v ∷ list) sized past =
    let long = All-head (λ (w : Solution). length w.parts ≡ n) v list sized in
    let here : slice_index v.parts j ≡ 0 = get_or_past v.parts j 0 (omega (arith, long, past)) in
    let rest = useful_sum-past constants n j list (All-tail (λ (w : Solution). length w.parts ≡ n) v list sized) past in
    omega (arith, useful_sum-cons constants j v list, useful_part-le constants j v.parts, here, rest)

-- ---- in how many columns a vector is other than zero

-- a column in which it is above zero counts
pub touched-some : (columns v : List ℕ) (i d part : ℕ) → i < length columns → part ≡ slice_index v (get_or columns i d) → 0 < part → 0 < touched columns v
touched-some columns v i d part within is some =
    let here : ◌≡◌ {A = ℕ} (cond (nat_lt 0 (slice_index v (get_or columns i d))) 1 0) 1 = cond-true _ _ _ (lt-ltb 0 (slice_index v (get_or columns i d)) (subst (λ n. 0 < n) is some)) in
    omega (arith, here, get_or-le-sum_by (λ c. cond (nat_lt 0 (slice_index v c)) 1 0) columns i d within)

-- a column more in which it is zero does not
pub touched-take_more : (columns v : List ℕ) (i d part : ℕ) → i < length columns → part ≡ slice_index v (get_or columns i d) → part ≤ 0 → touched (take i columns) v ≡ 0 → touched (take (i + 1) columns) v ≡ 0
touched-take_more columns v i d part within is none before =
    count_by_more_no (λ c. nat_lt 0 (slice_index v c)) columns i d within (le-ltb 0 (slice_index v (get_or columns i d)) (subst (λ n. n ≤ 0) is none)) ∙ before

-- ---- what a vector has in columns, all together

-- a number above zero counts once, and one that is at most 1 no less than it is
counted-le : (n : ℕ) → cond (nat_lt 0 n) 1 0 ≤ n
counted-le n = cond_both (nat_lt 0 n) 1 0 (λ m. m ≤ n) (λ e. omega (arith, ltb-true 0 n e)) (λ _. omega arith)

le-counted : (n : ℕ) → n ≤ 1 → n ≤ cond (nat_lt 0 n) 1 0
le-counted n small = cond_both (nat_lt 0 n) 1 0 (λ m. n ≤ m) (λ _. omega arith) (λ e. omega (arith, ltb-false 0 n e))

pub touched-le-share : (columns v : List ℕ) → touched columns v ≤ share columns v
touched-le-share columns v =
    sum_by-le-sum_by (λ c. cond (nat_lt 0 (slice_index v c)) 1 0) (λ c. slice_index v c) columns (λ c. counted-le (slice_index v c))

-- where it has at most 1 in each of them, it has no more than it touches
pub share-le-touched : (columns v : List ℕ) → All (λ c. slice_index v c ≤ 1) columns → share columns v ≤ touched columns v
share-le-touched [] v small = omega arith
share-le-touched (c ∷ columns) v small =
    let here = le-counted (slice_index v c) (All-head (λ k. slice_index v k ≤ 1) c columns small) in
    let rest = share-le-touched columns v (All-tail (λ k. slice_index v k ≤ 1) c columns small) in
    omega (arith, here, rest, sum_by-cons (λ k. slice_index v k) c columns, sum_by-cons (λ k. cond (nat_lt 0 (slice_index v k)) 1 0) c columns)

-- the first of the columns that are left
pub share-drop_more : (columns v : List ℕ) (i d part : ℕ) → i < length columns → part ≡ slice_index v (get_or columns i d) → share (drop i columns) v ≡ part + share (drop (i + 1) columns) v
share-drop_more columns v i d part within is = omega (arith, is, sum_by-drop_more (λ c. slice_index v c) columns i d within)
