-- What the highest bits of a number tell of every number that begins with them.
use Rattle.std.proofs.Common.{◌≡◌, ◌≢◌, ℕ, zero, suc, ◌+◌, ◌-◌, ◌*◌, ◌/◌, ◌%◌, ◌^◌, ◌<◌, ◌≤◌, Bool, true, false, cond, eqb, List, [], ◌∷◌, ◌++◌, length, take, drop, get_or, replicate, slice_index, slice_index_or, Option, Some, None, All, refl, ap, sym, subst, ◌∙◌, inl, inr, arith}
use Rattle.std.proofs.lemmas.Bool.{cond-true, cond-false, eq-eqb, ne_eqb, cases_lt}
use Rattle.std.proofs.lemmas.Nat.{shr-shr, pow_pos, div-add-mod', le-div}
use Rattle.std.proofs.lemmas.List.{drop_more, drop_all, get_or_past, get_or_default, get_or-map, get_or-replicate, length-map, length-replicate}
use Rattle.std.proofs.lemmas.List.Elements.{All-head, All-tail, All-cons, All-same, All-nil}
use Rattle.std.proofs.lemmas.List.Sums.{sum_by-append, get_or-le-sum_by}
use Rattle.fvn_lindio.specs.Systems.{vectors_of}
use Rattle.fvn_lindio.specs.declared.system.Solution.{Solution}
use Rattle.fvn_acunify.specs.declared.theory.ColumnBounds.{ColumnBounds}
use Rattle.fvn_acunify.specs.ValidChoice.{IsListed, IsValid, chosen, column_sum, touched}
use Rattle.fvn_acunify.specs.inner.Prefix.{CanBeFilled, IsAsked, IsBounded, IsChanged, IsDead, IsOpen, share, useful_part, useful_sum}
use Rattle.fvn_acunify.proofs.ColumnSums.{column_sum-cons, touched-le-share, share-le-touched, useful_part-one, useful_part-le, useful_sum-cons, useful_sum-take_more}

-- ---- a number's bits from a place on

half-shr : (b i : ℕ) → b / 2 / 2 ^ i ≡ b / 2 ^ suc i
half-shr b i = let e : 1 + i ≡ suc i = omega arith in shr-shr b 1 i ∙ ap (λ n. b / 2 ^ n) e

shr-half : (b i : ℕ) → b / 2 ^ i / 2 ≡ b / 2 ^ (i + 1)
shr-half b i = shr-shr b i 1

-- between a number whose lower bits are cleared and the number itself all have its higher bits
same_quotient : (a n m : ℕ) → 0 < m → n - n % m ≤ a → a ≤ n → a / m ≡ n / m
same_quotient a n m positive low high =
    let parts : n / m * m + n % m ≡ n = div-add-mod' n m in
    let up : n / m ≤ a / m = le-div (n / m) a m positive (omega arith) in
    let parts_a : a / m * m + a % m ≡ a = div-add-mod' a m in
    let down : a / m ≤ n / m = le-div (a / m) n m positive (omega arith) in
    omega arith

-- ---- what is chosen

cond_cons-append : (t : Bool) (v : List ℕ) (x a b : List (List ℕ)) → x ≡ a ++ b → cond t (v ∷ x) x ≡ cond t (v ∷ a) a ++ b
cond_cons-append true v x a b e = ap (λ l. v ∷ l) e
cond_cons-append false v x a b e = e

-- the solutions that a number's bits from a place on choose
abbrev pub higher : ℕ → ℕ → List Solution → List (List ℕ)
higher b place basis = chosen (b / 2 ^ place) (vectors_of (drop place basis))

-- a choice is what its lower bits choose, and then what its higher bits choose
pub chosen-split : (place b : ℕ) (basis : List Solution) → chosen b (vectors_of basis) ≡ chosen b (vectors_of (take place basis)) ++ higher b place basis
chosen-split zero b basis = let e : b ≡ b / 1 = omega arith in ap (λ n. chosen n (vectors_of basis)) e
chosen-split (suc i) b [] = refl
chosen-split (suc i) b (v ∷ basis) =
    cond_cons-append (eqb (b % 2) 1) v.parts (chosen (b / 2) (vectors_of basis)) (chosen (b / 2) (vectors_of (take i basis))) (chosen (b / 2 ^ suc i) (vectors_of (drop i basis)))
    (chosen-split i (b / 2) basis ∙ ap (λ n. chosen (b / 2) (vectors_of (take i basis)) ++ chosen n (vectors_of (drop i basis))) (half-shr b i))

higher-at : (b p : ℕ) (basis : List Solution) (d : Solution) → p < length basis → higher b p basis ≡ cond (eqb (b / 2 ^ p % 2) 1) ((get_or basis p d).parts ∷ higher b (p + 1) basis) (higher b (p + 1) basis)
higher-at b p basis d h =
    ap (λ l. chosen (b / 2 ^ p) (vectors_of l)) (drop_more basis p d h) ∙ ap (λ n. cond (eqb (b / 2 ^ p % 2) 1) ((get_or basis p d).parts ∷ chosen n (vectors_of (drop (p + 1) basis))) (chosen n (vectors_of (drop (p + 1) basis)))) (shr-half b p)

higher-taken : (b p : ℕ) (basis : List Solution) (d : Solution) → p < length basis → b / 2 ^ p % 2 ≡ 1 → higher b p basis ≡ (get_or basis p d).parts ∷ higher b (p + 1) basis
higher-taken b p basis d h bit = higher-at b p basis d h ∙ cond-true _ _ _ (eq-eqb _ 1 bit)

higher-skipped : (b p : ℕ) (basis : List Solution) → p < length basis → b / 2 ^ p % 2 ≢ 1 → higher b p basis ≡ higher b (p + 1) basis
higher-skipped b p basis h bit = higher-at b p basis (record { parts = [] }) h ∙ cond-false _ _ _ (ne_eqb _ 1 bit)

higher-all : (b place : ℕ) (basis : List Solution) → length basis ≤ place → higher b place basis ≡ []
higher-all b place basis h = ap (λ l. chosen (b / 2 ^ place) (vectors_of l)) (drop_all place basis h)

cond_cons-column_sum-le : (t : Bool) (constants : List ℕ) (j : ℕ) (v : Solution) (x : List (List ℕ)) (y : List Solution) → (All (λ w. share constants w ≤ 1) x → column_sum j x ≤ useful_sum constants j y) → All (λ w. share constants w ≤ 1) (cond t (v.parts ∷ x) x) → column_sum j (cond t (v.parts ∷ x) x) ≤ useful_sum constants j (v ∷ y)
cond_cons-column_sum-le true constants j v x y h one =
    let here = useful_part-one constants j v.parts (All-head (λ w. share constants w ≤ 1) v.parts x one) in
    let rest = h (All-tail (λ w. share constants w ≤ 1) v.parts x one) in
    omega (arith, here, rest, column_sum-cons j v.parts x, useful_sum-cons constants j v y)
cond_cons-column_sum-le false constants j v x y h one = omega (arith, h one, useful_sum-cons constants j v y)

-- what is chosen, none of it with two constants or one twice, has no more in a column than all can give to it
column_sum-chosen-le : (constants : List ℕ) (j b : ℕ) (list : List Solution) → All (λ v. share constants v ≤ 1) (chosen b (vectors_of list)) → column_sum j (chosen b (vectors_of list)) ≤ useful_sum constants j list
column_sum-chosen-le constants j b [] one = omega arith
column_sum-chosen-le constants j b (v ∷ list) one =
    cond_cons-column_sum-le (eqb (b % 2) 1) constants j v (chosen (b / 2) (vectors_of list)) list (column_sum-chosen-le constants j (b / 2) list) one

le_from_not_lt : (m n : ℕ) → (m < n → ⊥) → n ≤ m
le_from_not_lt m n never = elim (cases_lt m n) [ inl h ↦ absurd (never h) | inr h ↦ h ]

-- no component of a solution is over 65,535
pub part-le : (columns : ℕ) (constants : List ℕ) (basis : List Solution) → IsBounded columns constants basis → (p : ℕ) (d : Solution) (parts : List ℕ) → p < length basis → parts ≡ (get_or basis p d).parts → (j : ℕ) → slice_index parts j ≤ 65535
part-le columns constants basis bounded p d parts h is j =
    elim (cases_lt j (length parts)) [
      | inl within ↦ All-same (λ a. a ≤ 65535) parts (get_or basis p d).parts is (bounded.narrow p d h) j 0 within
      | inr past ↦ omega (arith, get_or_past parts j 0 past)
    ]

pub get_or-zeros : (n j : ℕ) → slice_index (replicate n 0) j ≡ 0
get_or-zeros n j =
    elim (cases_lt j n) [
      | inl h ↦ get_or-replicate n j 0 0 h
      | inr h ↦ get_or_past (replicate n 0) j 0 (omega (arith, length-replicate {A = ℕ} n 0))
    ]

All-middle : {X : Type 0} (P : X → Type 0) (xs ys : List X) (y : X) → All P (xs ++ y ∷ ys) → P y
All-middle P [] ys y all = All-head P y ys all
All-middle P (x ∷ xs) ys y all = All-middle P xs ys y (All-tail P x (xs ++ y ∷ ys) all)

All-first : {X : Type 0} (P : X → Type 0) (xs ys : List X) → All P (xs ++ ys) → All P xs
All-first P [] ys all = All-nil P
All-first P (x ∷ xs) ys all = All-cons P x xs (All-head P x (xs ++ ys) all) (All-first P xs ys (All-tail P x (xs ++ ys) all))

-- ---- walking down from the highest bit

-- the sums are those of what the bits from a place on choose, of which each touches at most one constant
pub record IsWalked (constants : List ℕ) (basis : List Solution) (number place : ℕ) (sums : List ℕ) : Type 0 where
  pub inside : place ≤ length basis
  pub summed : (j : ℕ) → slice_index sums j ≡ column_sum j (higher number place basis)
  pub small : (j : ℕ) → slice_index sums j + 65535 * place ≤ 65535 * 127
  pub apart : All (λ v. touched constants v ≤ 1) (higher number place basis)

pub IsWalked-start : (constants : List ℕ) (basis : List Solution) (number : ℕ) (sums : List ℕ) → length basis ≤ 127 → ((j : ℕ) → slice_index sums j ≡ 0) → IsWalked constants basis number (length basis) sums
IsWalked-start constants basis number sums few zeros =
    let none : higher number (length basis) basis ≡ [] = higher-all number (length basis) basis (omega arith) in
    record {
      inside = omega arith;
      summed = λ j. zeros j ∙ ap (column_sum j) (sym none);
      small = λ j. omega (arith, zeros j);
      apart = All-same (λ v. touched constants v ≤ 1) (higher number (length basis) basis) [] none (All-nil (λ v. touched constants v ≤ 1));
    }

pub IsWalked-skipped : (constants : List ℕ) (basis : List Solution) (number place p : ℕ) (sums : List ℕ) → p + 1 ≡ place → number / 2 ^ p % 2 ≢ 1 → IsWalked constants basis number place sums → IsWalked constants basis number p sums
IsWalked-skipped constants basis number place p sums e bit walked =
    let within : p < length basis = omega arith in
    let same : higher number p basis ≡ higher number place basis = higher-skipped number p basis within bit ∙ ap (λ n. higher number n basis) e in
    record {
      inside = omega arith;
      summed = λ j. walked.summed j ∙ ap (column_sum j) (sym same);
      small = λ j. omega (arith, walked.small j);
      apart = All-same (λ v. touched constants v ≤ 1) (higher number p basis) (higher number place basis) same walked.apart;
    }

pub IsWalked-taken : (constants : List ℕ) (basis : List Solution) (number place p : ℕ) (sums added parts : List ℕ) (d : Solution) → p + 1 ≡ place → number / 2 ^ p % 2 ≡ 1 → parts ≡ (get_or basis p d).parts → (1 < share constants parts → ⊥) → ((j : ℕ) → slice_index parts j ≤ 65535) → ((j : ℕ) → slice_index added j ≡ slice_index sums j + slice_index parts j) → IsWalked constants basis number place sums → IsWalked constants basis number p added
IsWalked-taken constants basis number place p sums added parts d e bit is two narrow sum walked =
    let within : p < length basis = omega arith in
    let same : higher number p basis ≡ parts ∷ higher number place basis = higher-taken number p basis d within bit ∙ ap (λ v. v ∷ higher number (p + 1) basis) (sym is) ∙ ap (λ n. parts ∷ higher number n basis) e in
    let few = le_from_not_lt 1 (share constants parts) two in
    let one : touched constants parts ≤ 1 = omega (arith, few, touched-le-share constants parts) in
    record {
      inside = omega arith;
      summed = λ j. omega (arith, sum j, walked.summed j, column_sum-cons j parts (higher number place basis), ap (column_sum j) same);
      small = λ j. omega (arith, walked.small j, sum j, narrow j);
      apart = All-same (λ v. touched constants v ≤ 1) (higher number p basis) (parts ∷ higher number place basis) same
          (All-cons (λ v. touched constants v ≤ 1) parts (higher number place basis) one walked.apart);
    }

-- ---- what the walk tells

-- each solution of a valid choice has at most 1 in the constant columns together
share-valid : (constants : List ℕ) (may_be_zero : List Bool) (basis : List (List ℕ)) (b : ℕ) → IsValid constants may_be_zero basis b → All (λ v. share constants v ≤ 1) (chosen b basis)
share-valid constants may_be_zero basis b valid = λ i d h.
    let v = get_or (chosen b basis) i d in
    let each : All (λ c. slice_index v c ≤ 1) constants = λ k e w. omega (arith, valid.once k e w, get_or-le-sum_by (λ x. slice_index x (get_or constants k e)) (chosen b basis) i d h) in
    omega (arith, valid.apart i d h, share-le-touched constants v each)

-- every number with these higher bits that chooses no solution with two constants or one twice has the sums and what its lower bits choose
column_sum-at : (constants : List ℕ) (basis : List Solution) (number place : ℕ) (sums : List ℕ) → IsWalked constants basis number place sums → (b : ℕ) → b / 2 ^ place ≡ number / 2 ^ place → All (λ v. share constants v ≤ 1) (chosen b (vectors_of basis)) → (j : ℕ) → column_sum j (chosen b (vectors_of basis)) ≤ slice_index sums j + useful_sum constants j (take place basis) × (slice_index sums j ≤ column_sum j (chosen b (vectors_of basis)))
column_sum-at constants basis number place sums walked b same single j =
    let lower = chosen b (vectors_of (take place basis)) in
    let split : column_sum j (chosen b (vectors_of basis)) ≡ column_sum j lower + column_sum j (higher b place basis) = ap (column_sum j) (chosen-split place b basis) ∙ sum_by-append (λ v. slice_index v j) lower (higher b place basis) in
    let top : column_sum j (higher b place basis) ≡ slice_index sums j = ap (λ n. column_sum j (chosen n (vectors_of (drop place basis)))) same ∙ sym (walked.summed j) in
    let one : All (λ v. share constants v ≤ 1) lower = All-first (λ v. share constants v ≤ 1) lower (higher b place basis)
    (All-same (λ v. share constants v ≤ 1) (lower ++ higher b place basis) (chosen b (vectors_of basis)) (sym (chosen-split place b basis)) single) in
    let few : column_sum j lower ≤ useful_sum constants j (take place basis) = column_sum-chosen-le constants j b (take place basis) one in
    (omega arith, omega arith)

vector_at : (basis : List Solution) (p : ℕ) (d : Solution) → p < length basis → get_or (vectors_of basis) p [] ≡ (get_or basis p d).parts
vector_at basis p d within = get_or-map (λ (v : Solution). v.parts) basis p d [] within

-- where the sums leave a column without what is asked, all numbers with these higher bits are out
pub dead-from_closed : (full : Option (List ℕ)) (constants : List ℕ) (may_be_zero : List Bool) (bounds : ColumnBounds) (basis : List Solution) (number place : ℕ) (sums changed : List ℕ) → IsWalked constants basis number place sums → (IsOpen changed constants may_be_zero bounds (take place basis) sums → ⊥) → IsDead (IsListed full constants may_be_zero bounds (vectors_of basis)) number place
dead-from_closed full constants may_be_zero bounds basis number place sums changed walked closed b same listed =
    let valid = listed.valid in
    let at = column_sum-at constants basis number place sums walked b same (share-valid constants may_be_zero (vectors_of basis) b valid) in
    closed (record {
      filled = λ j asked _. omega (arith, at j, valid.filled j asked);
      once = λ k d h. (omega (arith, at (slice_index_or constants k d), valid.once k d h), λ _. omega (arith, at (slice_index_or constants k d), valid.once k d h));
      bounded = record {
        most = λ k d h. omega (arith, at (slice_index_or bounds.at_most_one k d), listed.bounded.most k d h);
        least = λ k d h _. omega (arith, at (slice_index_or bounds.at_least_one k d), listed.bounded.least k d h);
      };
    })

-- where the solution at a place has two constants, or one twice, all numbers with its bit and these higher bits are out
pub dead-from_two : (full : Option (List ℕ)) (constants : List ℕ) (may_be_zero : List Bool) (bounds : ColumnBounds) (basis : List Solution) (number p : ℕ) (parts : List ℕ) (d : Solution) → p < length basis → number / 2 ^ p % 2 ≡ 1 → parts ≡ (get_or basis p d).parts → 1 < share constants parts → IsDead (IsListed full constants may_be_zero bounds (vectors_of basis)) number p
dead-from_two full constants may_be_zero bounds basis number p parts d within bit is two b same listed =
    let valid = listed.valid in
    let bit_b : b / 2 ^ p % 2 ≡ 1 = ap (λ n. n % 2) same ∙ bit in
    let lower = chosen b (vectors_of (take p basis)) in
    let split : chosen b (vectors_of basis) ≡ lower ++ parts ∷ higher b (p + 1) basis = chosen-split p b basis ∙ ap (λ l. lower ++ l) (higher-taken b p basis d within bit_b) ∙ ap (λ v. lower ++ v ∷ higher b (p + 1) basis) (sym is) in
    let one : share constants parts ≤ 1 = All-middle (λ v. share constants v ≤ 1) lower (higher b (p + 1) basis) parts (All-same (λ v. share constants v ≤ 1) (lower ++ parts ∷ higher b (p + 1) basis) (chosen b (vectors_of basis)) (sym split) (share-valid constants may_be_zero (vectors_of basis) b valid)) in
    omega arith

-- a listed choice takes each solution that is asked for
taken-from_listed : (full : Option (List ℕ)) (constants : List ℕ) (may_be_zero : List Bool) (bounds : ColumnBounds) (basis : List (List ℕ)) (b : ℕ) → IsListed full constants may_be_zero bounds basis b → (i : ℕ) → i < length basis → IsAsked full constants (slice_index_or basis i []) → b / 2 ^ i % 2 ≡ 1
taken-from_listed None constants may_be_zero bounds basis b listed i within asked = absurd asked
taken-from_listed (Some others) constants may_be_zero bounds basis b listed i within asked = listed.whole others refl i within asked.0 asked.1

-- where a solution that is asked for is not taken, all numbers with these higher bits are out
pub dead-from_missing : (full : Option (List ℕ)) (constants : List ℕ) (may_be_zero : List Bool) (bounds : ColumnBounds) (basis : List Solution) (number p : ℕ) (parts : List ℕ) (d : Solution) → p < length basis → number / 2 ^ p % 2 ≢ 1 → parts ≡ (get_or basis p d).parts → IsAsked full constants parts → IsDead (IsListed full constants may_be_zero bounds (vectors_of basis)) number p
dead-from_missing full constants may_be_zero bounds basis number p parts d within bit is asked b same listed =
    bit (ap (λ n. n % 2) (sym same) ∙ taken-from_listed full constants may_be_zero bounds (vectors_of basis) b listed p (rw length-map within)
    (subst (IsAsked full constants) (is ∙ sym (vector_at basis p d within)) asked))

-- from a place on every solution that is asked for is taken
abbrev pub IsFullFrom : Option (List ℕ) → List ℕ → List Solution → ℕ → ℕ → Type 0
IsFullFrom full constants basis number place = (i : ℕ) → place ≤ i → i < length basis → IsAsked full constants (get_or (vectors_of basis) i []) → number / 2 ^ i % 2 ≡ 1

pub full-from_taken : (full : Option (List ℕ)) (constants : List ℕ) (basis : List Solution) (number place p : ℕ) → p + 1 ≡ place → number / 2 ^ p % 2 ≡ 1 → IsFullFrom full constants basis number place → IsFullFrom full constants basis number p
full-from_taken full constants basis number place p e bit rest i from within asked = elim (cases_lt p i) [
  | inl later ↦ rest i (omega (arith, later, e)) within asked
  | inr here ↦ (let is : p ≡ i = omega (arith, here, from) in subst (λ j. number / 2 ^ j % 2 ≡ 1) is bit)
]

pub full-from_skipped : (full : Option (List ℕ)) (constants : List ℕ) (basis : List Solution) (number place p : ℕ) (parts : List ℕ) (d : Solution) → p + 1 ≡ place → p < length basis → parts ≡ (get_or basis p d).parts → (IsAsked full constants parts → ⊥) → IsFullFrom full constants basis number place → IsFullFrom full constants basis number p
full-from_skipped full constants basis number place p parts d e inside is other rest i from within asked = elim (cases_lt p i) [
  | inl later ↦ rest i (omega (arith, later, e)) within asked
  | inr here ↦ (let same : p ≡ i = omega (arith, here, from) in
      absurd (other (subst (IsAsked full constants) (sym (is ∙ sym (vector_at basis p d inside))) (subst (λ j. IsAsked full constants (get_or (vectors_of basis) j [])) (sym same) asked))))
]

-- a vector without columns leaves none unasked
all_changed : (j : ℕ) → IsChanged [] j
all_changed j = omega arith

-- a column in which a vector is zero
zero-from_unchanged : (parts : List ℕ) (j : ℕ) → slice_index_or parts j 1 ≤ 0 → slice_index parts j ≡ 0
zero-from_unchanged parts j none = elim (cases_lt j (length parts)) [
  | inl h ↦ omega (arith, none, get_or_default parts j 0 1 h)
  | inr h ↦ get_or_past parts j 0 h
]

-- what could be filled can be filled one place further down, if it can where the solution there is above zero
filled-on : (constants : List ℕ) (basis : List Solution) (place p : ℕ) (sums added parts : List ℕ) (d : Solution) → p + 1 ≡ place → p < length basis → parts ≡ (get_or basis p d).parts → ((j : ℕ) → slice_index sums j ≤ slice_index added j) → (j : ℕ) → CanBeFilled [] constants (take place basis) sums j → CanBeFilled parts constants (take p basis) added j → CanBeFilled [] constants (take p basis) added j
filled-on constants basis place p sums added parts d e within is more j before here _ = elim (cases_lt 0 (slice_index_or parts j 1)) [
  | inl changed ↦ here changed
  | inr kept ↦ (let none = zero-from_unchanged parts j kept in
      omega (arith, before (all_changed j), more j, ap (λ n. useful_sum constants j (take n basis)) e, useful_sum-take_more constants j basis p d within, ap (useful_part constants j) is, useful_part-le constants j parts, none))
]

-- what was open stays open one place further down, if it does where the solution there is above zero
pub open-on : (constants : List ℕ) (may_be_zero : List Bool) (bounds : ColumnBounds) (basis : List Solution) (place p : ℕ) (sums added parts : List ℕ) (d : Solution) → p + 1 ≡ place → p < length basis → parts ≡ (get_or basis p d).parts → ((j : ℕ) → slice_index sums j ≤ slice_index added j) → IsOpen [] constants may_be_zero bounds (take place basis) sums → IsOpen parts constants may_be_zero bounds (take p basis) added → IsOpen [] constants may_be_zero bounds (take p basis) added
open-on constants may_be_zero bounds basis place p sums added parts d e within is more before here =
    let on = filled-on constants basis place p sums added parts d e within is more in
    record {
      filled = λ j asked. on j (before.filled j asked) (here.filled j asked);
      once = λ k c h. ((here.once k c h).0, on (slice_index_or constants k c) (before.once k c h).1 (here.once k c h).1);
      bounded = record {
        most = here.bounded.most;
        least = λ k c h. on (slice_index_or bounds.at_least_one k c) (before.bounded.least k c h) (here.bounded.least k c h);
      };
    }

-- a number that was walked to its last bit, with every column as asked and every solution that is asked for taken, is listed
pub listed-from_open : (full : Option (List ℕ)) (constants : List ℕ) (may_be_zero : List Bool) (bounds : ColumnBounds) (basis : List Solution) (number : ℕ) (sums : List ℕ) → IsWalked constants basis number 0 sums → IsOpen [] constants may_be_zero bounds (take 0 basis) sums → IsFullFrom full constants basis number 0 → number < 2 ^ length basis → IsListed full constants may_be_zero bounds (vectors_of basis) number
listed-from_open full constants may_be_zero bounds basis number sums walked all_open taken within =
    let same : number / 1 ≡ number = omega arith in
    let whole : higher number 0 basis ≡ chosen number (vectors_of basis) = ap (λ n. chosen n (vectors_of basis)) same in
    record {
      valid = record {
        within = rw length-map within;
        filled = λ j asked. omega (arith, all_open.filled j asked (all_changed j), walked.summed j, ap (column_sum j) whole);
        once = λ k d h. omega (arith, (all_open.once k d h).0, (all_open.once k d h).1 (all_changed (slice_index_or constants k d)), walked.summed (slice_index_or constants k d), ap (column_sum (slice_index_or constants k d)) whole);
        apart = All-same (λ v. touched constants v ≤ 1) (chosen number (vectors_of basis)) (higher number 0 basis) (sym whole) walked.apart;
      };
      bounded = record {
        most = λ k d h. omega (arith, all_open.bounded.most k d h, walked.summed (slice_index_or bounds.at_most_one k d), ap (column_sum (slice_index_or bounds.at_most_one k d)) whole);
        least = λ k d h. omega (arith, all_open.bounded.least k d h (all_changed (slice_index_or bounds.at_least_one k d)), walked.summed (slice_index_or bounds.at_least_one k d), ap (column_sum (slice_index_or bounds.at_least_one k d)) whole);
      };
      whole = λ others is i l bare rest. taken i (omega arith) (let n = length-map basis (λ (v : Solution). v.parts) in omega (arith, l, n))
          (subst (λ o. IsAsked o constants (get_or (vectors_of basis) i [])) (sym is) (bare, rest));
    }

-- a jump below all numbers with the same higher bits passes no choice that is listed
pub jump_skips_none : (full : Option (List ℕ)) (constants : List ℕ) (may_be_zero : List Bool) (bounds : ColumnBounds) (basis : List Solution) (number place : ℕ) → IsDead (IsListed full constants may_be_zero bounds (vectors_of basis)) number place → (a : ℕ) → a ≤ number → IsListed full constants may_be_zero bounds (vectors_of basis) a → a < number - number % 2 ^ place
jump_skips_none full constants may_be_zero bounds basis number place dead a upto valid =
    elim (cases_lt a (number - number % 2 ^ place)) [
      | inl below ↦ below
      | inr above ↦ absurd (dead a (same_quotient a number (2 ^ place) (pow_pos place) above upto) valid)
    ]
