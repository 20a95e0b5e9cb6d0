-- What the sides of a reduced row say of classes.
use Rattle.std.proofs.Common.{◌≡◌, ◌≢◌, ℕ, zero, suc, ◌+◌, ◌*◌, ◌<◌, ◌≤◌, true, false, List, [], ◌∷◌, ◌++◌, length, get_or, take, refl, sym, ap, ◌∙◌, subst, inl, inr, arith, All, suc-mul}
use Rattle.std.specs.Prelude.{Bool, sum_by}
use Rattle.std.proofs.lemmas.Bool.{cases_order, eq-eqb, false≢true}
use Rattle.std.proofs.lemmas.Nat.{mul-le}
use Rattle.std.proofs.lemmas.List.{length-append, get_or_default}
use Rattle.std.proofs.lemmas.List.Elements.{All-head, All-tail}
use Rattle.std.proofs.lemmas.List.Sums.{sum_by-cons, get_or-le-sum_by, sum_by_more}
use Rattle.fvn_terms.specs.declared.plain.OpId.{OpId}
use Rattle.fvn_terms.specs.declared.declarations.Declarations.{Declarations}
use Rattle.fvn_terms.specs.Signature.{axioms}
use Rattle.fvn_forms.specs.Flat.{FlatTerm}
use Rattle.fvn_forms.specs.Canon.{sum}
use Rattle.fvn_forms.specs.InOrder.{one_if, count}
use Rattle.fvn_forms.specs.Order.{same_flat}
use Rattle.fvn_forms.proofs.Order.{same_flat_is, same_flat_itself}
use Rattle.fvn_forms.proofs.InOrder.{count_append, count_itself, sort_same_counts, length_sort}
use Rattle.fvn_forms.proofs.Sums.{sum_parts, sum_same_counts}
use Rattle.fvn_flat.specs.Partitions.{HasNoIdentity}
use Rattle.fvn_combine_nodes.specs.Table.{NodeTable}
use Rattle.fvn_combine_nodes.specs.States.{IsClosed, class_of, is_same, is_apart, is_open}
use Rattle.fvn_combine_nodes.specs.declared.state.State.{State}
use Rattle.fvn_combine_nodes.proofs.Admitting.{decided}
use Rattle.fvn_combine_bounds.specs.CombineChoicesTables.{HasSums}
use Rattle.fvn_combine_inferring.specs.Sorted.{GoWithSorts}
use Rattle.fvn_combine_inferring.specs.Inferred.{HasNoValues, HaveOneValue}
use Rattle.fvn_combine_inferring.specs.Rows.{summands, times, many, HaveSameSummands, AreSides, HasFewSummands, IsSummand, IsAmong}
use Rattle.fvn_combine_inferring.specs.inner.Splits.{IsUnitNode}
use Rattle.fvn_combine_inferring.specs.inner.Bounds.{IsItOr}
use Rattle.fvn_combine_inferring.specs.inner.Sizes.{IsNoSummand}
use Rattle.fvn_combine_inferring.proofs.Values.{nothing_value, bare_summand}

scaled-lt : (n a b : ℕ) → a < b → suc n * a < suc n * b
scaled-lt n a b l =
    let p = suc-mul n a in
    let q = suc-mul n b in
    let r = mul-le n a n b (omega arith) (omega (arith, l)) in
    omega (arith, p, q, r, l)

scaled : (m a b : ℕ) → 0 < m → m * a ≡ m * b → a ≡ b
scaled zero a b some e = absurd (omega (arith, some))
scaled (suc n) a b some e = elim (cases_order a b) [
  | inl same ↦ same
  | inr o ↦ elim o [
    | inl lt ↦ absurd (let l = scaled-lt n a b lt in omega (arith, l, e))
    | inr gt ↦ absurd (let l = scaled-lt n b a gt in omega (arith, l, e))
  ]
]

sum_const : (w : ℕ → ℕ) (k : ℕ) (xs : List ℕ) → All (λ x. x ≡ k) xs → sum_by w xs ≡ length xs * w k
sum_const w k [] h = let z : sum_by w [] ≡ 0 = refl in let e : 0 * w k ≡ 0 = omega arith in z ∙ sym e
sum_const w k (x ∷ xs) h =
    let a = sum_by-cons w x xs in
    let b = ap w (All-head (λ x. x ≡ k) x xs h) in
    let c = sum_const w k xs (All-tail (λ x. x ≡ k) x xs h) in
    let e = suc-mul (length xs) (w k) in
    omega (arith, a, b, c, e)

-- what is told to be other than zero is above it
pub some_told : (n : ℕ) (b : Bool) → (n ≡ 0 → b ≡ true) → b ≡ false → 0 < n
some_told zero b h e = absurd (false≢true (sym e ∙ h refl))
some_told (suc n) b h e = omega arith

-- the one number of a list is below what all are below
pub only_within : (n k : ℕ) (xs : List ℕ) → 0 < length xs → All (λ x. x ≡ k) xs → All (λ x. x < n) xs → k < n
only_within n k xs some all below = subst (λ x. x < n) (all 0 0 some) (below 0 0 some)

-- two nodes that are neither in one class nor open are kept apart
pub kept_apart : (s : State) (i j : ℕ) → is_same s i j ≡ false → is_open s i j ≡ false → is_apart s i j ≡ true
kept_apart s i j n o = elim (decided s i j) [
  | inl p ↦ absurd (false≢true (sym o ∙ p))
  | inr r ↦ elim r [
    | inl e ↦ absurd (false≢true (sym n ∙ same_told e))
    | inr a ↦ a
  ]
]
  where
    same_told : class_of s i ≡ class_of s j → is_same s i j ≡ true
    same_told e = eq-eqb (class_of s i) (class_of s j) e

module _ (d : Declarations) (t : NodeTable) (s : State) (sorted : Bool) where
  -- no values go with a state that keeps apart what must meet
  pub met_apart : (i j : ℕ) → i < length t.nodes → j < length t.nodes → HaveOneValue d t s sorted i j → is_apart s i j ≡ true → HasNoValues d t s sorted
  met_apart i j l m equal apart values go = go.go.differ i j l m apart (equal values go)

  module _ (f : OpId) where
    -- a summand of one of the classes is among all
    times_one : (values : ℕ → FlatTerm) (q : FlatTerm) (xs : List ℕ) (i : ℕ) → i < length xs → times d s f values q (get_or xs i 0) ≤ sum_by (times d s f values q) xs
    times_one values q xs i l = get_or-le-sum_by (times d s f values q) xs i 0 l

    -- what has none of any form has no summands
    no_summand : (values : ℕ → FlatTerm) (k : ℕ) → ((q : FlatTerm) → times d s f values q k ≡ 0) → summands d s f values k ≡ []
    no_summand values k h = go (summands d s f values k) refl
      where
        go : (l : List FlatTerm) → summands d s f values k ≡ l → summands d s f values k ≡ []
        go [] e = e
        go (q ∷ qs) e = absurd (let m = count_itself q qs in let o = ap (count q) e in let z = h q in omega (arith, m, o, z))

    -- classes that have nothing together have nothing each
    nothing_each : (values : ℕ → FlatTerm) (xs : List ℕ) → HaveSameSummands d s f values xs [] → (i : ℕ) → i < length xs → summands d s f values (get_or xs i 0) ≡ []
    nothing_each values xs h i l = no_summand values (get_or xs i 0) (λ q. let a = times_one values q xs i l in let b = h q in let z : sum_by (times d s f values q) [] ≡ 0 = refl in omega (arith, a, b, z))

    pub emptied_bare : HasSums d t → IsClosed d t s → HasNoIdentity (axioms d f) → (xs : List ℕ) → 0 < length xs → AreSides d t s f xs [] → HasNoValues d t s sorted
    emptied_bare has closed bare xs some sides values go =
        let none = ap length (nothing_each values xs (sides values go.go) 0 some) in
        let one = bare_summand d t has s closed values go.go f (get_or xs 0 0) bare in
        omega (arith, none, one)

    pub emptied_met : HasSums d t → IsClosed d t s → (n : ℕ) → IsUnitNode t f n → (xs : List ℕ) → AreSides d t s f xs [] → All (λ k. HaveOneValue d t s sorted k n) xs
    emptied_met has closed n unit xs sides i e l values go =
        subst (λ k. values (class_of s k) ≡ values (class_of s n)) (get_or_default xs i 0 e l) (nothing_value d t has s closed values go.go f n (get_or xs i 0) unit (nothing_each values xs (sides values go.go) i l))

    -- one class as often as another
    pub cancelled_met : (k l : ℕ) (xs ys : List ℕ) → 0 < length xs → length xs ≡ length ys → All (λ x. x ≡ k) xs → All (λ y. y ≡ l) ys → AreSides d t s f xs ys → HaveOneValue d t s sorted k l
    cancelled_met k l xs ys some long left right sides values go =
        sym (sum_parts d f (values (class_of s k)) (go.go.are.settled (class_of s k)))
        ∙ sum_same_counts d f (summands d s f values k) (summands d s f values l) same
        ∙ sum_parts d f (values (class_of s l)) (go.go.are.settled (class_of s l))
      where
        same : (q : FlatTerm) → times d s f values q k ≡ times d s f values q l
        same q =
            let w = times d s f values q in
            let a = sum_const w k xs left in
            let b = sum_const w l ys right in
            let c = sides values go.go q in
            let e = ap (λ n. n * w l) long in
            scaled (length xs) (w k) (w l) some (sym a ∙ c ∙ b ∙ sym e)

    -- all summands of the classes, one class after another
    abbrev all_summands : (ℕ → FlatTerm) → List ℕ → List FlatTerm
    all_summands values [] = []
    all_summands values (k ∷ ks) = summands d s f values k ++ all_summands values ks

    count_all : (values : ℕ → FlatTerm) (q : FlatTerm) (ks : List ℕ) → count q (all_summands values ks) ≡ sum_by (times d s f values q) ks
    count_all values q [] = refl
    count_all values q (k ∷ ks) =
        let a = count_append q (summands d s f values k) (all_summands values ks) in
        let b = count_all values q ks in
        let c = sum_by-cons (times d s f values q) k ks in
        omega (arith, a, b, c)

    length_all : (values : ℕ → FlatTerm) (ks : List ℕ) → length (all_summands values ks) ≡ sum_by (many d s f values) ks
    length_all values [] = refl
    length_all values (k ∷ ks) =
        let a = length-append (summands d s f values k) (all_summands values ks) in
        let b = length_all values ks in
        let c = sum_by-cons (many d s f values) k ks in
        omega (arith, a, b, c)

    -- both sides have equally many summands
    pub same_many : (values : ℕ → FlatTerm) (xs ys : List ℕ) → HaveSameSummands d s f values xs ys → sum_by (many d s f values) xs ≡ sum_by (many d s f values) ys
    same_many values xs ys h =
        let l = all_summands values xs in
        let m = all_summands values ys in
        let e = ap length (sort_same_counts l m (λ q. count_all values q xs ∙ h q ∙ sym (count_all values q ys))) in
        let a = length_sort l in
        let b = length_sort m in
        let x = length_all values xs in
        let y = length_all values ys in
        omega (arith, e, a, b, x, y)

    few_many : (values : ℕ → FlatTerm) → GoWithSorts d t s sorted values → (ys : List ℕ) → All (HasFewSummands d t s sorted f) ys → sum_by (many d s f values) ys ≤ length ys
    few_many values go [] h = let z : sum_by (many d s f values) [] ≡ 0 = refl in omega (arith, z)
    few_many values go (y ∷ ys) h =
        let a = sum_by-cons (many d s f values) y ys in
        let b = All-head (HasFewSummands d t s sorted f) y ys h values go in
        let c = few_many values go ys (All-tail (HasFewSummands d t s sorted f) y ys h) in
        omega (arith, a, b, c)

    -- more classes with a summand than there are summands
    pub counted_out : (n : ℕ) (xs ys : List ℕ) → All (HasFewSummands d t s sorted f) ys → ((values : ℕ → FlatTerm) → GoWithSorts d t s sorted values → n ≤ sum_by (many d s f values) xs) → length ys < n → AreSides d t s f xs ys → HasNoValues d t s sorted
    counted_out n xs ys few least more sides values go =
        let a = same_many values xs ys (sides values go.go) in
        let b = few_many values go ys few in
        let c = least values go in
        omega (arith, a, b, c, more)

    -- one more class is counted, or not
    pub count_more : (values : ℕ → FlatTerm) (xs : List ℕ) (i n k : ℕ) → i < length xs → k ≡ get_or xs i 0 → 1 ≤ many d s f values k → n ≤ sum_by (many d s f values) (take i xs) → n + 1 ≤ sum_by (many d s f values) (take (i + 1) xs)
    count_more values xs i n k l e one h =
        let a = sum_by_more (many d s f values) xs i 0 l in
        let b = ap (many d s f values) e in
        omega (arith, a, b, one, h)

    pub count_same : (values : ℕ → FlatTerm) (xs : List ℕ) (i n : ℕ) → i < length xs → n ≤ sum_by (many d s f values) (take i xs) → n ≤ sum_by (many d s f values) (take (i + 1) xs)
    count_same values xs i n l h = let a = sum_by_more (many d s f values) xs i 0 l in omega (arith, a, h)

    -- a value with one summand at most, and with one at least, is its one summand
    pub one_summand : (values : ℕ → FlatTerm) → GoWithSorts d t s sorted values → (k : ℕ) → many d s f values k ≤ 1 → 1 ≤ many d s f values k → summands d s f values k ≡ values (class_of s k) ∷ []
    one_summand values go k few some = at (summands d s f values k) refl
      where
        at : (l : List FlatTerm) → summands d s f values k ≡ l → summands d s f values k ≡ values (class_of s k) ∷ []
        at [] e = absurd (let n = ap length e in omega (arith, n, some))
        at (q ∷ []) e = e ∙ ap (λ v. v ∷ []) (sym (ap (sum d f) e) ∙ sum_parts d f (values (class_of s k)) (go.go.are.settled (class_of s k)))
        at (q ∷ r ∷ l) e = absurd (let n = ap length e in omega (arith, n, few))

    -- a form is no summand of what is another one, and has one summand at most
    pub other_times : (values : ℕ → FlatTerm) → GoWithSorts d t s sorted values → (q : FlatTerm) (k : ℕ) → many d s f values k ≤ 1 → q ≢ values (class_of s k) → times d s f values q k ≡ 0
    other_times values go q k few n = at (summands d s f values k) refl
      where
        told : (b : Bool) → same_flat q (values (class_of s k)) ≡ b → one_if b + 0 ≡ 0
        told true e = absurd (n (same_flat_is q (values (class_of s k)) e))
        told false e = refl

        at : (l : List FlatTerm) → summands d s f values k ≡ l → times d s f values q k ≡ 0
        at [] e = ap (count q) e
        at (r ∷ l) e = ap (count q) (one_summand values go k few (let m = ap length e in omega (arith, m))) ∙ told (same_flat q (values (class_of s k))) refl

    pub none_times : (values : ℕ → FlatTerm) (q : FlatTerm) (ys : List ℕ) → All (λ y. times d s f values q y ≡ 0) ys → sum_by (times d s f values q) ys ≡ 0
    none_times values q [] h = refl
    none_times values q (y ∷ ys) h =
        let P = λ (y : ℕ). times d s f values q y ≡ 0 in
        let a = sum_by-cons (times d s f values q) y ys in
        let b = All-head P y ys h in
        let c = none_times values q ys (All-tail P y ys h) in
        omega (arith, a, b, c)

    -- a single summand that is one of nothing that it is among
    pub bag_out : (k : ℕ) (ys : List ℕ) → IsSummand d t s sorted f k → IsAmong d t s f k ys → All (IsNoSummand d t s sorted f k) ys → HasNoValues d t s sorted
    bag_out k ys one among out values go =
        let q = values (class_of s k) in
        let a = ap (count q) (one values go) in
        let b = count_itself q [] in
        let c = among values go.go q in
        let z = none_times values q ys (λ i e l. out i e l values go) in
        omega (arith, a, b, c, z)

    -- a single summand that is one of nothing that it is among but one, which has one summand at most, has the value of that one
    pub bag_one : (k l : ℕ) (ys : List ℕ) → IsSummand d t s sorted f k → HasFewSummands d t s sorted f l → IsAmong d t s f k ys → All (IsItOr (IsNoSummand d t s sorted f k) l) ys → HaveOneValue d t s sorted k l
    bag_one k l ys one few among others values go = at (same_flat (values (class_of s k)) (values (class_of s l))) refl
      where
        differs : same_flat (values (class_of s k)) (values (class_of s l)) ≡ false → values (class_of s k) ≢ values (class_of s l)
        differs e same =
            let back : values (class_of s l) ≡ values (class_of s k) = sym same in
            false≢true (sym e ∙ ap (same_flat (values (class_of s k))) back ∙ same_flat_itself (values (class_of s k)))

        out : same_flat (values (class_of s k)) (values (class_of s l)) ≡ false → (y : ℕ) → IsItOr (IsNoSummand d t s sorted f k) l y → times d s f values (values (class_of s k)) y ≡ 0
        out e y (inl is) = ap (times d s f values (values (class_of s k))) is ∙ other_times values go (values (class_of s k)) l (few values go) (differs e)
        out e y (inr absent) = absent values go

        at : (b : Bool) → same_flat (values (class_of s k)) (values (class_of s l)) ≡ b → values (class_of s k) ≡ values (class_of s l)
        at true e = same_flat_is (values (class_of s k)) (values (class_of s l)) e
        at false e =
            let q = values (class_of s k) in
            let a = ap (count q) (one values go) in
            let b = count_itself q [] in
            let c = among values go.go q in
            let z = none_times values q ys (λ i x within. out e (get_or ys i x) (others i x within)) in
            absurd (omega (arith, a, b, c, z))

    -- what stands on one side is among the other
    pub among_side : (xs ys : List ℕ) (i k : ℕ) → i < length xs → k ≡ get_or xs i 0 → AreSides d t s f xs ys → IsAmong d t s f k ys
    among_side xs ys i k l e sides values go q =
        let a = times_one values q xs i l in
        let b = sides values go q in
        let c = ap (times d s f values q) e in
        omega (arith, a, b, c)

    -- the sides in the other order
    pub other_side : (xs ys : List ℕ) → AreSides d t s f xs ys → AreSides d t s f ys xs
    other_side xs ys h values go q = sym (h values go q)
