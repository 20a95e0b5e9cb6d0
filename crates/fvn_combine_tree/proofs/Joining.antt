-- Two classes become one.
use Rattle.std.proofs.Common.{◌≡◌, ◌≢◌, ◌⊎◌, ℕ, zero, suc, ◌+◌, ◌<◌, ◌≤◌, min, max, List, [], ◌∷◌, length, map, get_or, sum, sym, ap, ◌∙◌, subst, inl, inr, arith, All}
use Rattle.std.specs.Prelude.{if◌then◌else◌}
use Rattle.std.specs.List.{sum_by}
use Rattle.std.proofs.lemmas.Bool.{cases_eq, cases_order, eq-eqb, ne_eqb}
use Rattle.std.proofs.lemmas.List.{get_or-map, length-map, get_or_default}
use Rattle.std.proofs.lemmas.List.Edits.{map_over_more}
use Rattle.std.proofs.lemmas.List.Sums.{sum_by-cons, sum_by-le-sum_by, sum-map}
use Rattle.std.specs.Prelude.{take, drop, set, ◌++◌}
use Rattle.fvn_combine_nodes.specs.States.{Admits, IsNaming, class_of}
use Rattle.fvn_combine_nodes.specs.declared.state.State.{State}
use Rattle.fvn_combine_tree.specs.inner.Closing.{renamed, HasSameNodes, IsForced}

pub renamed-same : (from to n : ℕ) → n ≡ from → renamed from to n ≡ to
renamed-same from to n e = ap (λ b. if b then to else n) (eq-eqb n from e)

pub renamed-other : (from to n : ℕ) → n ≢ from → renamed from to n ≡ n
renamed-other from to n other = ap (λ b. if b then to else n) (ne_eqb n from other)

renamed-le : (from to n : ℕ) → to ≤ from → renamed from to n ≤ n
renamed-le from to n h = elim (cases_eq n from) [
  | inl e ↦ let r = renamed-same from to n e in omega (arith, r, e)
  | inr o ↦ let r = renamed-other from to n o in omega (arith, r)
]

-- one step of the renaming of a list in place
pub renamed-step : (from to : ℕ) (xs ys zs : List ℕ) (i : ℕ) → i < length xs → length ys ≡ length xs → ys ≡ map (renamed from to) (take i xs) ++ drop i xs → zs ≡ set ys i (renamed from to (get_or ys i 0)) → zs ≡ map (renamed from to) (take (i + 1) xs) ++ drop (i + 1) xs
renamed-step from to xs ys zs i h n inv e =
    e ∙ map_over_more (renamed from to) xs ys i (get_or ys i 0) h inv (get_or_default ys i 0 (get_or ys i 0) (omega arith))

-- the sum of the names falls
sum-renamed-le : (from to : ℕ) → to ≤ from → (xs : List ℕ) → sum_by (renamed from to) xs ≤ sum xs
sum-renamed-le from to h xs = sum_by-le-sum_by (renamed from to) (λ x. x) xs (λ c. renamed-le from to c h)

sum-renamed-lt : (from to : ℕ) → to < from → (xs : List ℕ) (i : ℕ) → i < length xs → get_or xs i 0 ≡ from → sum_by (renamed from to) xs < sum xs
sum-renamed-lt from to h [] i l e = absurd (omega arith)
sum-renamed-lt from to h (x ∷ xs) zero l e =
    let r = renamed-same from to x e in
    let a = sum_by-cons (renamed from to) x xs in
    let b = sum_by-cons (λ (c : ℕ). c) x xs in
    let le = sum-renamed-le from to (omega arith) xs in
    omega (arith, r, a, b, le, e)
sum-renamed-lt from to h (x ∷ xs) (suc i) l e =
    let r = renamed-le from to x (omega arith) in
    let a = sum_by-cons (renamed from to) x xs in
    let b = sum_by-cons (λ (c : ℕ). c) x xs in
    let lt = sum-renamed-lt from to h xs i (omega arith) e in
    omega (arith, r, a, b, lt)

-- the class from goes into the class to, which has the lower name
module _ (before : State) (naming : IsNaming before) (from to : ℕ) (lower : to < from) (within : from < length before.names) (own_from : class_of before from ≡ from) (own_to : class_of before to ≡ to) (after : State) (names : after.names ≡ map (renamed from to) before.names) (apart : after.apart ≡ before.apart) where
  whole : length after.names ≡ length before.names
  whole = ap length names ∙ length-map before.names (renamed from to)

  class-after : (k : ℕ) → k < length before.names → class_of after k ≡ renamed from to (class_of before k)
  class-after k h = ap (λ ns. get_or ns k 0) names ∙ get_or-map (renamed from to) before.names k 0 0 h

  class-within : (k : ℕ) → k < length before.names → class_of before k < length before.names
  class-within k h = let l = (naming.named k h).0 in omega arith

  own-after : (k : ℕ) → k < length before.names → class_of after (class_of after k) ≡ class_of after k
  own-after k h = elim (cases_eq (class_of before k) from) [
    | inl e ↦
        let is : class_of after k ≡ to = class-after k h ∙ renamed-same from to (class_of before k) e in
        let one : class_of after to ≡ to = class-after to (omega arith) ∙ ap (renamed from to) own_to ∙ renamed-other from to to (λ w. omega arith) in
        ap (class_of after) is ∙ one ∙ sym is
    | inr o ↦
        let is : class_of after k ≡ class_of before k = class-after k h ∙ renamed-other from to (class_of before k) o in
        ap (class_of after) is ∙ class-after (class_of before k) (class-within k h) ∙ ap (renamed from to) (naming.named k h).1 ∙ sym (class-after k h)
  ]

  pub joined_nodes : HasSameNodes before after
  joined_nodes = record {
    whole = whole;
    naming = record {
      named = λ k h.
          let l : k < length before.names = let w = whole in omega arith in
          let le = (naming.named k l).0 in
          let r = renamed-le from to (class_of before k) (omega arith) in
          let is = class-after k l in
          (omega (arith, le, r, is), own-after k l);
      kept = subst (λ n. All (λ p. (p.0 < n) × (p.1 < n)) after.apart) (sym whole) (subst (All (λ p. (p.0 < length before.names) × (p.1 < length before.names))) (sym apart) naming.kept);
    };
    apart = apart;
  }

  pub joined_forced : (Holds : (ℕ → ℕ) → Type 0) → ((class : ℕ → ℕ) → Holds class → Admits before class → class from ≡ class to) → IsForced Holds before after
  joined_forced Holds meet = record {
    coarser = λ k l. class-after (class_of before k) (class-within k l) ∙ ap (renamed from to) (naming.named k l).1 ∙ sym (class-after k l);
    forced = λ class holds h. record {
      together = λ k m.
          let l : k < length before.names = let w = whole in omega arith in
          let c : ℕ = class_of before k in
          elim (cases_eq c from) [
            | inl e ↦ h.together k l ∙ ap class e ∙ meet class holds h ∙ sym (ap class (class-after k l ∙ renamed-same from to c e))
            | inr o ↦ h.together k l ∙ sym (ap class (class-after k l ∙ renamed-other from to c o))
          ];
      apart = subst (All (λ p. class p.0 ≢ class p.1)) (sym apart) h.apart;
    };
  }

  pub joined_class : (k : ℕ) → k < length before.names → (class_of before k ≡ from) ⊎ (class_of before k ≡ to) → class_of after k ≡ to
  joined_class k l (inl e) = class-after k l ∙ renamed-same from to (class_of before k) e
  joined_class k l (inr e) = class-after k l ∙ renamed-other from to (class_of before k) (λ f. omega arith) ∙ e

  pub joined_falls : sum after.names < sum before.names
  joined_falls =
      let m = sum-map (renamed from to) before.names in
      let lt = sum-renamed-lt from to lower before.names from within own_from in
      let e = ap sum names in
      omega (arith, m, lt, e)

-- the classes of two nodes have become one
abbrev pub AreJoined : (i j : ℕ) → (before after : State) → Type 0
AreJoined i j before after = (HasSameNodes before after × IsForced (λ class. class i ≡ class j) before after × (sum after.names < sum before.names)) × (class_of after i ≡ class_of after j)

-- two nodes of different classes are put into one
module _ (before : State) (naming : IsNaming before) (i j : ℕ) (left : i < length before.names) (right : j < length before.names) (a b : ℕ) (a_is : a ≡ class_of before i) (b_is : b ≡ class_of before j) (apart : a ≢ b) (hi lo : ℕ) (hi_is : hi ≡ max a b) (lo_is : lo ≡ min a b) (after : State) (names : after.names ≡ map (renamed hi lo) before.names) (kept : after.apart ≡ before.apart) where
  within_a : a < length before.names
  within_a = let l = (naming.named i left).0 in omega arith

  within_b : b < length before.names
  within_b = let l = (naming.named j right).0 in omega arith

  own_a : class_of before a ≡ a
  own_a = ap (class_of before) a_is ∙ (naming.named i left).1 ∙ sym a_is

  own_b : class_of before b ≡ b
  own_b = ap (class_of before) b_is ∙ (naming.named j right).1 ∙ sym b_is

  meet_ab : (class : ℕ → ℕ) → class i ≡ class j → Admits before class → class a ≡ class b
  meet_ab class e h = ap class a_is ∙ sym (h.together i left) ∙ e ∙ h.together j right ∙ ap class (sym b_is)

  up_b : a < b → AreJoined i j before after
  up_b lt =
      let h : hi ≡ b = omega arith in
      let l : lo ≡ a = omega arith in
      let lower : lo < hi = omega arith in
      let within : hi < length before.names = let w = within_b in omega arith in
      let own_hi = ap (class_of before) h ∙ own_b ∙ sym h in
      let own_lo = ap (class_of before) l ∙ own_a ∙ sym l in
      let one = joined_class before naming hi lo lower within own_hi own_lo after names kept in (
        (
          joined_nodes before naming hi lo lower within own_hi own_lo after names kept,
          joined_forced before naming hi lo lower within own_hi own_lo after names kept (λ class. class i ≡ class j) (λ class e admits. ap class h ∙ sym (meet_ab class e admits) ∙ sym (ap class l)),
          joined_falls before naming hi lo lower within own_hi own_lo after names kept,
        ),
        one i left (inr (sym a_is ∙ sym l)) ∙ sym (one j right (inl (sym b_is ∙ sym h))),
      )

  up_a : b < a → AreJoined i j before after
  up_a lt =
      let h : hi ≡ a = omega arith in
      let l : lo ≡ b = omega arith in
      let lower : lo < hi = omega arith in
      let within : hi < length before.names = let w = within_a in omega arith in
      let own_hi = ap (class_of before) h ∙ own_a ∙ sym h in
      let own_lo = ap (class_of before) l ∙ own_b ∙ sym l in
      let one = joined_class before naming hi lo lower within own_hi own_lo after names kept in (
        (
          joined_nodes before naming hi lo lower within own_hi own_lo after names kept,
          joined_forced before naming hi lo lower within own_hi own_lo after names kept (λ class. class i ≡ class j) (λ class e admits. ap class h ∙ meet_ab class e admits ∙ sym (ap class l)),
          joined_falls before naming hi lo lower within own_hi own_lo after names kept,
        ),
        one i left (inl (sym a_is ∙ sym h)) ∙ sym (one j right (inr (sym b_is ∙ sym l))),
      )

  pub joined : AreJoined i j before after
  joined = elim (cases_order a b) [
    | inl e ↦ absurd (apart e)
    | inr o ↦ elim o [ inl lt ↦ up_b lt | inr gt ↦ up_a gt ]
  ]
