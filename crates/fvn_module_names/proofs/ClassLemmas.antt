-- Classes of numbers stay disjoint and listed.
use Rattle.std.proofs.Common.{◌≡◌, ◌≢◌, ℕ, ◌+◌, ◌<◌, ◌≤◌, List, [], ◌∷◌, ◌++◌, length, get_or, set, take, map, refl, sym, ap, subst, ◌∙◌, ◌⊎◌, inl, inr, arith}
use Rattle.std.specs.List.{All, Contains, range_with_len}
use Rattle.std.proofs.lemmas.Bool.{cases_eq, cases_lt}
use Rattle.std.proofs.lemmas.List.{length-set, get_or-set_same, get_or-set_other, get_or_past, take_more, get_or_default}
use Rattle.std.proofs.lemmas.List.FromFn.{length-range_with_len, get_or-range_with_len, length-map-range_with_len, get_or-map-range_with_len}
use Rattle.std.proofs.lemmas.List.Elements.{Contains-append_left, Contains-append_right, Contains-append_cases, Contains-push, Contains-push_cases}
use Rattle.fvn_base.proofs.Membership.{contains_here, contains_cases, contains_none}
use Rattle.fvn_module_names.specs.inner.Classes.{label, IsClassed, IsRelabelled, IsMerged}

-- Labels.

pub relabelled-none : (labels : List ℕ) (one : ℕ) → IsRelabelled labels labels [] one
relabelled-none labels one = record { as_long = refl; listed = λ i h. absurd (contains_none i h); others = λ i h. refl }

pub relabelled-more : (old new listed : List ℕ) (j i one : ℕ) → j < length listed → get_or listed j 0 ≡ i → i < length old →
    IsRelabelled old new (take j listed) one → IsRelabelled old (set new i one) (take (j + 1) listed) one
relabelled-more old new list j i one within at in_range r = rw (take_more list j 0 within, at) (record {
  as_long = length-set new i one ∙ r.as_long;
  listed = λ k h. here k (Contains-push_cases (take j list) i k h) (cases_eq k i);
  others = λ k h. there k h (cases_eq k i);
}) where
  long : i < length new
  long = let e = r.as_long in omega arith

  here : (k : ℕ) → Contains (take j list) k ⊎ (i ≡ k) → (k ≡ i) ⊎ (k ≡ i → ⊥) → label (set new i one) k ≡ one
  here k h (inl e) = ap (λ n. get_or (set new i one) n 0) e ∙ get_or-set_same new i one 0 long
  here k (inl h) (inr ne) = get_or-set_other new i k one 0 ne ∙ r.listed k h
  here k (inr e) (inr ne) = absurd (ne (sym e))

  there : (k : ℕ) → (Contains (take j list ++ i ∷ []) k → ⊥) → (k ≡ i) ⊎ (k ≡ i → ⊥) → label (set new i one) k ≡ label old k
  there k h (inl e) = absurd (h (subst (Contains (take j list ++ i ∷ [])) (sym e) (Contains-push (take j list) i)))
  there k h (inr ne) = get_or-set_other new i k one 0 ne ∙ r.others k (λ c. h (Contains-append_left (take j list) (i ∷ []) k c))

-- Members.

-- each number is in a class of its own
pub classed-new : (n : ℕ) → IsClassed (range_with_len 0 n) (map (λ i. i ∷ []) (range_with_len 0 n))
classed-new n = record { as_many = many; in_range = in_range; listed = listed; only = only } where
  members : List (List ℕ)
  members = map (λ i. i ∷ []) (range_with_len 0 n)

  labels-long : length (range_with_len 0 n) ≡ n
  labels-long = length-range_with_len 0 n

  members-long : length members ≡ n
  members-long = length-map-range_with_len (λ i. i ∷ []) 0 n

  many : length members ≡ length (range_with_len 0 n)
  many = members-long ∙ sym labels-long

  own : (i : ℕ) → i < n → label (range_with_len 0 n) i ≡ i
  own i l = get_or-range_with_len 0 n i 0 l ∙ omega arith

  in_range : (i : ℕ) → i < length (range_with_len 0 n) → label (range_with_len 0 n) i < length (range_with_len 0 n)
  in_range i l = let k : i < n = (let e = labels-long in omega arith) in let e = own i k in omega arith

  alone : (i : ℕ) → i < n → get_or members i [] ≡ i ∷ []
  alone i l = get_or-map-range_with_len (λ i. i ∷ []) 0 n i i [] l (omega arith)

  listed : (i : ℕ) → i < length (range_with_len 0 n) → Contains (get_or members (label (range_with_len 0 n) i) []) i
  listed i l =
      let k : i < n = (let e = labels-long in omega arith) in
      subst (λ ms. Contains ms i) (sym (ap (λ m. get_or members m []) (own i k) ∙ alone i k)) (contains_here i [])

  only : (l i : ℕ) → Contains (get_or members l []) i → (i < length (range_with_len 0 n)) × (label (range_with_len 0 n) i ≡ l)
  only l i h = go (cases_lt l n) where
    go : (l < n) ⊎ (n ≤ l) → (i < length (range_with_len 0 n)) × (label (range_with_len 0 n) i ≡ l)
    go (inl k) = elim (contains_cases l [] i (subst (λ ms. Contains ms i) (alone l k) h)) [
      | inl e ↦ ((let m = labels-long in omega arith), ap (label (range_with_len 0 n)) (sym e) ∙ own l k)
      | inr none ↦ absurd (contains_none i none)
    ]
    go (inr k) = absurd (contains_none i (subst (λ ms. Contains ms i) (get_or_past members l [] (let m = members-long in omega arith)) h))

module _ (old new : List ℕ) (members : List (List ℕ)) (from into : ℕ) (classed : IsClassed old members) (low : from < length old) (high : into < length old) (apart : from ≢ into) where
  abbrev pub moving : List ℕ
  moving = get_or members from []

  abbrev pub staying : List ℕ
  staying = get_or members into []

  abbrev pub after : List (List ℕ)
  after = set (set members from []) into (staying ++ moving)

  pub moved-in_range : All (λ i. i < length old) moving
  moved-in_range k d l = (classed.only from (get_or moving k d) (k, l, get_or_default moving k (get_or moving k d) d l)).0

  module _ (r : IsRelabelled old new moving into) where
    pub merged : IsMerged old new from into
    merged = record {
      as_long = r.as_long;
      moved = λ i l e. r.listed i (subst (λ m. Contains (get_or members m []) i) e (classed.listed i l));
      others = λ i l ne. r.others i (λ c. ne (classed.only from i c).1);
    }

    at_into : get_or after into [] ≡ staying ++ moving
    at_into = get_or-set_same (set members from []) into (staying ++ moving) [] (let e = classed.as_many in let f = length-set members from [] in omega arith)

    at_from : get_or after from [] ≡ []
    at_from = get_or-set_other (set members from []) into from (staying ++ moving) [] apart ∙ get_or-set_same members from [] [] (let e = classed.as_many in omega arith)

    elsewhere : (l : ℕ) → l ≢ from → l ≢ into → get_or after l [] ≡ get_or members l []
    elsewhere l f i = get_or-set_other (set members from []) into l (staying ++ moving) [] i ∙ get_or-set_other members from l [] [] f

    in_range : (i : ℕ) → i < length new → label new i < length new
    in_range i l = go (cases_eq (label old i) from) where
      within : i < length old
      within = let e = r.as_long in omega arith

      go : (label old i ≡ from) ⊎ (label old i ≡ from → ⊥) → label new i < length new
      go (inl e) = let k = merged.moved i within e in let long = r.as_long in omega arith
      go (inr ne) = let k = merged.others i within ne in let long = r.as_long in let m = classed.in_range i within in omega arith

    listed : (i : ℕ) → i < length new → Contains (get_or after (label new i) []) i
    listed i l = go (cases_eq (label old i) from) (cases_eq (label old i) into) where
      within : i < length old
      within = let e = r.as_long in omega arith

      was : Contains (get_or members (label old i) []) i
      was = classed.listed i within

      go : (label old i ≡ from) ⊎ (label old i ≡ from → ⊥) → (label old i ≡ into) ⊎ (label old i ≡ into → ⊥) → Contains (get_or after (label new i) []) i
      go (inl e) h = subst (λ ms. Contains ms i) (sym (ap (λ m. get_or after m []) (merged.moved i within e) ∙ at_into))
          (Contains-append_right staying moving i (subst (λ m. Contains (get_or members m []) i) e was))
      go (inr ne) (inl e) = subst (λ ms. Contains ms i) (sym (ap (λ m. get_or after m []) (merged.others i within ne ∙ e) ∙ at_into))
          (Contains-append_left staying moving i (subst (λ m. Contains (get_or members m []) i) e was))
      go (inr nf) (inr ni) = subst (λ ms. Contains ms i) (sym (ap (λ m. get_or after m []) (merged.others i within nf) ∙ elsewhere (label old i) nf ni)) was

    only : (l i : ℕ) → Contains (get_or after l []) i → (i < length new) × (label new i ≡ l)
    only l i h = go (cases_eq l into) (cases_eq l from) where
      long : length new ≡ length old
      long = r.as_long

      from_old : (m : ℕ) → m ≢ from → Contains (get_or members m []) i → (i < length new) × (label new i ≡ m)
      from_old m ne c =
          let was = classed.only m i c in
          let within : i < length old = was.0 in
          (omega arith, merged.others i within (λ e. ne (sym was.1 ∙ e)) ∙ was.1)

      go : (l ≡ into) ⊎ (l ≡ into → ⊥) → (l ≡ from) ⊎ (l ≡ from → ⊥) → (i < length new) × (label new i ≡ l)
      go (inl e) f = subst (λ m. (i < length new) × (label new i ≡ m)) (sym e) (elim (Contains-append_cases staying moving i (subst (λ ms. Contains ms i) (ap (λ m. get_or after m []) e ∙ at_into) h)) [
        | inl c ↦ from_old into (λ q. apart (sym q)) c
        | inr c ↦ let was = classed.only from i c in let within : i < length old = was.0 in (omega arith, merged.moved i within was.1)
      ])
      go (inr ne) (inl e) = absurd (contains_none i (subst (λ ms. Contains ms i) (ap (λ m. get_or after m []) e ∙ at_from) h))
      go (inr ni) (inr nf) = from_old l nf (subst (λ ms. Contains ms i) (elsewhere l nf ni) h)

    pub classed-merged : IsClassed new after
    classed-merged = record {
      as_many = length-set (set members from []) into (staying ++ moving) ∙ length-set members from [] ∙ classed.as_many ∙ sym r.as_long;
      in_range = in_range;
      listed = listed;
      only = only;
    }
