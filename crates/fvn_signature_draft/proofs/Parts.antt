-- The sorts that an order joins, and the first of them.
use Rattle.std.proofs.Common.{◌≡◌, ℕ, zero, suc, ◌+◌, ◌-◌, ◌<◌, ◌≤◌, Bool, true, false, List, [], ◌∷◌, ◌++◌, map, length, get_or, refl, sym, ap, subst, ◌∙◌, inl, inr, arith, Option, Some, None}
use Rattle.std.specs.List.{All, Contains, range_with_len}
use Rattle.std.specs.Prelude.{cond, find, unwrap_or}
use Rattle.std.proofs.lemmas.Bool.{true≢false, false_from_ne_true}
use Rattle.std.proofs.lemmas.List.{length-map, get_or-map, map-append}
use Rattle.std.proofs.lemmas.List.Sums.{count_by-le-length}
use Rattle.std.proofs.lemmas.List.FromFn.{map-range_with_len_more, length-map-range_with_len, get_or-map-range_with_len, sum_by-map-range_with_len_more}
use Rattle.std.proofs.lemmas.List.Elements.{All-append, All-map, All-weaker, Contains-append_left, Contains-append_right, Contains-append_cases}
use Rattle.fvn_terms.specs.declared.plain.SortId.{SortId}
use Rattle.fvn_forms.specs.SortOrder.{sort_number, same_sort}
use Rattle.fvn_base.proofs.Membership.{contains_map, map_contains}
use Rattle.fvn_forms.proofs.SortTests.{same_sort-true, same_sort-self, reaches-self, reaches-trans, reaches-one, reaches-sound}
use Rattle.fvn_signature.proofs.FirstSorts.{same_tests, find-agree}
use Rattle.fvn_signature.specs.FirstSorts.{first_sorts}
use Rattle.fvn_signature_draft.specs.declared.collected.Collected.{Collected}
use Rattle.fvn_signature_draft.specs.Collected.{turned, both_ways, joins, first_joined, is_first, parts_before, kind_of}

pub both_ways-turned : (ps : List (SortId × SortId)) (s q : SortId) → Contains (both_ways ps) (s, q) → Contains (both_ways ps) (q, s)
both_ways-turned ps s q h = elim (Contains-append_cases ps (map turned ps) (s, q) h) [
  | inl i ↦ Contains-append_right ps (map turned ps) (q, s) (contains_map turned ps (s, q) i)
  | inr i ↦ let w = map_contains turned ps (s, q) i in Contains-append_left ps (map turned ps) (q, s) (subst (Contains ps) (ap turned w.1.1) w.1.0)
]

module _ (c : Collected) where
  pub joins-self : (s : SortId) → joins c s s ≡ true
  joins-self = reaches-self (both_ways c.below)

  pub joins-trans : (s q r : SortId) → joins c s q ≡ true → joins c q r ≡ true → joins c s r ≡ true
  joins-trans = reaches-trans (both_ways c.below)

  pub joins-sym : (s q : SortId) → joins c s q ≡ true → joins c q s ≡ true
  joins-sym = reaches-sound (λ a b. joins c b a ≡ true) joins-self (λ a b e h k. joins-trans e b a k h) (both_ways c.below) (λ a b i. reaches-one (both_ways c.below) b a (both_ways-turned c.below a b i))

  pub joins-below : (s q : SortId) → Contains c.below (s, q) → joins c s q ≡ true
  joins-below s q h = reaches-one (both_ways c.below) s q (Contains-append_left c.below (map turned c.below) (s, q) h)

  -- joined sorts are joined with the same sorts
  joins-same : (s q : SortId) → joins c s q ≡ true → (r : SortId) → joins c s r ≡ joins c q r
  joins-same s q h r = same_tests (joins c s r) (joins c q r) (joins-trans q s r (joins-sym s q h)) (joins-trans s q r h)

-- what a search among the sorts from a on finds, where s passes
find_first : (p : SortId → Bool) (a n : ℕ) (s d : SortId) → a ≤ s.0 → s.0 < a + n → p s ≡ true → ((unwrap_or (find p (map sort_number (range_with_len a n))) d).0 ≤ s.0) × (p (unwrap_or (find p (map sort_number (range_with_len a n))) d) ≡ true)
find_first p a zero s d l m h = absurd (omega arith)
find_first p a (suc n) s d l m h = go (p (sort_number a)) refl (find_first p (a + 1) n s d) where
  Found : SortId → Type 0
  Found x = (x.0 ≤ s.0) × (p x ≡ true)

  go : (b : Bool) → p (sort_number a) ≡ b → (a + 1 ≤ s.0 → s.0 < (a + 1) + n → p s ≡ true → ((unwrap_or (find p (map sort_number (range_with_len (a + 1) n))) d).0 ≤ s.0) × (p (unwrap_or (find p (map sort_number (range_with_len (a + 1) n))) d) ≡ true)) → ((unwrap_or (cond b (Some (sort_number a)) (find p (map sort_number (range_with_len (a + 1) n)))) d).0 ≤ s.0) × (p (unwrap_or (cond b (Some (sort_number a)) (find p (map sort_number (range_with_len (a + 1) n)))) d) ≡ true)
  go true e rest = (l, e)
  go false e rest =
      let ne : a ≡ s.0 → ⊥ = λ q. true≢false (sym h ∙ ap p (ap sort_number (sym q)) ∙ e) in
      let more : a + 1 ≤ s.0 = above a s.0 l ne in
      rest more (omega arith) h where
        above : (a b : ℕ) → a ≤ b → (a ≡ b → ⊥) → a + 1 ≤ b
        above a b l ne = omega arith

module _ (c : Collected) where
  -- the first sort that is joined with a sort is not after it, and is joined with it
  pub first_joined-at : (s : SortId) → s.0 < c.sorts → ((first_joined c s).0 ≤ s.0) × (joins c s (first_joined c s) ≡ true)
  first_joined-at s l = find_first (joins c s) 0 c.sorts s s (omega arith) (omega arith) (joins-self c s)

  -- joined sorts have one first sort
  pub first_joined-same : (s q : SortId) → q.0 < c.sorts → joins c s q ≡ true → first_joined c s ≡ first_joined c q
  first_joined-same s q l h =
      let one : first_joined c s ≡ unwrap_or (find (joins c q) (first_sorts c.sorts)) s = ap (λ o. unwrap_or o s) (find-agree (joins c s) (joins c q) (joins-same c s q h) (first_sorts c.sorts)) in
      one ∙ other (find (joins c q) (first_sorts c.sorts)) refl where
        other : (o : Option SortId) → find (joins c q) (first_sorts c.sorts) ≡ o → unwrap_or (find (joins c q) (first_sorts c.sorts)) s ≡ unwrap_or (find (joins c q) (first_sorts c.sorts)) q
        other (Some x) e = ap (λ o. unwrap_or o s) e ∙ sym (ap (λ o. unwrap_or o q) e)
        other None e = absurd (let far = find_first (joins c q) 0 c.sorts q (sort_number (q.0 + 1)) (omega arith) (omega arith) (joins-self c q) in
            let none : unwrap_or (find (joins c q) (first_sorts c.sorts)) (sort_number (q.0 + 1)) ≡ sort_number (q.0 + 1) = ap (λ o. unwrap_or o (sort_number (q.0 + 1))) e in
            let n : q.0 + 1 ≡ (unwrap_or (find (joins c q) (first_sorts c.sorts)) (sort_number (q.0 + 1))).0 = ap (λ (z : SortId). z.0) (sym none) in
            let le = far.0 in omega arith)

  pub first_joined-first : (s : SortId) → s.0 < c.sorts → first_joined c (first_joined c s) ≡ first_joined c s
  first_joined-first s l =
      let at = first_joined-at s l in
      let f : SortId = first_joined c s in
      first_joined-same f s l (joins-sym c s f at.1)

  pub parts_before-more : (n : ℕ) → parts_before c (n + 1) ≡ parts_before c n + cond (is_first c (sort_number n)) 1 0
  parts_before-more n = sum_by-map-range_with_len_more (λ s. cond (is_first c s) 1 0) sort_number 0 n n (omega arith)

module _ (c : Collected) where
  pub parts_before-le : (n : ℕ) → parts_before c n ≤ n
  parts_before-le n = let a = count_by-le-length (is_first c) (first_sorts n) in let b = length-map-range_with_len sort_number 0 n in omega arith

  -- the kind of the first sort of a part is a new one
  pub kind_of-first : (s : ℕ) → sort_number s ≡ first_joined c (sort_number s) → (kind_of c (sort_number s) ≡ sort_number (c.sorts + parts_before c s)) × (parts_before c (s + 1) ≡ parts_before c s + 1)
  kind_of-first s e = (
    ap (λ (z : SortId). sort_number (c.sorts + parts_before c z.0)) (sym e),
    parts_before-more c s ∙ ap (λ b. parts_before c s + cond b 1 0) (ap (λ z. same_sort z (sort_number s)) (sym e) ∙ same_sort-self (sort_number s)),
  )

  -- the kind of a later one is that of the first
  pub kind_of-later : (s f : ℕ) → s < c.sorts → sort_number f ≡ first_joined c (sort_number s) → (f ≡ s → ⊥) → (f < s) × (kind_of c (sort_number s) ≡ kind_of c (sort_number f)) × (parts_before c (s + 1) ≡ parts_before c s)
  kind_of-later s f l e ne = (
    let at = (first_joined-at c (sort_number s) l).0 in let g : f ≡ (first_joined c (sort_number s)).0 = ap (λ (z : SortId). z.0) e in below f s (omega arith) ne,
    ap (λ (z : SortId). sort_number (c.sorts + parts_before c z.0)) (sym (ap (first_joined c) e ∙ first_joined-first c (sort_number s) l)),
    parts_before-more c s ∙ ap (λ b. parts_before c s + cond b 1 0) not_first ∙ omega arith,
  ) where
    below : (a b : ℕ) → a ≤ b → (a ≡ b → ⊥) → a < b
    below a b h n = omega arith

    not_first : is_first c (sort_number s) ≡ false
    not_first = false_from_ne_true _ (λ h. ne (ap (λ (z : SortId). z.0) (e ∙ same_sort-true (first_joined c (sort_number s)) (sort_number s) h)))

  pub kinds-more : (s : ℕ) → map (kind_of c) (first_sorts (s + 1)) ≡ map (kind_of c) (first_sorts s) ++ kind_of c (sort_number s) ∷ []
  kinds-more s = ap (map (kind_of c)) (map-range_with_len_more sort_number 0 s s (omega arith)) ∙ map-append (kind_of c) (first_sorts s) (sort_number s ∷ [])

  pub kinds-length : (s : ℕ) → length (map (kind_of c) (first_sorts s)) ≡ s
  kinds-length s = length-map (first_sorts s) (kind_of c) ∙ length-map-range_with_len sort_number 0 s

  pub kinds-at : (s f : ℕ) (d : SortId) → f < s → get_or (map (kind_of c) (first_sorts s)) f d ≡ kind_of c (sort_number f)
  kinds-at s f d l =
      let long : length (first_sorts s) ≡ s = length-map-range_with_len sort_number 0 s in
      let within : f < length (first_sorts s) = omega arith in
      get_or-map (kind_of c) (first_sorts s) f d d within ∙ ap (kind_of c) (get_or-map-range_with_len sort_number 0 s f f d l (omega arith))

  -- the pairs turned round are in range too
  pub both_ways-in_range : (n : ℕ) (ps : List (SortId × SortId)) → All (λ p. (p.0.0 < n) × (p.1.0 < n)) ps → All (λ p. (p.0.0 < n) × (p.1.0 < n)) (both_ways ps)
  both_ways-in_range n ps h =
      let P : SortId × SortId → Type 0 = λ p. (p.0.0 < n) × (p.1.0 < n) in
      All-append P ps (map turned ps) h (All-map P turned ps (All-weaker P (λ p. P (turned p)) (λ p k. (k.1, k.0)) ps h))
