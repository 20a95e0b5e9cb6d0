-- The pairs that groups of sorts declare, as a loop goes through them.
use Rattle.std.proofs.Common.{◌≡◌, ℕ, zero, suc, ◌+◌, ◌<◌, List, [], ◌∷◌, ◌++◌, length, map, get_or, take, Option, Some, None, refl, sym, ap, subst, ◌∙◌, ◌⊎◌, inl, inr, arith}
use Rattle.std.specs.List.{All, Contains}
use Rattle.std.specs.Prelude.{slice_get}
use Rattle.std.proofs.lemmas.List.{append-nil, append_assoc, map-append, take_more, get_or_read, flat_map_more}
use Rattle.std.proofs.lemmas.List.Elements.{All-weaker, All-contains, All-contains_itself, Contains-append_left, Contains-append_right, Contains-append_cases}
use Rattle.fvn_terms.specs.declared.plain.SortId.{SortId}
use Rattle.fvn_base.proofs.Membership.{contains_here, contains_later, contains_cases, contains_none, contains_map, map_contains}
use Rattle.fvn_forms.specs.SortOrder.{sort_number, same_sort}
use Rattle.fvn_syntax.specs.Pieces.{Text}
use Rattle.fvn_syntax.specs.Texts.{place}
use Rattle.fvn_syntax.specs.Names.{sort_named, sort_at}
use Rattle.fvn_syntax.proofs.TextLemmas.{place-below}
use Rattle.fvn_module_syntax.specs.declared.statement.Statement.{Statement}
use Rattle.fvn_module_names.specs.Order.{with_all, with_sort, crossed, declared_among, pairs_between, pairs_of_groups, pairs_in}
use Rattle.fvn_module_names.specs.inner.Classes.{AreAlike}
use Rattle.fvn_module_names.specs.inner.Joining.{AreLinked, IsJoinedBy}
use Rattle.fvn_module_names.proofs.Links.{linked-sym}
use Rattle.fvn_module_names.proofs.NewLists.{contains_with_all}
use Rattle.fvn_module_names.proofs.JoinLemmas.{joined-both, joined-other}
use Rattle.fvn_module_names.proofs.Partitions.{all_pairs}

abbrev Pair : Type 0
Pair = SortId × SortId

all_from : {A : Type 0} (P : A → Type 0) (xs : List A) → ((x : A) → Contains xs x → P x) → All P xs
all_from P xs f = All-weaker (Contains xs) P f xs (All-contains_itself xs)

-- Pairs of two groups.

pub contains_crossed : (ss qs : List SortId) (s q : SortId) → Contains ss s → Contains qs q → Contains {X = Pair} (crossed ss qs) (s, q)
contains_crossed [] qs s q h k = absurd (contains_none s h)
contains_crossed (t ∷ ss) qs s q h k = go (contains_cases t ss s h) (contains_crossed ss qs s q) where
  go : (t ≡ s) ⊎ Contains ss s → (Contains ss s → Contains qs q → Contains {X = Pair} (crossed ss qs) (s, q)) → Contains {X = Pair} (map (λ q. (t, q)) qs ++ crossed ss qs) (s, q)
  go (inl e) later = Contains-append_left (map (λ q. (t, q)) qs) (crossed ss qs) (s, q) (subst (λ (z : SortId). Contains {X = Pair} (map (λ q. (t, q)) qs) (z, q)) e (contains_map (λ q. (t, q)) qs q k))
  go (inr i) later = Contains-append_right (map (λ q. (t, q)) qs) (crossed ss qs) (s, q) (later i k)

pub crossed_contains : (ss qs : List SortId) (p : SortId × SortId) → Contains (crossed ss qs) p → Contains ss p.0 × Contains qs p.1
crossed_contains [] qs p h = absurd (contains_none p h)
crossed_contains (t ∷ ss) qs p h = go (Contains-append_cases (map (λ q. (t, q)) qs) (crossed ss qs) p h) (crossed_contains ss qs p) where
  go : Contains (map (λ q. (t, q)) qs) p ⊎ Contains (crossed ss qs) p → (Contains (crossed ss qs) p → Contains ss p.0 × Contains qs p.1) → Contains (t ∷ ss) p.0 × Contains qs p.1
  go (inl i) later = let w = map_contains (λ q. (t, q)) qs p i in
      let first : t ≡ p.0 = ap (λ (z : SortId × SortId). z.0) w.1.1 in
      let second : w.0 ≡ p.1 = ap (λ (z : SortId × SortId). z.1) w.1.1 in
      (subst (Contains (t ∷ ss)) first (contains_here t ss), subst (Contains qs) second w.1.0)
  go (inr i) later = let r = later i in (contains_later t ss p.0 r.0, r.1)

pub crossed-none : (ss : List SortId) → crossed ss [] ≡ []
crossed-none [] = refl
crossed-none (s ∷ ss) = crossed-none ss

-- Each sort is joined with the first one of the other group.
module _ (old mid new : List ℕ) (ls hs : List SortId) (low high : ℕ) (has_low : Contains ls (sort_number low)) (has_high : Contains hs (sort_number high))
    (g : IsJoinedBy old mid (map (λ s. (s, sort_number high)) ls)) (h : IsJoinedBy mid new (map (λ s. (s, sort_number low)) hs)) where
  both : IsJoinedBy old new (map (λ s. (s, sort_number high)) ls ++ map (λ s. (s, sort_number low)) hs)
  both = joined-both old mid new (map (λ s. (s, sort_number high)) ls) (map (λ s. (s, sort_number low)) hs) g h

  lower : (s : SortId) → Contains ls s → (s.0 < length old) × AreAlike new s.0 high
  lower s c =
      let in_both = Contains-append_left (map (λ s. (s, sort_number high)) ls) (map (λ s. (s, sort_number low)) hs) (s, sort_number high) (contains_map (λ s. (s, sort_number high)) ls s c) in
      ((All-contains (λ p. (p.0.0 < length old) × (p.1.0 < length old)) _ (s, sort_number high) both.in_range in_both).0, All-contains (λ p. AreAlike new p.0.0 p.1.0) _ (s, sort_number high) both.joined in_both)

  upper : (s : SortId) → Contains hs s → (s.0 < length old) × AreAlike new s.0 low
  upper s c =
      let in_both = Contains-append_right (map (λ s. (s, sort_number high)) ls) (map (λ s. (s, sort_number low)) hs) (s, sort_number low) (contains_map (λ s. (s, sort_number low)) hs s c) in
      ((All-contains (λ p. (p.0.0 < length old) × (p.1.0 < length old)) _ (s, sort_number low) both.in_range in_both).0, All-contains (λ p. AreAlike new p.0.0 p.1.0) _ (s, sort_number low) both.joined in_both)

  in_range : (p : SortId × SortId) → Contains (crossed ls hs) p → (p.0.0 < length old) × (p.1.0 < length old)
  in_range p c = let r = crossed_contains ls hs p c in ((lower p.0 r.0).0, (upper p.1 r.1).0)

  alike : (p : SortId × SortId) → Contains (crossed ls hs) p → AreAlike new p.0.0 p.1.0
  alike p c = let r = crossed_contains ls hs p c in (lower p.0 r.0).1 ∙ sym (lower (sort_number low) has_low).1 ∙ sym (upper p.1 r.1).1

  module _ (all : List (SortId × SortId)) (links : All (λ p. AreLinked all p.0 p.1) (crossed ls hs)) where
    linked : (s q : SortId) → Contains ls s → Contains hs q → AreLinked all s q
    linked s q c d = All-contains (λ p. AreLinked all p.0 p.1) (crossed ls hs) (s, q) links (contains_crossed ls hs s q c d)

    each : (p : SortId × SortId) → Contains (map (λ s. (s, sort_number high)) ls ++ map (λ s. (s, sort_number low)) hs) p → AreLinked all p.0 p.1
    each p c = go (Contains-append_cases (map (λ s. (s, sort_number high)) ls) (map (λ s. (s, sort_number low)) hs) p c) where
      go : Contains (map (λ s. (s, sort_number high)) ls) p ⊎ Contains (map (λ s. (s, sort_number low)) hs) p → AreLinked all p.0 p.1
      go (inl i) = let w = map_contains (λ s. (s, sort_number high)) ls p i in subst (λ (z : SortId × SortId). AreLinked all z.0 z.1) w.1.1 (linked w.0 (sort_number high) w.1.0 has_high)
      go (inr i) = let w = map_contains (λ s. (s, sort_number low)) hs p i in subst (λ (z : SortId × SortId). AreLinked all z.0 z.1) w.1.1 (linked-sym all (sort_number low) w.0 (linked (sort_number low) w.0 has_low w.1.0))

  pub joined-crossed : IsJoinedBy old new (crossed ls hs)
  joined-crossed = joined-other old new (map (λ s. (s, sort_number high)) ls ++ map (λ s. (s, sort_number low)) hs) (crossed ls hs) both
      (all_from (λ p. (p.0.0 < length old) × (p.1.0 < length old)) (crossed ls hs) in_range)
      (all_from (λ p. AreAlike new p.0.0 p.1.0) (crossed ls hs) alike)
      (λ all links. all_from (λ p. AreLinked all p.0 p.1) _ (each all links))

-- The first of a list.
pub first_is : (ss : List SortId) (i : ℕ) → sort_at (Some i) ≡ slice_get ss 0 → Contains ss (sort_number i)
first_is [] i e = cc
first_is (s ∷ ss) i e = let is : s ≡ sort_number i = cc in subst (Contains (s ∷ ss)) is (contains_here s ss)

pub first_none : (ss : List SortId) → sort_at None ≡ slice_get ss 0 → ss ≡ []
first_none [] e = refl
first_none (s ∷ ss) e = cc

module _ (sorts : List Text) where
  with_sort-append : (o : Option SortId) (xs ys : List SortId) → with_sort o (xs ++ ys) ≡ with_sort o xs ++ ys
  with_sort-append None xs ys = refl
  with_sort-append (Some s) xs ys = refl

  declared_among-append : (xs ys : List Text) → declared_among sorts (xs ++ ys) ≡ declared_among sorts xs ++ declared_among sorts ys
  declared_among-append [] ys = refl
  declared_among-append (x ∷ xs) ys = ap (with_sort (sort_named sorts x)) (declared_among-append xs ys) ∙ with_sort-append (sort_named sorts x) (declared_among sorts xs) (declared_among sorts ys)

  -- one more name is joined
  pub joined-name_more : (old mid new : List ℕ) (f : SortId → SortId × SortId) (names : List Text) (i : ℕ) (w : Text) → i < length names → w ≡ get_or names i w →
      IsJoinedBy old mid (map f (declared_among sorts (take i names))) → IsJoinedBy mid new (map f (declared_among sorts (w ∷ []))) → IsJoinedBy old new (map f (declared_among sorts (take (i + 1) names)))
  joined-name_more old mid new f names i w l e g h =
      let more : take (i + 1) names ≡ take i names ++ w ∷ [] = take_more names i w l ∙ ap (λ z. take i names ++ z ∷ []) (sym e) in
      let parts : map f (declared_among sorts (take (i + 1) names)) ≡ map f (declared_among sorts (take i names)) ++ map f (declared_among sorts (w ∷ [])) =
      ap (λ z. map f (declared_among sorts z)) more ∙ ap (map f) (declared_among-append (take i names) (w ∷ [])) ∙ map-append f (declared_among sorts (take i names)) (declared_among sorts (w ∷ [])) in
      subst (IsJoinedBy old new) (sym parts) (joined-both old mid new (map f (declared_among sorts (take i names))) (map f (declared_among sorts (w ∷ []))) g h)

  -- a declared sort has a number below that of all sorts
  pub declared-below : (ws : List Text) (s : SortId) → Contains (declared_among sorts ws) s → s.0 < length sorts
  declared-below [] s h = absurd (contains_none s h)
  declared-below (w ∷ ws) s h = go (place sorts w) refl h (declared-below ws s) where
    go : (o : Option ℕ) → place sorts w ≡ o → Contains (with_sort (sort_at o) (declared_among sorts ws)) s → (Contains (declared_among sorts ws) s → s.0 < length sorts) → s.0 < length sorts
    go None e k later = later k
    go (Some i) e k later = elim (contains_cases (sort_number i) (declared_among sorts ws) s k) [
      | inl is ↦ subst (λ (z : SortId). z.0 < length sorts) is (place-below sorts w i e)
      | inr k ↦ later k
    ]

  between-more : (g : List Text) (gs : List (List Text)) (i : ℕ) (d : List Text) → i < length gs →
      pairs_between sorts g (take (suc i) gs) ≡ pairs_between sorts g (take i gs) ++ crossed (declared_among sorts (get_or (g ∷ gs) i d)) (declared_among sorts (get_or gs i d))
  between-more g [] i d l = absurd (omega arith)
  between-more g (h ∷ hs) zero d l = append-nil (crossed (declared_among sorts g) (declared_among sorts h))
  between-more g (h ∷ hs) (suc i) d l =
      ap (λ z. crossed (declared_among sorts g) (declared_among sorts h) ++ z) (between-more h hs i d (omega arith))
      ∙ sym (append_assoc (crossed (declared_among sorts g) (declared_among sorts h)) (pairs_between sorts h (take i hs)) (crossed (declared_among sorts (get_or (h ∷ hs) i d)) (declared_among sorts (get_or hs i d))))

  -- the pairs of one more group
  pub groups-more : (gs : List (List Text)) (i : ℕ) (d : List Text) → suc i < length gs →
      pairs_of_groups sorts (take (suc (suc i)) gs) ≡ pairs_of_groups sorts (take (suc i) gs) ++ crossed (declared_among sorts (get_or gs i d)) (declared_among sorts (get_or gs (suc i) d))
  groups-more [] i d l = absurd (omega arith)
  groups-more (g ∷ gs) i d l = between-more g gs i d (omega arith)

  pub all_pairs-more : (sts : List Statement) (i : ℕ) (st : Statement) → i < length sts → st ≡ get_or sts i st → all_pairs sorts (take (i + 1) sts) ≡ all_pairs sorts (take i sts) ++ pairs_in sorts st
  all_pairs-more sts i st l e =
      ap (all_pairs sorts) (take_more sts i st l ∙ ap (λ z. take i sts ++ z ∷ []) (sym e))
      ∙ sym (flat_map_more (pairs_in sorts) [] (take i sts) st)

  -- the pairs of one more group, by the groups that are read
  pub groups-more-at : (gs : List (List Text)) (k i : ℕ) (lower upper : List Text) → suc k ≡ i → i < length gs → lower ≡ get_or gs k lower → upper ≡ get_or gs i upper →
      pairs_of_groups sorts (take (i + 1) gs) ≡ pairs_of_groups sorts (take i gs) ++ crossed (declared_among sorts lower) (declared_among sorts upper)
  groups-more-at gs k i lower upper e l at_lower at_upper =
      let next : i + 1 ≡ suc (suc k) = omega arith in
      let one : get_or gs k upper ≡ lower = sym (get_or_read gs k lower (omega arith) at_lower upper) in
      let other : get_or gs (suc k) upper ≡ upper = ap (λ m. get_or gs m upper) e ∙ sym at_upper in
      ap (λ m. pairs_of_groups sorts (take m gs)) next
      ∙ groups-more gs k upper (omega arith)
      ∙ ap (λ m. pairs_of_groups sorts (take m gs) ++ crossed (declared_among sorts (get_or gs k upper)) (declared_among sorts (get_or gs (suc k) upper))) e
      ∙ ap (λ g. pairs_of_groups sorts (take i gs) ++ crossed (declared_among sorts g) (declared_among sorts (get_or gs (suc k) upper))) one
      ∙ ap (λ g. pairs_of_groups sorts (take i gs) ++ crossed (declared_among sorts lower) (declared_among sorts g)) other

  -- the declared sorts of one more name
  pub declared-more : (names : List Text) (i : ℕ) (w : Text) → i < length names → w ≡ get_or names i w → declared_among sorts (take (i + 1) names) ≡ declared_among sorts (take i names) ++ declared_among sorts (w ∷ [])
  declared-more names i w l e =
      ap (declared_among sorts) (take_more names i w l ∙ ap (λ z. take i names ++ z ∷ []) (sym e)) ∙ declared_among-append (take i names) (w ∷ [])

  -- distinct declared sorts have numbers below that of all sorts
  pub distinct-below : (names : List Text) (numbers : List ℕ) → map sort_number numbers ≡ with_all same_sort [] (declared_among sorts names) → All (λ n. n < length sorts) numbers
  distinct-below names numbers e = all_from (λ n. n < length sorts) numbers each where
    each : (n : ℕ) → Contains numbers n → n < length sorts
    each n c = elim (contains_with_all same_sort [] (declared_among sorts names) (sort_number n) (subst (λ ss. Contains ss (sort_number n)) e (contains_map sort_number numbers n c))) [
      | inl none ↦ absurd (contains_none (sort_number n) none)
      | inr i ↦ declared-below names (sort_number n) i
    ]
