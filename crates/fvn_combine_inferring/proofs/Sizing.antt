-- Sizes of values by their summands.
use Rattle.std.proofs.Common.{◌≡◌, ◌⊎◌, ℕ, zero, suc, ◌+◌, ◌<◌, ◌≤◌, true, false, List, [], ◌∷◌, ◌++◌, length, get_or, set, replicate, refl, sym, ap, ◌∙◌, subst, inl, inr, arith}
use Rattle.std.specs.Prelude.{Bool}
use Rattle.std.proofs.lemmas.Bool.{cases_Bool, cases_eq, cases_lt}
use Rattle.std.proofs.lemmas.List.{get_or-set_same, get_or-set_other, get_or-replicate, get_or_past, length-replicate}
use Rattle.std.proofs.lemmas.List.Elements.{All-push}
use Rattle.fvn_terms.specs.declared.plain.OpId.{OpId}
use Rattle.fvn_terms.specs.declared.declarations.Declarations.{Declarations}
use Rattle.fvn_terms.specs.Signature.{axioms}
use Rattle.fvn_terms.specs.Equality.{IsAssociative}
use Rattle.fvn_forms.specs.Flat.{FlatTerm, fconstant, plain, symbols}
use Rattle.fvn_forms.specs.InOrder.{one_if, count, SameCounts}
use Rattle.fvn_forms.specs.Canon.{parts, sum}
use Rattle.fvn_forms.specs.Order.{same_flat}
use Rattle.fvn_forms.specs.Settled.{Settled}
use Rattle.fvn_forms.proofs.Order.{same_flat_is}
use Rattle.fvn_forms.proofs.InOrder.{count_append, sort_same_counts}
use Rattle.fvn_forms.proofs.Build.{parts_none}
use Rattle.fvn_forms.proofs.Sums.{sum_parts}
use Rattle.fvn_forms.proofs.Sizes.{all_symbols, all_symbols-sort, some_nodes, symbols_sum}
use Rattle.fvn_combine_nodes.specs.Table.{NodeTable, IsWellMade}
use Rattle.fvn_combine_nodes.specs.States.{IsClosed, class_of}
use Rattle.fvn_combine_nodes.specs.declared.state.State.{State}
use Rattle.fvn_combine_bounds.specs.CombineChoicesTables.{HasSums}
use Rattle.fvn_combine_bounds.specs.CombineCompleteObeying.{GoWith}
use Rattle.fvn_combine_inferring.specs.Inferred.{HasNoValues, HaveTwoValues}
use Rattle.fvn_combine_inferring.specs.Rows.{summands, times, many, HasFewSummands}
use Rattle.fvn_combine_inferring.specs.inner.Bounds.{HaveSummands}
use Rattle.fvn_combine_inferring.specs.inner.Sizes.{IsLess, IsSaid, AreSaid, IsNoted, AreNoted, followed_mark, size, AreInside, IsNoSummand}
use Rattle.fvn_combine_inferring.specs.inner.Splits.{IsSplit}
use Rattle.fvn_combine_inferring.specs.declared.sizes.Inside.{Inside}
use Rattle.fvn_combine_inferring.proofs.Values.{split_adds}
use Rattle.fvn_combine_inferring.proofs.Added.{Adds, many_adds}
use Rattle.fvn_combine_inferring.proofs.Told.{other_times}

all_symbols-append : (l m : List FlatTerm) → all_symbols (l ++ m) ≡ all_symbols l + all_symbols m
all_symbols-append [] m = omega arith
all_symbols-append (t ∷ l) m = let e = all_symbols-append l m in omega (arith, e)

some_symbols : (v : FlatTerm) → 1 ≤ symbols v
some_symbols v = some_nodes (plain v)

length_symbols : (l : List FlatTerm) → length l ≤ all_symbols l
length_symbols [] = omega arith
length_symbols (t ∷ l) = let a = some_symbols t in let b = length_symbols l in omega (arith, a, b)

same_symbols : (l m : List FlatTerm) → SameCounts l m → all_symbols l ≡ all_symbols m
same_symbols l m h = sym (all_symbols-sort l) ∙ ap all_symbols (sort_same_counts l m h) ∙ all_symbols-sort m

-- a member of a list has no more symbols than all
pub counted_symbols : (q : FlatTerm) (l : List FlatTerm) → 0 < count q l → symbols q ≤ all_symbols l
counted_symbols q [] h = absurd (omega (arith, h))
counted_symbols q (p ∷ l) h = elim (cases_Bool (same_flat q p)) [
  | inl e ↦ (let n = ap symbols (same_flat_is q p e) in omega (arith, n))
  | inr n ↦ (let m = counted_symbols q l (let o = ap one_if n in omega (arith, h, o)) in omega (arith, m))
]

module _ (d : Declarations) (f : OpId) (v : FlatTerm) (settled : Settled d v) where
  -- the symbols of a form that has summands, and of one that has none
  pub of_parts : (t : FlatTerm) (l : List FlatTerm) → parts d f v ≡ t ∷ l → symbols v ≡ all_symbols (t ∷ l) + length l
  of_parts t l e = ap symbols (sym (sum_parts d f v settled) ∙ ap (sum d f) e) ∙ symbols_sum d f t l

  of_none : parts d f v ≡ [] → symbols v ≡ 1
  of_none e =
      let p = parts_none d f v settled e in
      let one : symbols (fconstant p.0) ≡ 1 = refl in
      ap symbols p.2 ∙ one

  -- a summand has no more symbols than the form
  pub part_symbols : (q : FlatTerm) → 0 < count q (parts d f v) → symbols q ≤ symbols v
  part_symbols q h = at (parts d f v) refl
    where
      at : (l : List FlatTerm) → parts d f v ≡ l → symbols q ≤ symbols v
      at [] e = absurd (let n = ap (count q) e in omega (arith, n, h))
      at (t ∷ l) e =
          let n = ap (count q) e in
          let a = counted_symbols q (t ∷ l) (omega (arith, n, h)) in
          let b = of_parts t l e in
          omega (arith, a, b)

module _ (d : Declarations) (t : NodeTable) (s : State) (f : OpId) (values : ℕ → FlatTerm) (go_with : GoWith d t s values) (i a b : ℕ) (h : Adds d t s f values go_with i a b) where
  all_added : all_symbols (summands d s f values i) ≡ all_symbols (summands d s f values a) + all_symbols (summands d s f values b)
  all_added =
      let l = summands d s f values a in
      let m = summands d s f values b in
      same_symbols (summands d s f values i) (l ++ m) (λ q. h q ∙ sym (count_append q l m)) ∙ all_symbols-append l m

  -- a sum has no fewer symbols than what it adds
  no_larger : size s values a ≤ size s values i
  no_larger = at (summands d s f values a) refl (summands d s f values i) refl
    where
      at : (l : List FlatTerm) → summands d s f values a ≡ l → (m : List FlatTerm) → summands d s f values i ≡ m → size s values a ≤ size s values i
      at [] e m g =
          let one = of_none d f (values (class_of s a)) (go_with.are.settled (class_of s a)) e in
          let some = some_symbols (values (class_of s i)) in
          omega (arith, one, some)
      at (x ∷ l) e [] g =
          let n = many_adds d t s f values go_with i a b h in
          let p = ap length e in
          let q = ap length g in
          absurd (omega (arith, n, p, q))
      at (x ∷ l) e (y ∷ m) g =
          let n = many_adds d t s f values go_with i a b h in
          let p = ap length e in
          let q = ap length g in
          let u = of_parts d f (values (class_of s a)) (go_with.are.settled (class_of s a)) x l e in
          let v = of_parts d f (values (class_of s i)) (go_with.are.settled (class_of s i)) y m g in
          let w = all_added in
          let k = ap all_symbols e in
          let r = ap all_symbols g in
          omega (arith, n, p, q, u, v, w, k, r)

  -- where what it adds besides has a summand, too, it has more
  smaller : 1 ≤ many d s f values a → 1 ≤ many d s f values b → size s values a < size s values i
  smaller some other = at (summands d s f values a) refl (summands d s f values i) refl
    where
      at : (l : List FlatTerm) → summands d s f values a ≡ l → (m : List FlatTerm) → summands d s f values i ≡ m → size s values a < size s values i
      at [] e m g = absurd (let p = ap length e in omega (arith, p, some))
      at (x ∷ l) e [] g =
          let n = many_adds d t s f values go_with i a b h in
          let p = ap length e in
          let q = ap length g in
          absurd (omega (arith, n, p, q))
      at (x ∷ l) e (y ∷ m) g =
          let n = many_adds d t s f values go_with i a b h in
          let p = ap length e in
          let q = ap length g in
          let u = of_parts d f (values (class_of s a)) (go_with.are.settled (class_of s a)) x l e in
          let v = of_parts d f (values (class_of s i)) (go_with.are.settled (class_of s i)) y m g in
          let w = all_added in
          let k = ap all_symbols e in
          let r = ap all_symbols g in
          let z = length_symbols (summands d s f values b) in
          omega (arith, n, p, q, u, v, w, k, r, z, other)

module _ (d : Declarations) (t : NodeTable) (made : IsWellMade t) (has : HasSums d t) (s : State) (closed : IsClosed d t s) (sorted : Bool) (f : OpId) (assoc : IsAssociative (axioms d f)) (i : ℕ) (p : ℕ × ℕ) (split : IsSplit t s f (class_of s i) p) where
  -- both classes of a split as pairs
  pub both_said : (proper : Bool) → (proper ≡ true → HaveSummands d t s sorted f p.0 p.1) → (large : ℕ) → large ≡ class_of s i → (list : List Inside) → AreInside d t s sorted list
      → AreInside d t s sorted ((list ++ (record { small = p.0; large = large; proper = proper }) ∷ []) ++ (record { small = p.1; large = large; proper = proper }) ∷ [])
  both_said proper both large is list h values go =
      let one : Inside = record { small = p.0; large = large; proper = proper } in
      let two : Inside = record { small = p.1; large = large; proper = proper } in
      All-push (IsSaid (size s values)) (list ++ one ∷ []) two (All-push (IsSaid (size s values)) list one (h values go) (first proper both)) (second proper both)
    where
      named : ℕ
      named = class_of s i

      added : Adds d t s f values go.go named p.0 p.1
      added q = split_adds d t has s closed values go.go made f assoc named p split q

      swapped : Adds d t s f values go.go named p.1 p.0
      swapped q = let e = added q in omega (arith, e)

      first : (b : Bool) → (b ≡ true → HaveSummands d t s sorted f p.0 p.1) → IsLess b (size s values p.0) (size s values large)
      first false c = let n = no_larger d t s f values go.go named p.0 p.1 added in let e = ap (size s values) is in omega (arith, n, e)
      first true c =
          let n = smaller d t s f values go.go named p.0 p.1 added ((c refl).first values go) ((c refl).second values go) in
          let e = ap (size s values) is in
          omega (arith, n, e)

      second : (b : Bool) → (b ≡ true → HaveSummands d t s sorted f p.0 p.1) → IsLess b (size s values p.1) (size s values large)
      second false c = let n = no_larger d t s f values go.go named p.1 p.0 swapped in let e = ap (size s values) is in omega (arith, n, e)
      second true c =
          let n = smaller d t s f values go.go named p.1 p.0 swapped ((c refl).second values go) ((c refl).first values go) in
          let e = ap (size s values) is in
          omega (arith, n, e)

module _ (d : Declarations) (t : NodeTable) (s : State) (sorted : Bool) (f : OpId) where
  -- the value of a class is no summand of one that has fewer symbols
  pub larger_out : (list : List Inside) → AreInside d t s sorted list → (k l : ℕ) → ((w : ℕ → ℕ) → AreSaid w list → w l < w k) → IsNoSummand d t s sorted f k l
  larger_out list inside k l less values go = at (times d s f values (values (class_of s k)) l) refl
    where
      at : (n : ℕ) → times d s f values (values (class_of s k)) l ≡ n → times d s f values (values (class_of s k)) l ≡ 0
      at zero e = e
      at (suc n) e =
          let a = part_symbols d f (values (class_of s l)) (go.go.are.settled (class_of s l)) (values (class_of s k)) (omega (arith, e)) in
          let b = less (size s values) (inside values go) in
          absurd (omega (arith, a, b))

  -- nor of one that has one summand at most, and differs
  pub few_out : (k l : ℕ) → HasFewSummands d t s sorted f l → HaveTwoValues d t s sorted k l → IsNoSummand d t s sorted f k l
  few_out k l few two values go = other_times d t s sorted f values go (values (class_of s k)) l (few values go) (two values go)

-- no values go with a state in which a class is smaller than itself
pub circular_out : (d : Declarations) (t : NodeTable) (s : State) (sorted : Bool) (list : List Inside) → AreInside d t s sorted list → ((w : ℕ → ℕ) → AreSaid w list → ⊥) → HasNoValues d t s sorted
circular_out d t s sorted list inside none values go = none (size s values) (inside values go)

-- a proper pair says so of its classes
pub said : (w : ℕ → ℕ) (pair : Inside) (k l : ℕ) → pair.proper ≡ true → pair.small ≡ k → pair.large ≡ l → IsSaid w pair → w k < w l
said w pair k l proper small large h =
    let a = subst (λ p. IsLess p (w pair.small) (w pair.large)) proper h in
    subst (λ n. w n < w l) small (subst (λ n. w pair.small < w n) large a)

-- nothing is noted at first
pub none_noted : (w : ℕ → ℕ) (k n : ℕ) → AreNoted w k (replicate n 0)
none_noted w k n x = subst (IsNoted w k x) (sym nothing) tt
  where
    nothing : get_or (replicate n zero) x zero ≡ zero
    nothing = elim (cases_lt x n) [
      | inl l ↦ get_or-replicate n x zero zero l
      | inr g ↦ get_or_past (replicate n zero) x zero (let e = length-replicate n zero in omega (arith, g, e))
    ]

-- one class more is noted
pub note_more : (w : ℕ → ℕ) (k : ℕ) (marks new : List ℕ) (x m : ℕ) → (new ≡ marks) ⊎ ((x < length marks) × (new ≡ set marks x m)) → IsNoted w k x m → AreNoted w k marks → AreNoted w k new
note_more w k marks new x m (inl e) is h = subst (AreNoted w k) (sym e) h
note_more w k marks new x m (inr e) is h = subst (AreNoted w k) (sym e.1) (λ y. elim (cases_eq y x) [
  | inl same ↦ subst (λ z. IsNoted w k z (get_or (set marks x m) z 0)) (sym same) (subst (IsNoted w k x) (sym (get_or-set_same marks x m 0 e.0)) is)
  | inr other ↦ subst (IsNoted w k y) (sym (get_or-set_other marks x y m 0 other)) (h y)
])

-- what follows of what is noted, by a pair that holds
pub mark_followed : (w : ℕ → ℕ) (k : ℕ) (e : Inside) (m : ℕ) → (m ≡ 0 → ⊥) → IsSaid w e → IsNoted w k e.small m → IsNoted w k e.large (followed_mark m e.proper)
mark_followed w k e m some said noted = at m e.proper some said noted
  where
    at : (m : ℕ) (b : Bool) → (m ≡ 0 → ⊥) → IsLess b (w e.small) (w e.large) → IsNoted w k e.small m → IsNoted w k e.large (followed_mark m b)
    at zero b some said noted = absurd (some refl)
    at (suc zero) true some said noted = omega (arith, said, noted)
    at (suc (suc n)) true some said noted = omega (arith, said, noted)
    at (suc zero) false some said noted = omega (arith, said, noted)
    at (suc (suc n)) false some said noted = omega (arith, said, noted)
