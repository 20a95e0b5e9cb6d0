-- Solutions that are marked, with their pieces.
use Rattle.std.proofs.Common.{◌≡◌, ℕ, zero, suc, ◌+◌, ◌*◌, ◌/◌, ◌%◌, ◌^◌, ◌<◌, ◌≤◌, Bool, true, false, List, [], ◌∷◌, ◌++◌, length, get_or, refl, sym, ap, ◌∙◌, subst, inl, inr, arith, Contains}
use Rattle.std.specs.Prelude.{nat_eq, if◌then◌else◌, ◌||◌}
use Rattle.std.proofs.Math.Nat.{pow-suc}
use Rattle.std.proofs.lemmas.Bool.{eq-eqb, ne_eqb}
use Rattle.std.proofs.lemmas.Nat.{shr-shr}
use Rattle.std.proofs.lemmas.List.Sums.{sum_by-cons}
use Rattle.fvn_base.proofs.Membership.{contains_here, contains_later, contains_cases, contains_none}
use Rattle.fvn_forms.specs.Flat.{FlatTerm}
use Rattle.fvn_forms.specs.InOrder.{one_if}
use Rattle.fvn_acunify.specs.ValidChoice.{chosen, column_sum}
use Rattle.fvn_flat.specs.SolvedLists.{component}
use Rattle.fvn_combine_supports.specs.Pieces.{has_some, taken}
use Rattle.fvn_combine_complete.specs.LaidOut.{copies, laid_out, laid_for}

-- the number whose bits are the marks
abbrev pub number_by : List Bool → ℕ
number_by [] = 0
number_by (b ∷ marks) = one_if b + 2 * number_by marks

-- the elements that are marked
abbrev pub marked : {A : Type 0} → List Bool → List A → List A
marked [] xs = []
marked (b ∷ marks) [] = []
marked (b ∷ marks) (x ∷ xs) = if b then x ∷ marked marks xs else marked marks xs

pub number_small : (marks : List Bool) → number_by marks < 2 ^ length marks
number_small [] = omega arith
number_small (b ∷ marks) = let r = number_small marks in let p = pow-suc 2 (length marks) in go b r p
  where
    go : (b : Bool) → number_by marks < 2 ^ length marks → 2 ^ suc (length marks) ≡ 2 ^ length marks * 2 → one_if b + 2 * number_by marks < 2 ^ suc (length marks)
    go true r p = omega (arith, r, p)
    go false r p = omega (arith, r, p)

-- the number chooses what is marked
pub chosen_marked : (marks : List Bool) (vs : List (List ℕ)) → length marks ≡ length vs → chosen (number_by marks) vs ≡ marked marks vs
chosen_marked [] [] e = refl
chosen_marked [] (v ∷ vs) e = absurd (omega (arith, e))
chosen_marked (b ∷ marks) [] e = refl
chosen_marked (b ∷ marks) (v ∷ vs) e = go b (chosen_marked marks vs (omega (arith, e)))
  where
    pick : Bool → List (List ℕ) → List (List ℕ)
    pick b l = if b then v ∷ l else l

    go : (b : Bool) → chosen (number_by marks) vs ≡ marked marks vs → pick (nat_eq ((one_if b + 2 * number_by marks) % 2) 1) (chosen ((one_if b + 2 * number_by marks) / 2) vs) ≡ pick b (marked marks vs)
    go true r =
        let m = number_by marks in
        let odd : (1 + 2 * m) % 2 ≡ 1 = omega arith in
        let half : (1 + 2 * m) / 2 ≡ m = omega arith in
        ap (λ b. pick b (chosen ((1 + 2 * m) / 2) vs)) (eq-eqb ((1 + 2 * m) % 2) 1 odd) ∙ ap (λ k. v ∷ chosen k vs) half ∙ ap (λ l. v ∷ l) r
    go false r =
        let m = number_by marks in
        let even : (0 + 2 * m) % 2 ≡ 0 = omega arith in
        let half : (0 + 2 * m) / 2 ≡ m = omega arith in
        ap (λ b. pick b (chosen ((0 + 2 * m) / 2) vs)) (ne_eqb ((0 + 2 * m) % 2) 1 (λ q. omega (arith, q, even))) ∙ ap (λ k. chosen k vs) half ∙ r

-- a mark is a bit of the number
pub bit_marked : (marks : List Bool) (i : ℕ) → i < length marks → get_or marks i false ≡ true → number_by marks / 2 ^ i % 2 ≡ 1
bit_marked [] i l e = absurd (omega (arith, l))
bit_marked (true ∷ marks) zero l e = let m = number_by marks in let one : (1 + 2 * m) / 1 % 2 ≡ 1 = omega arith in one
bit_marked (false ∷ marks) zero l e = cc
bit_marked (b ∷ marks) (suc i) l e = sym (half b) ∙ bit_marked marks i (omega (arith, l)) e
  where
    m : ℕ
    m = number_by marks

    half_is : (b : Bool) → (one_if b + 2 * m) / 2 ≡ m
    half_is true = omega arith
    half_is false = omega arith

    half : (b : Bool) → m / 2 ^ i % 2 ≡ (one_if b + 2 * m) / 2 ^ suc i % 2
    half b =
        let next : 1 + i ≡ suc i = omega arith in
        ap (λ n. n / 2 ^ i % 2) (sym (half_is b)) ∙ ap (λ n. n % 2) (shr-shr (one_if b + 2 * m) 1 i ∙ ap (λ n. (one_if b + 2 * m) / 2 ^ n) next)

-- a solution is marked exactly where it has pieces or passes a test
abbrev pub AreMarks : (List ℕ → Bool) → List Bool → List (List FlatTerm) → List (List ℕ) → Type 0
AreMarks also [] [] [] = Unit {0}
AreMarks also [] [] (v ∷ vs) = ⊥
AreMarks also [] (z ∷ zs) vs = ⊥
AreMarks also (b ∷ marks) [] vs = ⊥
AreMarks also (b ∷ marks) (z ∷ zs) [] = ⊥
AreMarks also (b ∷ marks) (z ∷ zs) (v ∷ vs) = (b ≡ (has_some z || also v)) × AreMarks also marks zs vs

-- the marks
abbrev pub marks_of : (List ℕ → Bool) → List (List FlatTerm) → List (List ℕ) → List Bool
marks_of also [] vs = []
marks_of also (z ∷ zs) [] = []
marks_of also (z ∷ zs) (v ∷ vs) = (has_some z || also v) ∷ marks_of also zs vs

pub are_marks : (also : List ℕ → Bool) (zs : List (List FlatTerm)) (vs : List (List ℕ)) → length zs ≡ length vs → AreMarks also (marks_of also zs vs) zs vs
are_marks also [] [] e = tt
are_marks also [] (v ∷ vs) e = absurd (omega (arith, e))
are_marks also (z ∷ zs) [] e = absurd (omega (arith, e))
are_marks also (z ∷ zs) (v ∷ vs) e = (refl, are_marks also zs vs (omega (arith, e)))

module _ (also : List ℕ → Bool) where
  pub marks_long : (marks : List Bool) (zs : List (List FlatTerm)) (vs : List (List ℕ)) → AreMarks also marks zs vs → length marks ≡ length vs
  marks_long [] [] [] h = refl
  marks_long [] [] (v ∷ vs) h = absurd h
  marks_long [] (z ∷ zs) vs h = absurd h
  marks_long (b ∷ marks) [] vs h = absurd h
  marks_long (b ∷ marks) (z ∷ zs) [] h = absurd h
  marks_long (b ∷ marks) (z ∷ zs) (v ∷ vs) h = ap suc (marks_long marks zs vs h.1)

  -- a solution that passes the test is marked
  pub also_marked : (marks : List Bool) (zs : List (List FlatTerm)) (vs : List (List ℕ)) → AreMarks also marks zs vs → (i : ℕ) → i < length vs → also (get_or vs i []) ≡ true → get_or marks i false ≡ true
  also_marked [] [] [] h i l e = absurd (omega (arith, l))
  also_marked [] [] (v ∷ vs) h i l e = absurd h
  also_marked [] (z ∷ zs) vs h i l e = absurd h
  also_marked (b ∷ marks) [] vs h i l e = absurd h
  also_marked (b ∷ marks) (z ∷ zs) [] h i l e = absurd h
  also_marked (b ∷ marks) ([] ∷ zs) (v ∷ vs) h zero l e = h.0 ∙ e
  also_marked (b ∷ marks) ((x ∷ xs) ∷ zs) (v ∷ vs) h zero l e = h.0
  also_marked (b ∷ marks) (z ∷ zs) (v ∷ vs) h (suc i) l e = also_marked marks zs vs h.1 i (omega (arith, l)) e

  pub passing_marked : (marks : List Bool) (zs : List (List FlatTerm)) (vs : List (List ℕ)) → AreMarks also marks zs vs → (v : List ℕ) → Contains vs v → also v ≡ true → Contains (marked marks vs) v
  passing_marked [] [] [] h v c e = absurd (contains_none v c)
  passing_marked [] [] (u ∷ vs) h v c e = absurd h
  passing_marked [] (z ∷ zs) vs h v c e = absurd h
  passing_marked (b ∷ marks) [] vs h v c e = absurd h
  passing_marked (b ∷ marks) (z ∷ zs) [] h v c e = absurd h
  passing_marked (true ∷ marks) (z ∷ zs) (u ∷ vs) h v c e = elim (contains_cases u vs v c) [
    | inl same ↦ subst (Contains (u ∷ marked marks vs)) same (contains_here u (marked marks vs))
    | inr r ↦ contains_later u (marked marks vs) v (passing_marked marks zs vs h.1 v r e)
  ]
  passing_marked (false ∷ marks) (z ∷ zs) (u ∷ vs) h v c e = elim (contains_cases u vs v c) [
    | inl same ↦ absurd (unmarked z h.0 same)
    | inr r ↦ passing_marked marks zs vs h.1 v r e
  ]
    where
      unmarked : (z : List FlatTerm) → false ≡ (has_some z || also u) → u ≡ v → ⊥
      unmarked [] n same = let m : false ≡ true = n ∙ ap also same ∙ e in cc
      unmarked (x ∷ xs) n same = let m : false ≡ true = n in cc

  pub as_many_marked : (marks : List Bool) (zs : List (List FlatTerm)) (vs : List (List ℕ)) → AreMarks also marks zs vs → length (marked marks zs) ≡ length (marked marks vs)
  as_many_marked [] [] [] h = refl
  as_many_marked [] [] (v ∷ vs) h = absurd h
  as_many_marked [] (z ∷ zs) vs h = absurd h
  as_many_marked (b ∷ marks) [] vs h = absurd h
  as_many_marked (b ∷ marks) (z ∷ zs) [] h = absurd h
  as_many_marked (true ∷ marks) (z ∷ zs) (v ∷ vs) h = ap suc (as_many_marked marks zs vs h.1)
  as_many_marked (false ∷ marks) (z ∷ zs) (v ∷ vs) h = as_many_marked marks zs vs h.1

  -- what is not marked lays out nothing
  pub laid_for_is : (columns : List ℕ) (j k : ℕ) → ((v : List ℕ) → component columns v k ≡ get_or v j 0) → (marks : List Bool) (zs : List (List FlatTerm)) (vs : List (List ℕ)) → AreMarks also marks zs vs → laid_out j zs vs ≡ laid_for columns k (marked marks vs) (marked marks zs)
  laid_for_is columns j k at [] [] [] h = refl
  laid_for_is columns j k at [] [] (v ∷ vs) h = absurd h
  laid_for_is columns j k at [] (z ∷ zs) vs h = absurd h
  laid_for_is columns j k at (b ∷ marks) [] vs h = absurd h
  laid_for_is columns j k at (b ∷ marks) (z ∷ zs) [] h = absurd h
  laid_for_is columns j k at (true ∷ marks) (z ∷ zs) (v ∷ vs) h =
      ap (λ n. copies n z ++ laid_out j zs vs) (sym (at v)) ∙ ap (λ l. copies (component columns v k) z ++ l) (laid_for_is columns j k at marks zs vs h.1)
  laid_for_is columns j k at (false ∷ marks) ([] ∷ zs) (v ∷ vs) h = ap (λ l. l ++ laid_out j zs vs) (copies_nothing (get_or v j 0)) ∙ laid_for_is columns j k at marks zs vs h.1
    where
      copies_nothing : (n : ℕ) → copies n [] ≡ []
      copies_nothing zero = refl
      copies_nothing (suc n) = copies_nothing n
  laid_for_is columns j k at (false ∷ marks) ((x ∷ xs) ∷ zs) (v ∷ vs) h = absurd (let e : false ≡ true = h.0 in cc)

  -- a solution that is marked, among all
  pub record MarkedAt (zs : List (List FlatTerm)) (vs : List (List ℕ)) (solutions : List (List ℕ)) (pieces : List (List FlatTerm)) (i : ℕ) : Type 0 where
    pub place : ℕ
    pub within : place < length vs
    pub why : (has_some (get_or zs place []) || also (get_or vs place [])) ≡ true
    pub solution : get_or solutions i [] ≡ get_or vs place []
    pub piece : get_or pieces i [] ≡ get_or zs place []

  pub marked_at : (marks : List Bool) (zs : List (List FlatTerm)) (vs : List (List ℕ)) → AreMarks also marks zs vs → (i : ℕ) → i < length (marked marks vs) → MarkedAt zs vs (marked marks vs) (marked marks zs) i
  marked_at [] [] [] h i l = absurd (omega (arith, l))
  marked_at [] [] (v ∷ vs) h i l = absurd h
  marked_at [] (z ∷ zs) vs h i l = absurd h
  marked_at (b ∷ marks) [] vs h i l = absurd h
  marked_at (b ∷ marks) (z ∷ zs) [] h i l = absurd h
  marked_at (false ∷ marks) (z ∷ zs) (v ∷ vs) h i l = let r = marked_at marks zs vs h.1 i l in record { place = suc r.place; within = (let m = r.within in omega (arith, m)); why = r.why; solution = r.solution; piece = r.piece }
  marked_at (true ∷ marks) (z ∷ zs) (v ∷ vs) h zero l = record { place = 0; within = omega arith; why = sym h.0; solution = refl; piece = refl }
  marked_at (true ∷ marks) (z ∷ zs) (v ∷ vs) h (suc i) l =
      let r = marked_at marks zs vs h.1 i (omega (arith, l)) in
      record { place = suc r.place; within = (let m = r.within in omega (arith, m)); why = r.why; solution = r.solution; piece = r.piece }

  -- a column has no less with more solutions
  pub sums_grow : (j : ℕ) (marks : List Bool) (zs : List (List FlatTerm)) (vs : List (List ℕ)) → AreMarks also marks zs vs → column_sum j (taken zs vs) ≤ column_sum j (marked marks vs)
  sums_grow j [] [] [] h = omega arith
  sums_grow j [] [] (v ∷ vs) h = absurd h
  sums_grow j [] (z ∷ zs) vs h = absurd h
  sums_grow j (b ∷ marks) [] vs h = absurd h
  sums_grow j (b ∷ marks) (z ∷ zs) [] h = absurd h
  sums_grow j (true ∷ marks) ([] ∷ zs) (v ∷ vs) h = let r = sums_grow j marks zs vs h.1 in let e = sum_by-cons (λ v. get_or v j 0) v (marked marks vs) in omega (arith, r, e)
  sums_grow j (true ∷ marks) ((x ∷ xs) ∷ zs) (v ∷ vs) h =
      let r = sums_grow j marks zs vs h.1 in
      let e = sum_by-cons (λ v. get_or v j 0) v (marked marks vs) in
      let f = sum_by-cons (λ v. get_or v j 0) v (taken zs vs) in
      omega (arith, r, e, f)
  sums_grow j (false ∷ marks) ([] ∷ zs) (v ∷ vs) h = sums_grow j marks zs vs h.1
  sums_grow j (false ∷ marks) ((x ∷ xs) ∷ zs) (v ∷ vs) h = absurd (let e : false ≡ true = h.0 in cc)

  -- and as much where the test passes none that has it
  pub sums_stay : (j : ℕ) → ((v : List ℕ) → also v ≡ true → get_or v j 0 ≡ 0) → (marks : List Bool) (zs : List (List FlatTerm)) (vs : List (List ℕ)) → AreMarks also marks zs vs → column_sum j (marked marks vs) ≡ column_sum j (taken zs vs)
  sums_stay j none [] [] [] h = refl
  sums_stay j none [] [] (v ∷ vs) h = absurd h
  sums_stay j none [] (z ∷ zs) vs h = absurd h
  sums_stay j none (b ∷ marks) [] vs h = absurd h
  sums_stay j none (b ∷ marks) (z ∷ zs) [] h = absurd h
  sums_stay j none (true ∷ marks) ([] ∷ zs) (v ∷ vs) h =
      let r = sums_stay j none marks zs vs h.1 in
      let e = sum_by-cons (λ v. get_or v j 0) v (marked marks vs) in
      let z = none v (sym h.0) in
      omega (arith, r, e, z)
  sums_stay j none (true ∷ marks) ((x ∷ xs) ∷ zs) (v ∷ vs) h =
      let r = sums_stay j none marks zs vs h.1 in
      let e = sum_by-cons (λ v. get_or v j 0) v (marked marks vs) in
      let f = sum_by-cons (λ v. get_or v j 0) v (taken zs vs) in
      omega (arith, r, e, f)
  sums_stay j none (false ∷ marks) ([] ∷ zs) (v ∷ vs) h = sums_stay j none marks zs vs h.1
  sums_stay j none (false ∷ marks) ((x ∷ xs) ∷ zs) (v ∷ vs) h = absurd (let e : false ≡ true = h.0 in cc)

  -- what is marked without pieces passes the test
  pub passes_without : (zs : List (List FlatTerm)) (vs solutions : List (List ℕ)) (pieces : List (List FlatTerm)) (i : ℕ) → (r : MarkedAt zs vs solutions pieces i) → get_or pieces i [] ≡ [] → also (get_or vs r.place []) ≡ true
  passes_without zs vs solutions pieces i r e = sym (ap (λ z. has_some z || also (get_or vs r.place [])) (sym r.piece ∙ e)) ∙ r.why
