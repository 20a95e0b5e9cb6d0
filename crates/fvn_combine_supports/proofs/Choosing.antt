-- The vectors that have pieces are a valid choice.
use Rattle.std.proofs.Common.{◌≡◌, ◌≢◌, ℕ, zero, suc, ◌+◌, ◌*◌, ◌<◌, ◌≤◌, Bool, true, false, List, [], ◌∷◌, length, map, get_or, refl, sym, ap, ◌∙◌, subst, inl, inr, arith, All, AllPairs, Contains}
use Rattle.std.specs.Prelude.{nat_lt, cond, count_by}
use Rattle.std.proofs.lemmas.Bool.{cases_Bool, cases_lt, ltb-true, true≢false}
use Rattle.std.proofs.lemmas.List.Sums.{sum_by-cons}
use Rattle.std.proofs.lemmas.List.Elements.{All-weaker, All-contains_itself, Contains-get_or}
use Rattle.fvn_base.proofs.Membership.{contains_here, contains_later, contains_cases, contains_none}
use Rattle.fvn_base.proofs.Pigeonhole.{AllPairs-tail, AllPairs-first}
use Rattle.fvn_forms.specs.Flat.{FlatTerm}
use Rattle.fvn_forms.specs.Order.{same_flat}
use Rattle.fvn_forms.specs.InOrder.{one_if, count}
use Rattle.fvn_forms.proofs.Order.{same_flat_is, same_flat_itself, flat_equal_decided}
use Rattle.fvn_forms.proofs.InOrder.{count_itself}
use Rattle.fvn_acunify.specs.ValidChoice.{chosen, column_sum, touched, IsValid}
use Rattle.fvn_combine_supports.specs.Pieces.{has_some, number_of, taken, AreMadeUp, AreAlike, HasOnce, Meets, StandAlone}
use Rattle.fvn_combine_supports.proofs.Combining.{Sized, weight, get_or-combination}
use Rattle.fvn_combine_supports.proofs.Picking.{within, chosen_is}

-- what is counted of q in column j
abbrev counts : FlatTerm → List (List FlatTerm) → List (List ℕ) → ℕ → ℕ
counts q zs vs j = weight (map (count q) zs) vs j

column_sum-cons : (j : ℕ) (v : List ℕ) (vs : List (List ℕ)) → column_sum j (v ∷ vs) ≡ get_or v j 0 + column_sum j vs
column_sum-cons j v vs = sum_by-cons (λ v. get_or v j 0) v vs

-- a product with a factor of nothing
times_nothing : (a n : ℕ) → n ≡ 0 → a * n ≡ 0
times_nothing a n e = ap (λ k. a * k) e ∙ (let z : a * 0 ≡ 0 = omega arith in z)

-- where something is counted, a vector that is taken has it
filled_by : (j : ℕ) (q : FlatTerm) (zs : List (List FlatTerm)) (vs : List (List ℕ)) → 0 < counts q zs vs j → 0 < column_sum j (taken zs vs)
filled_by j q [] vs h = absurd (omega (arith, h))
filled_by j q (z ∷ zs) [] h = absurd (omega (arith, h))
filled_by j q ([] ∷ zs) (v ∷ vs) h = filled_by j q zs vs (omega (arith, h))
filled_by j q ((t ∷ ts) ∷ zs) (v ∷ vs) h =
    let c = column_sum-cons j v (taken zs vs) in
    elim (cases_lt 0 (get_or v j 0)) [
      | inl some ↦ omega (arith, some, c)
      | inr none ↦
          let n : get_or v j 0 ≡ 0 = omega arith in
          let z = times_nothing (count q (t ∷ ts)) (get_or v j 0) n in
          let rest = filled_by j q zs vs (omega (arith, h, z)) in
          omega (arith, rest, c)
    ]

-- where nothing is counted, none has it
none_by : (j : ℕ) (zs : List (List FlatTerm)) (vs : List (List ℕ)) → ((q : FlatTerm) → counts q zs vs j ≡ 0) → column_sum j (taken zs vs) ≡ 0
none_by j [] vs h = refl
none_by j (z ∷ zs) [] h = refl
none_by j ([] ∷ zs) (v ∷ vs) h = none_by j zs vs (λ q. let e = h q in omega (arith, e))
none_by j ((t ∷ ts) ∷ zs) (v ∷ vs) h =
    let c = column_sum-cons j v (taken zs vs) in
    let rest = none_by j zs vs (λ q. let e = h q in omega (arith, e)) in
    let e = h t in
    let own = ap (λ n. n * get_or v j 0) (count_itself t ts) in
    omega (arith, c, rest, e, own)

one_if_same : (q w : FlatTerm) → 1 ≤ one_if (same_flat q w) → q ≡ w
one_if_same q w h = elim (cases_Bool (same_flat q w)) [
  | inl e ↦ same_flat_is q w e
  | inr n ↦ absurd (let z = ap one_if n in omega (arith, h, z))
]

one_if_le : (b : Bool) → one_if b ≤ 1
one_if_le true = omega arith
one_if_le false = omega arith

one_if_other : (q w : FlatTerm) → (q ≡ w → ⊥) → one_if (same_flat q w) ≡ 0
one_if_other q w n = elim (cases_Bool (same_flat q w)) [
  | inl e ↦ absurd (n (same_flat_is q w e))
  | inr f ↦ ap one_if f
]

-- a head is there as often as the component
own_count : (t : FlatTerm) (ts : List FlatTerm) (n : ℕ) → n ≤ count t (t ∷ ts) * n
own_count t ts n = let own = ap (λ m. m * n) (count_itself t ts) in omega (arith, own)

-- where one flat form is counted, once, the vectors that are taken have one there
one_by : (j : ℕ) (w : FlatTerm) (zs : List (List FlatTerm)) (vs : List (List ℕ)) → ((q : FlatTerm) → counts q zs vs j ≡ one_if (same_flat q w)) → column_sum j (taken zs vs) ≡ 1
one_by j w [] vs h = absurd (let e = h w in let s = ap one_if (same_flat_itself w) in omega (arith, e, s))
one_by j w (z ∷ zs) [] h = absurd (let e = h w in let s = ap one_if (same_flat_itself w) in omega (arith, e, s))
one_by j w ([] ∷ zs) (v ∷ vs) h = one_by j w zs vs (λ q. let e = h q in omega (arith, e))
one_by j w ((t ∷ ts) ∷ zs) (v ∷ vs) h =
    let c = column_sum-cons j v (taken zs vs) in
    elim (cases_lt 0 (get_or v j 0)) [
      | inr none ↦
          let n : get_or v j 0 ≡ 0 = omega arith in
          let rest = one_by j w zs vs (λ q. let e = h q in let z = times_nothing (count q (t ∷ ts)) (get_or v j 0) n in omega (arith, e, z)) in
          omega (arith, rest, c, n)
      | inl some ↦
          let own = own_count t ts (get_or v j 0) in
          let et = h t in
          let bt = one_if_le (same_flat t w) in
          let is : t ≡ w = one_if_same t w (omega (arith, own, et, some)) in
          let rest = none_by j zs vs
          (λ q.
          let e = h q in
          elim (flat_equal_decided q w) [
            | inl same ↦
                let s : q ≡ t = same ∙ sym is in
                let o = ap (λ u. count u (t ∷ ts) * get_or v j 0) s in
                let b = one_if_le (same_flat q w) in
                omega (arith, e, o, own, b, some)
            | inr other ↦ let z = one_if_other q w other in omega (arith, e, z)
          ])
          in
          omega (arith, c, rest, own, et, bt, some)
    ]

-- a vector's pieces, where no more is counted than one flat form, once
single : (w : FlatTerm) (z : List FlatTerm) (n : ℕ) → has_some z ≡ true → 0 < n → ((q : FlatTerm) → count q z * n ≤ one_if (same_flat q w)) → (n ≡ 1) × (z ≡ w ∷ [])
single w [] n s h c = absurd (true≢false (sym s))
single w (t ∷ []) n s h c =
    let own = own_count t [] n in
    let ct = c t in
    let b = one_if_le (same_flat t w) in
    let is : t ≡ w = one_if_same t w (omega (arith, own, ct, h)) in
    (omega (arith, own, ct, b, h), ap (λ u. u ∷ []) is)
single w (t ∷ u ∷ us) n s h c =
    let own = own_count t (u ∷ us) n in
    let ct = c t in
    let is : t ≡ w = one_if_same t w (omega (arith, own, ct, h)) in
    let first = count_itself u us in
    let later : 1 * n ≤ count u (t ∷ u ∷ us) * n = times_le 1 (count u (t ∷ u ∷ us)) n (omega (arith, first)) in
    let cu = c u in
    let same : u ≡ w = one_if_same u w (omega (arith, later, cu, h)) in
    let one : u ≡ t = same ∙ sym is in
    let two : 2 ≤ count u (t ∷ u ∷ us) = let a = ap (λ x. one_if (same_flat u x)) (sym one) in let b = ap one_if (same_flat_itself u) in omega (arith, a, b, first) in
    let both : 2 * n ≤ count u (t ∷ u ∷ us) * n = times_le 2 (count u (t ∷ u ∷ us)) n two in
    let b = one_if_le (same_flat u w) in
    absurd (omega (arith, both, cu, b, h))
  where
    times_le : (a b n : ℕ) → a ≤ b → a * n ≤ b * n
    times_le a b n h = grind (arith, h)

single_at : (j : ℕ) (w : FlatTerm) (zs : List (List FlatTerm)) (vs : List (List ℕ)) → ((q : FlatTerm) → counts q zs vs j ≤ one_if (same_flat q w)) → (i : ℕ) → i < length vs → has_some (get_or zs i []) ≡ true → 0 < get_or (get_or vs i []) j 0 → (get_or (get_or vs i []) j 0 ≡ 1) × (get_or zs i [] ≡ w ∷ [])
single_at j w [] vs h i l s p = absurd (true≢false (sym s))
single_at j w (z ∷ zs) [] h i l s p = absurd (omega (arith, l))
single_at j w (z ∷ zs) (v ∷ vs) h zero l s p = single w z (get_or v j 0) s p (λ q. let e = h q in omega (arith, e))
single_at j w (z ∷ zs) (v ∷ vs) h (suc i) l s p = single_at j w zs vs (λ q. let e = h q in omega (arith, e)) i (omega (arith, l)) s p

-- where a vector that is taken stands
taken_from : (zs : List (List FlatTerm)) (vs : List (List ℕ)) (v : List ℕ) → Contains (taken zs vs) v → (i : ℕ) × (i < length vs) × (get_or vs i [] ≡ v) × (has_some (get_or zs i []) ≡ true)
taken_from [] vs v c = absurd (contains_none v c)
taken_from (z ∷ zs) [] v c = absurd (contains_none v c)
taken_from ([] ∷ zs) (u ∷ vs) v c = let r = taken_from zs vs v c in (suc r.0, omega (arith, r.1), r.2, r.3)
taken_from ((t ∷ ts) ∷ zs) (u ∷ vs) v c = elim (contains_cases u (taken zs vs) v c) [
  | inl e ↦ (0, omega arith, e, refl)
  | inr m ↦ let r = taken_from zs vs v m in (suc r.0, omega (arith, r.1), r.2, r.3)
]

-- of different numbers at most one passes a test that no two of them pass
abbrev as_number : Bool → ℕ
as_number b = cond b 1 0

none_pass : (test : ℕ → Bool) (cs : List ℕ) → ((c : ℕ) → Contains cs c → test c ≡ false) → count_by test cs ≡ 0
none_pass test [] h = refl
none_pass test (c ∷ cs) h =
    let s = sum_by-cons (λ x. as_number (test x)) c cs in
    let z : as_number (test c) ≡ 0 = ap as_number (h c (contains_here c cs)) in
    let rest = none_pass test cs (λ e m. h e (contains_later c cs e m)) in
    omega (arith, s, z, rest)

one_passes : (test : ℕ → Bool) (cs : List ℕ) → AllPairs ◌≢◌ cs → ((c e : ℕ) → Contains cs c → Contains cs e → c ≢ e → test c ≡ true → test e ≡ true → ⊥) → count_by test cs ≤ 1
one_passes test [] d h = omega arith
one_passes test (c ∷ cs) d h =
    let s = sum_by-cons (λ x. as_number (test x)) c cs in
    elim (cases_Bool (test c)) [
      | inl t ↦
          let z : as_number (test c) ≡ 1 = ap as_number t in
          let rest = none_pass test cs (λ e m. elim (cases_Bool (test e)) [ inl u ↦ absurd (h c e (contains_here c cs) (contains_later c cs e m) (AllPairs-first ◌≢◌ c cs e d m) t u) | inr f ↦ f ]) in
          omega (arith, s, z, rest)
      | inr f ↦
          let z : as_number (test c) ≡ 0 = ap as_number f in
          let rest = one_passes test cs (AllPairs-tail ◌≢◌ c cs d) (λ a b m n. h a b (contains_later c cs a m) (contains_later c cs b n)) in
          omega (arith, s, z, rest)
    ]

all_from : {X : Type 0} (P : X → Type 0) (xs : List X) → ((x : X) → Contains xs x → P x) → All P xs
all_from P xs h = All-weaker (Contains xs) P h xs (All-contains_itself xs)

module _ (columns : ℕ) (basis : List (List ℕ)) (sized : Sized columns basis) (counted : FlatTerm → List ℕ) (pieces : List (List FlatTerm)) (are : AreMadeUp columns basis counted pieces) (constants : List ℕ) (may_be_zero : List Bool) (alone : ℕ → FlatTerm) (meets : Meets constants may_be_zero basis counted alone) where
  counts_are : (q : FlatTerm) (j : ℕ) → counts q pieces basis j ≡ get_or (counted q) j 0
  counts_are q j = sym (get_or-combination columns (map (count q) pieces) basis sized j) ∙ ap (λ l. get_or l j 0) (are.made_up q)

  at_constant : (c : ℕ) → Contains constants c → (q : FlatTerm) → counts q pieces basis c ≡ one_if (same_flat q (alone c))
  at_constant c m q = counts_are q c ∙ meets.once c m q

  single_of : (i c : ℕ) → i < length basis → Contains constants c → has_some (get_or pieces i []) ≡ true → 0 < get_or (get_or basis i []) c 0 → (get_or (get_or basis i []) c 0 ≡ 1) × (get_or pieces i [] ≡ alone c ∷ [])
  single_of i c l m s p = single_at c (alone c) pieces basis (λ q. let e = at_constant c m q in omega (arith, e)) i l s p

  touched_once : (v : List ℕ) → Contains (taken pieces basis) v → touched constants v ≤ 1
  touched_once v h = one_passes (λ c. nat_lt 0 (get_or v c 0)) constants meets.distinct apart
    where
      alike : AreAlike constants v alone
      alike c e m n pc pe =
          let r = taken_from pieces basis v h in
          let a = (single_of r.0 c r.1 m r.3 (subst (λ u. 0 < get_or u c 0) (sym r.2) pc)).1 in
          let b = (single_of r.0 e r.1 n r.3 (subst (λ u. 0 < get_or u e 0) (sym r.2) pe)).1 in
          let both : alone c ∷ [] ≡ alone e ∷ [] = sym a ∙ b in
          cc

      once : HasOnce constants v
      once c m = elim (cases_lt 0 (get_or v c 0)) [
        | inr none ↦ omega (arith, none)
        | inl some ↦
            let r = taken_from pieces basis v h in
            let one = (single_of r.0 c r.1 m r.3 (subst (λ u. 0 < get_or u c 0) (sym r.2) some)).0 in
            let same = ap (λ u. get_or u c 0) r.2 in
            omega (arith, one, same)
      ]

      apart : (c e : ℕ) → Contains constants c → Contains constants e → c ≢ e → nat_lt 0 (get_or v c 0) ≡ true → nat_lt 0 (get_or v e 0) ≡ true → ⊥
      apart c e m n o p q =
          let r = taken_from pieces basis v h in
          meets.different c e m n o v (subst (Contains basis) r.2 (Contains-get_or basis r.0 [] r.1)) (ltb-true 0 (get_or v c 0) p) (ltb-true 0 (get_or v e 0) q) alike once

  pub chooses : IsValid constants may_be_zero basis (number_of pieces) × StandAlone constants basis pieces alone
  chooses =
      let is = chosen_is pieces basis are.as_many in (
        record {
          within = within pieces (length basis) are.as_many;
          filled = λ j z. let f = meets.filled j z in subst (λ l. 0 < column_sum j l) (sym is) (filled_by j f.0 pieces basis (let e = counts_are f.0 j in omega (arith, e, f.1)));
          once = all_from (λ c. column_sum c (chosen (number_of pieces) basis) ≡ 1) constants (λ c m. ap (column_sum c) is ∙ one_by c (alone c) pieces basis (at_constant c m));
          apart = subst (All (λ v. touched constants v ≤ 1)) (sym is) (all_from (λ v. touched constants v ≤ 1) (taken pieces basis) touched_once);
        },
        record {
          once = λ i c l m s p. (single_of i c l m s p).0;
          piece = λ i c l m s p. (single_of i c l m s p).1;
        },
      )
