-- A choice that is advanced in place: zeros up to a place, and then as it was.
use Rattle.std.proofs.Common.{◌≡◌, ℕ, ◌+◌, ◌-◌, ◌*◌, ◌<◌, Bool, true, false, List, [], ◌∷◌, ◌++◌, length, replicate, drop, get_or, set, Option, Some, None, refl, sym, ap, ◌∙◌, arith}
use Rattle.std.specs.Prelude.{◌&&◌, nat_lt, if◌then◌else◌, sum}
use Rattle.std.proofs.lemmas.List.{length-replicate, append_assoc, at_drop_more, set_at, get_or-append_right, get_or-drop, get_or_read, length-append, length-drop, replicate-append-replicate}
use Rattle.fvn_match.specs.inner.Choices.{with_zero, advanced, reduced}
use Rattle.fvn_match.proofs.Advancing.{sum-cons}

-- the choice with this many zeros before it
abbrev pub zeros_before : ℕ → Option (List ℕ) → Option (List ℕ)
zeros_before i None = None
zeros_before i (Some cs) = Some (replicate i 0 ++ cs)

replicate_more : (i : ℕ) (cs : List ℕ) → replicate (i + 1) 0 ++ cs ≡ replicate i 0 ++ 0 ∷ cs
replicate_more i cs = ap (λ l. l ++ cs) (sym (replicate-append-replicate i 1 0)) ∙ append_assoc (replicate i 0) (0 ∷ []) cs

pub zero_more : (i : ℕ) (o : Option (List ℕ)) → zeros_before i (with_zero o) ≡ zeros_before (i + 1) o
zero_more i None = refl
zero_more i (Some cs) = ap Some (sym (replicate_more i cs))

module _ (s : List ℕ) (i : ℕ) (within : i < length s) where
  pub placed_at : get_or (replicate i 0 ++ drop i s) i 0 ≡ get_or s i 0
  placed_at =
      get_or-append_right (replicate i 0) (drop i s) i i 0 (length-replicate i 0) (omega arith)
      ∙ ap (λ n. get_or (drop i s) n 0) (let e : i - i ≡ 0 = omega arith in e)
      ∙ get_or-drop i s 0 0
      ∙ ap (λ n. get_or s n 0) (let e : i + 0 ≡ i = omega arith in e)

  pub placed_set : (v : ℕ) → set (replicate i 0 ++ drop i s) i v ≡ replicate i 0 ++ v ∷ drop (i + 1) s
  placed_set v = at_drop_more (λ us. set (replicate i 0 ++ us) i v) s i 0 within ∙ set_at (replicate i 0) (get_or s i 0) (drop (i + 1) s) v i (length-replicate i 0)

  pub sum_drop : sum (drop i s) ≡ get_or s i 0 + sum (drop (i + 1) s)
  sum_drop = at_drop_more sum s i 0 within ∙ sum-cons (get_or s i 0) (drop (i + 1) s)

  module _ (room : ℕ) (limits : List ℕ) (long : i < length limits) where
    step : advanced room (drop i limits) (drop i s) ≡ (if nat_lt (get_or s i 0) (get_or limits i 0) && nat_lt (sum (drop i s)) room then Some ((get_or s i 0 + 1) ∷ drop (i + 1) s) else with_zero (advanced room (drop (i + 1) limits) (drop (i + 1) s)))
    step =
        at_drop_more (λ ls. advanced room ls (drop i s)) limits i 0 long
        ∙ at_drop_more (advanced room (get_or limits i 0 ∷ drop (i + 1) limits)) s i 0 within
        ∙ ap (λ n. if nat_lt (get_or s i 0) (get_or limits i 0) && nat_lt n room then Some ((get_or s i 0 + 1) ∷ drop (i + 1) s) else with_zero (advanced room (drop (i + 1) limits) (drop (i + 1) s))) (sym sum_drop)

    pub rises_here : (nat_lt (get_or s i 0) (get_or limits i 0) && nat_lt (sum (drop i s)) room) ≡ true → advanced room (drop i limits) (drop i s) ≡ Some ((get_or s i 0 + 1) ∷ drop (i + 1) s)
    rises_here e = step ∙ rw e refl

    pub carries_on : (nat_lt (get_or s i 0) (get_or limits i 0) && nat_lt (sum (drop i s)) room) ≡ false → zeros_before i (advanced room (drop i limits) (drop i s)) ≡ zeros_before (i + 1) (advanced room (drop (i + 1) limits) (drop (i + 1) s))
    carries_on e = ap (zeros_before i) (step ∙ rw e refl) ∙ zero_more i (advanced room (drop (i + 1) limits) (drop (i + 1) s))

    module _ (cur : List ℕ) (placed : cur ≡ replicate i 0 ++ drop i s) where
      pub length_placed : length cur ≡ length s
      length_placed = ap length placed ∙ (let a = length-append (replicate i 0) (drop i s) in let b = length-replicate {A = ℕ} i 0 in let e = length-drop i s in omega arith)

      pub read_placed : (v : ℕ) → v ≡ get_or cur i v → v ≡ get_or s i 0
      read_placed v e = get_or_read cur i v (let l = length_placed in omega arith) e 0 ∙ ap (λ l. get_or l i 0) placed ∙ placed_at

      module _ (together : ℕ) (left : together ≡ sum (drop i s)) (same : advanced room limits s ≡ zeros_before i (advanced room (drop i limits) (drop i s))) (v w : ℕ) (is : v ≡ get_or cur i v) (again : w ≡ get_or cur i w) where
        tested : (b : Bool) → (nat_lt v (get_or limits i 0) && nat_lt together room) ≡ b → (nat_lt (get_or s i 0) (get_or limits i 0) && nat_lt (sum (drop i s)) room) ≡ b
        tested b e = ap (λ n. nat_lt n (get_or limits i 0) && nat_lt (sum (drop i s)) room) (sym (read_placed v is)) ∙ ap (λ n. nat_lt v (get_or limits i 0) && nat_lt n room) (sym left) ∙ e

        -- a choice that rises at this place
        pub raised_placed : (nat_lt v (get_or limits i 0) && nat_lt together room) ≡ true → Some (set cur i (w + 1)) ≡ advanced room limits s
        raised_placed e =
            ap (λ l. Some (set l i (w + 1))) placed
            ∙ ap Some (placed_set (w + 1))
            ∙ ap (λ n. Some (replicate i 0 ++ (n + 1) ∷ drop (i + 1) s)) (read_placed w again)
            ∙ sym (same ∙ ap (zeros_before i) (rises_here (tested true e)))

        -- a choice that does not
        pub carried_placed : (nat_lt v (get_or limits i 0) && nat_lt together room) ≡ false → advanced room limits s ≡ zeros_before (i + 1) (advanced room (drop (i + 1) limits) (drop (i + 1) s))
        carried_placed e = same ∙ carries_on (tested false e)

        pub zero_placed : set cur i 0 ≡ replicate (i + 1) 0 ++ drop (i + 1) s
        zero_placed = ap (λ l. set l i 0) placed ∙ placed_set 0 ∙ sym (replicate_more i (drop (i + 1) s))

        pub sum_placed : together - w ≡ sum (drop (i + 1) s)
        sum_placed = let a = read_placed w again in let b = sum_drop in omega arith

-- what is left of both lists of numbers
pub reduced-drop : (k : ℕ) (ns js : List ℕ) (i : ℕ) → i < length ns → i < length js → reduced k (drop i ns) (drop i js) ≡ (get_or ns i 0 - k * get_or js i 0) ∷ reduced k (drop (i + 1) ns) (drop (i + 1) js)
reduced-drop k ns js i h j = at_drop_more (λ ms. reduced k ms (drop i js)) ns i 0 h ∙ at_drop_more (reduced k (get_or ns i 0 ∷ drop (i + 1) ns)) js i 0 j
