-- What a sum asks, taken apart.
use Rattle.std.proofs.Common.{◌≡◌, ℕ, ◌+◌, ◌-◌, ◌*◌, ◌/◌, ◌≤◌, ◌<◌, zero, suc, List, [], ◌∷◌, ◌++◌, length, map, replicate, drop, Some, None, refl, sym, ap, ◌∙◌, subst, arith}
use Rattle.std.specs.Prelude.{◌↔◌, sum as std_sum}
use Rattle.std.specs.List.{AllZip, AllByRecursion}
use Rattle.std.proofs.lemmas.List.{length-append}
use Rattle.std.proofs.Math.Nat.{mul-div_cancel_left}
use Rattle.fvn_terms.specs.declared.plain.OpId.{OpId}
use Rattle.fvn_terms.specs.declared.declarations.Declarations.{Declarations}
use Rattle.fvn_terms.specs.Signature.{axioms}
use Rattle.fvn_terms.specs.Equality.{IsAssociative, identity}
use Rattle.fvn_forms.specs.Flat.{FlatTerm}
use Rattle.fvn_forms.specs.InOrder.{count, SameCounts}
use Rattle.fvn_forms.specs.Canon.{parts, all_parts, sum, inst}
use Rattle.fvn_forms.specs.Settled.{IsPiece, SettledValues}
use Rattle.fvn_forms.proofs.InOrder.{count_append, count_sort}
use Rattle.fvn_forms.proofs.Sums.{parts_sum, sum_parts, sum_same_counts}
use Rattle.fvn_forms.proofs.Build.{parts_none}
use Rattle.fvn_forms.proofs.Instances.{inst_settled}
use Rattle.fvn_match.specs.inner.Choices.{quotients, reduced}
use Rattle.fvn_match.specs.inner.Tallies.{tally, repeated, AreDistinct, AddsUp}
use Rattle.fvn_match.specs.inner.Candidates.{Values}
use Rattle.fvn_match.specs.inner.Goals.{SumsHold, Asked}
use Rattle.fvn_match.specs.declared.goals.Goals.{Goals, Done, Lists', Pairs'}
use Rattle.fvn_match.specs.declared.goals.SumGoal.{SumGoal}
use Rattle.fvn_match.proofs.Advancing.{sum-cons}
use Rattle.fvn_match.proofs.PatternOrder.{adds_same}
use Rattle.fvn_match.proofs.Tallies.{count_repeated, length_repeated, each_repeated, same_length, tally_elsewhere, zeros-tally, tally_none, tally-reduced, fits_quotients, numbers_in, fits_numbers, numbers_make_up}

-- goals with one sum more ask it too
pub asked_more : (d : Declarations) (goals : Goals) (more sums : List SumGoal) (X : Type 0) (c : Values) → SumsHold d more c ↔ (X × SumsHold d sums c) → Asked d goals more c ↔ (X × Asked d goals sums c)
asked_more d Done more sums X c same = same
asked_more d (Lists' ps ts r rest) more sums X c same =
    let k = asked_more d rest more sums X c same in
    (λ h. let j = k.0 h.1 in (j.0, (h.0, j.1)), λ h. (h.1.0, k.1 (h.0, h.1.1)))
asked_more d (Pairs' pairs r rest) more sums X c same =
    let k = asked_more d rest more sums X c same in
    (λ h. let j = k.0 h.1 in (j.0, (h.0, j.1)), λ h. (h.1.0, k.1 (h.0, h.1.1)))

pub length_numbers : (m ts : List FlatTerm) → length (numbers_in ts m) ≡ length ts
length_numbers m [] = refl
length_numbers m (t ∷ ts) = ap suc (length_numbers m ts)

-- as many numbers are left
pub length_reduced : (k : ℕ) (ns js : List ℕ) → length js ≡ length ns → length (reduced k ns js) ≡ length ns
length_reduced k [] js e = refl
length_reduced k (n ∷ ns) [] e = absurd (omega arith)
length_reduced k (n ∷ ns) (j ∷ js) e = let a = length_reduced k ns js (omega arith) in omega arith

-- where k times a choice leaves nothing, it is the quotients
exact : (k : ℕ) → 1 ≤ k → (ns js : List ℕ) → AllZip (λ j n. k * j ≤ n) js ns → std_sum (reduced k ns js) ≡ 0 → js ≡ quotients k ns
exact k some [] [] h e = refl
exact k some [] (j ∷ js) h e = absurd h
exact k some (n ∷ ns) [] h e = absurd h
exact k some (n ∷ ns) (j ∷ js) h e =
    let none : n - k * j ≡ 0 = omega (arith, sum-cons (n - k * j) (reduced k ns js)) in
    let rest = exact k some ns js h.1 (omega (arith, sum-cons (n - k * j) (reduced k ns js))) in
    let here : n / k ≡ j = ap (λ m. m / k) (let z : n ≡ k * j = omega (arith, h.0) in z) ∙ mul-div_cancel_left j (let z : 0 < k = omega arith in z) in
    ap (λ l. j ∷ l) rest ∙ ap (λ m. m ∷ quotients k ns) (sym here)

-- fewer numbers are left
pub reduced_fewer : (k : ℕ) (ns js : List ℕ) → std_sum (reduced k ns js) ≤ std_sum ns
reduced_fewer k [] js = omega arith
reduced_fewer k (n ∷ ns) [] = omega arith
reduced_fewer k (n ∷ ns) (j ∷ js) = let a = reduced_fewer k ns js in omega (arith, sum-cons (n - k * j) (reduced k ns js), sum-cons n ns)

module _ (d : Declarations) (f : OpId) (c : Values) where
  -- the summands of the instances of a list
  abbrev pub summands_of : List FlatTerm → List FlatTerm
  summands_of ps = all_parts d f (map (inst d c) ps)

  pub count_summands-append : (q : FlatTerm) (ps us : List FlatTerm) → count q (summands_of (ps ++ us)) ≡ count q (summands_of ps) + count q (summands_of us)
  count_summands-append q [] us = omega arith
  count_summands-append q (p ∷ ps) us =
      let a = count_append q (parts d f (inst d c p)) (summands_of (ps ++ us)) in
      let b = count_append q (parts d f (inst d c p)) (summands_of ps) in
      let e = count_summands-append q ps us in
      omega arith

  -- in another order they have the same summands
  pub count_summands-same : (q : FlatTerm) (ps us : List FlatTerm) → SameCounts ps us → count q (summands_of ps) ≡ count q (summands_of us)
  count_summands-same q ps us same = adds_same (λ l. count q (summands_of l)) (λ p. count q (parts d f (inst d c p))) (λ p l. count_append q (parts d f (inst d c p)) (summands_of l)) ps us same

  pub count_summands-replicate : (q : FlatTerm) (k : ℕ) (p : FlatTerm) → count q (summands_of (replicate k p)) ≡ k * count q (parts d f (inst d c p))
  count_summands-replicate q zero p = omega arith
  count_summands-replicate q (suc k) p =
      let a = count_append q (parts d f (inst d c p)) (summands_of (replicate k p)) in
      let b = count_summands-replicate q k p in
      omega arith

  pub length_summands-append : (ps us : List FlatTerm) → length (summands_of (ps ++ us)) ≡ length (summands_of ps) + length (summands_of us)
  length_summands-append [] us = omega arith
  length_summands-append (p ∷ ps) us =
      let a = length-append (parts d f (inst d c p)) (summands_of (ps ++ us)) in
      let b = length-append (parts d f (inst d c p)) (summands_of ps) in
      let e = length_summands-append ps us in
      omega arith

  length_summands-replicate : (k : ℕ) (p : FlatTerm) → length (summands_of (replicate k p)) ≡ k * length (parts d f (inst d c p))
  length_summands-replicate zero p = omega arith
  length_summands-replicate (suc k) p =
      let a = length-append (parts d f (inst d c p)) (summands_of (replicate k p)) in
      let b = length_summands-replicate k p in
      omega arith

  module _ (settled : SettledValues d c) where
    -- without an identity each pattern has a summand
    pub none_is_empty : identity (axioms d f) ≡ None → (p : FlatTerm) → 1 ≤ length (parts d f (inst d c p))
    none_is_empty e p = go (parts d f (inst d c p)) refl
      where
        go : (l : List FlatTerm) → parts d f (inst d c p) ≡ l → 1 ≤ length l
        go [] q = let n = parts_none d f (inst d c p) (inst_settled d c settled p) q in let z : Some n.0 ≡ None = sym n.1 ∙ e in cc
        go (t ∷ l) q = omega arith

    pub as_many : identity (axioms d f) ≡ None → (ps : List FlatTerm) → length ps ≤ length (summands_of ps)
    as_many e [] = omega arith
    as_many e (p ∷ ps) = let a = length-append (parts d f (inst d c p)) (summands_of ps) in let b = none_is_empty e p in let g = as_many e ps in omega arith

  -- all numbers together are the summands
  pub length_adds_up : (ps ts : List FlatTerm) (ns : List ℕ) → length ns ≡ length ts → AddsUp d f ps ts ns c → length (summands_of ps) ≡ std_sum ns
  length_adds_up ps ts ns long h = same_length (summands_of ps) (repeated ts ns) (λ q. h q ∙ sym (count_repeated q ts ns)) ∙ length_repeated ts ns long

  -- no pattern is left where no piece is
  pub adds_up_none : (ts : List FlatTerm) (ns : List ℕ) → length ns ≡ length ts → AddsUp d f [] ts ns c ↔ (std_sum ns ≡ 0)
  adds_up_none ts ns long = (λ h. zeros-tally ts ns long (λ q. sym (h q)), λ e q. sym (tally_none q ts ns long e))

  -- a group of k copies of p, and others
  module _ (settled : SettledValues d c) (assoc : IsAssociative (axioms d f)) (ps : List FlatTerm) (p : FlatTerm) (k : ℕ) (some : 1 ≤ k) (group : ps ≡ replicate k p ++ drop k ps) (ts : List FlatTerm) (ns : List ℕ) where
    own : List FlatTerm
    own = parts d f (inst d c p)

    counted : (q : FlatTerm) → count q (summands_of ps) ≡ k * count q (parts d f (inst d c p)) + count q (summands_of (drop k ps))
    counted q = ap (λ l. count q (summands_of l)) group ∙ count_summands-append q (replicate k p) (drop k ps) ∙ ap (λ n. n + count q (summands_of (drop k ps))) (count_summands-replicate q k p)

    pub measured : length (summands_of ps) ≡ k * length (parts d f (inst d c p)) + length (summands_of (drop k ps))
    measured = ap (λ l. length (summands_of l)) group ∙ length_summands-append (replicate k p) (drop k ps) ∙ ap (λ n. n + length (summands_of (drop k ps))) (length_summands-replicate k p)

    -- a choice of pieces that is the instance of p, and what is left, make up the whole
    pub choice_adds_up : AllByRecursion (IsPiece d f) ts → (js : List ℕ) → AllZip (λ j n. k * j ≤ n) js ns → inst d c p ≡ sum d f (repeated ts js) → AddsUp d f (drop k ps) ts (reduced k ns js) c → AddsUp d f ps ts ns c
    choice_adds_up pieces js fits is rest q =
        let a = counted q in
        let b = tally-reduced k q ts ns js fits in
        let e : count q (parts d f (inst d c p)) ≡ tally q ts js = ap (λ t. count q (parts d f t)) is ∙ ap (count q) (parts_sum d f (repeated ts js) (each_repeated (IsPiece d f) ts js pieces)) ∙ count_sort q (repeated ts js) ∙ count_repeated q ts js in
        let g = ap (λ n. k * n) e in
        let h = rest q in
        omega arith

    -- and where all pieces are made up, the pieces of p are such a choice
    module _ (long : length ns ≡ length ts) (distinct : AreDistinct ts) (h : AddsUp d f ps ts ns c) where
      among : (q : FlatTerm) → k * count q (parts d f (inst d c p)) ≤ tally q ts ns
      among q = let a = counted q in let b = h q in omega arith

      pub choice_fits : AllZip (λ j l. j ≤ l) (numbers_in ts (parts d f (inst d c p))) (quotients k ns)
      choice_fits = fits_numbers k some (parts d f (inst d c p)) ts ns long distinct (λ q more. among q)

      made_up : (q : FlatTerm) → tally q ts (numbers_in ts (parts d f (inst d c p))) ≡ count q (parts d f (inst d c p))
      made_up = numbers_make_up (parts d f (inst d c p)) ts distinct (λ q e. none q (tally_elsewhere q ts ns e))
        where
          none : (q : FlatTerm) → tally q ts ns ≡ 0 → count q (parts d f (inst d c p)) ≡ 0
          none q e = go (count q (parts d f (inst d c p))) k some (let a = among q in let b : k * count q (parts d f (inst d c p)) ≤ 0 = omega arith in b)
            where
              go : (n m : ℕ) → 1 ≤ m → m * n ≤ 0 → n ≡ 0
              go zero m a b = refl
              go (suc n) zero a b = absurd (omega arith)
              go (suc n) (suc m) a b = absurd (omega arith)

      pub choice_is : inst d c p ≡ sum d f (repeated ts (numbers_in ts (parts d f (inst d c p))))
      choice_is =
          sym (sum_parts d f (inst d c p) (inst_settled d c settled p))
          ∙ sum_same_counts d f (parts d f (inst d c p)) (repeated ts (numbers_in ts (parts d f (inst d c p)))) (λ q. sym (count_repeated q ts (numbers_in ts (parts d f (inst d c p))) ∙ made_up q))

      pub choice_leaves : AddsUp d f (drop k ps) ts (reduced k ns (numbers_in ts (parts d f (inst d c p)))) c
      choice_leaves q =
          let a = counted q in
          let b = h q in
          let e = tally-reduced k q ts ns (numbers_in ts (parts d f (inst d c p))) (fits_quotients k ns (numbers_in ts (parts d f (inst d c p))) choice_fits) in
          let g = ap (λ n. k * n) (made_up q) in
          omega arith

      pub choice_length : std_sum (numbers_in ts (parts d f (inst d c p))) ≡ length (parts d f (inst d c p))
      choice_length =
          sym (length_repeated ts (numbers_in ts (parts d f (inst d c p))) (length_numbers (parts d f (inst d c p)) ts))
          ∙ same_length (repeated ts (numbers_in ts (parts d f (inst d c p)))) (parts d f (inst d c p)) (λ q. count_repeated q ts (numbers_in ts (parts d f (inst d c p))) ∙ made_up q)

      -- where no other pattern is left, there is one choice
      pub only_choice : drop k ps ≡ [] → numbers_in ts (parts d f (inst d c p)) ≡ quotients k ns
      only_choice e = exact k some ns (numbers_in ts (parts d f (inst d c p))) (fits_quotients k ns (numbers_in ts (parts d f (inst d c p))) choice_fits) nothing
        where
          nothing : std_sum (reduced k ns (numbers_in ts (parts d f (inst d c p)))) ≡ 0
          nothing =
              (adds_up_none ts (reduced k ns (numbers_in ts (parts d f (inst d c p)))) (length_reduced k ns (numbers_in ts (parts d f (inst d c p))) (length_numbers (parts d f (inst d c p)) ts ∙ sym long) ∙ long)).0
              (subst (λ l. AddsUp d f l ts (reduced k ns (numbers_in ts (parts d f (inst d c p)))) c) e choice_leaves)
