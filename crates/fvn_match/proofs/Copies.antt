-- Patterns that stand side by side several times, and the pieces of which so many are left.
use Rattle.std.proofs.Common.{◌≡◌, ℕ, ◌+◌, ◌*◌, ◌/◌, ◌≤◌, ◌<◌, zero, suc, List, [], ◌∷◌, ◌++◌, length, replicate, drop, get_or, refl, sym, ap, ◌∙◌, arith}
use Rattle.std.specs.Prelude.{None, sum as std_sum}
use Rattle.std.specs.List.{AllZip}
use Rattle.std.proofs.lemmas.List.{length-append, length-replicate, take-append-drop, at_drop_more, drop_all}
use Rattle.std.proofs.Math.Nat.{mul-le-mul_right, mul-div-le}
use Rattle.fvn_terms.specs.declared.plain.OpId.{OpId}
use Rattle.fvn_terms.specs.declared.declarations.Declarations.{Declarations}
use Rattle.fvn_terms.specs.Signature.{axioms}
use Rattle.fvn_terms.specs.Equality.{identity}
use Rattle.fvn_forms.specs.Flat.{FlatTerm}
use Rattle.fvn_forms.specs.InOrder.{count}
use Rattle.fvn_forms.specs.Canon.{parts, inst}
use Rattle.fvn_match.specs.inner.Choices.{quotients}
use Rattle.fvn_match.specs.inner.Tallies.{tally, repeated}
use Rattle.fvn_match.specs.inner.Summands.{IsRun}
use Rattle.fvn_match.specs.inner.Candidates.{Values}
use Rattle.fvn_match.specs.inner.Goals.{patterns_of, pieces_of, SumFits}
use Rattle.fvn_match.specs.inner.Refusing.{HaveCopies, IsHopeless}
use Rattle.fvn_match.specs.declared.goals.SumGoal.{SumGoal}
use Rattle.fvn_match.proofs.Advancing.{sum-cons}
use Rattle.fvn_match.proofs.Tallies.{count_repeated, length_repeated, same_length, tally_elsewhere, numbers_in, fits_numbers, numbers_make_up}
use Rattle.fvn_match.proofs.Runs.{length_references}
use Rattle.fvn_match.proofs.SumSteps.{summands_of, length_numbers, count_summands-append, count_summands-replicate, as_many}

-- so many of the patterns so far stand there k times
pub record Copied (k many : ℕ) (ps : List FlatTerm) (left : ℕ) (rest : List FlatTerm) : Type 0 where
  pub some : List FlatTerm
  pub together : length some + left ≡ many
  pub among : (d : Declarations) (f : OpId) (c : Values) (q : FlatTerm) → k * count q (summands_of d f c some) + count q (summands_of d f c rest) ≤ count q (summands_of d f c ps)

pub copied_none : (k many : ℕ) (ps : List FlatTerm) → Copied k many ps many ps
copied_none k many ps = record { some = []; together = omega arith; among = λ d f c q. omega arith }

-- equal patterns more
module _ (k many : ℕ) (ps : List FlatTerm) (left m one : ℕ) (within : k * one ≤ m) where
  more_among : (p : FlatTerm) (us some : List FlatTerm) → IsRun (p ∷ us) m → (d : Declarations) (f : OpId) (c : Values) (q : FlatTerm) →
      k * count q (summands_of d f c some) + count q (summands_of d f c (p ∷ us)) ≤ count q (summands_of d f c ps) →
      k * count q (summands_of d f c (replicate one p ++ some)) + count q (summands_of d f c (drop m (p ∷ us))) ≤ count q (summands_of d f c ps)
  more_among p us some run d f c q before = omega (arith, before, first, second, third)
    where
      group : p ∷ us ≡ replicate m p ++ drop m (p ∷ us)
      group = sym (take-append-drop m (p ∷ us)) ∙ ap (λ l. l ++ drop m (p ∷ us)) (run.same p us refl)

      first : count q (summands_of d f c (p ∷ us)) ≡ m * count q (parts d f (inst d c p)) + count q (summands_of d f c (drop m (p ∷ us)))
      first =
          ap (λ l. count q (summands_of d f c l)) group
          ∙ count_summands-append d f c q (replicate m p) (drop m (p ∷ us))
          ∙ ap (λ x. x + count q (summands_of d f c (drop m (p ∷ us)))) (count_summands-replicate d f c q m p)

      second : k * count q (summands_of d f c (replicate one p ++ some)) ≡ k * one * count q (parts d f (inst d c p)) + k * count q (summands_of d f c some)
      second =
          let a = count_summands-append d f c q (replicate one p) some in
          let b = count_summands-replicate d f c q one p in
          let e : count q (summands_of d f c (replicate one p ++ some)) ≡ one * count q (parts d f (inst d c p)) + count q (summands_of d f c some) = omega arith in
          let g = ap (λ x. k * x) e in
          omega (arith, g)

      third : k * one * count q (parts d f (inst d c p)) ≤ m * count q (parts d f (inst d c p))
      third = mul-le-mul_right (count q (parts d f (inst d c p))) within

  pub copied_more : (ts : List FlatTerm) → 1 ≤ length ts → IsRun ts m → Copied k many ps left ts → (next : ℕ) → left ≡ next + one → Copied k many ps next (drop m ts)
  copied_more [] some run h next e = absurd (omega arith)
  copied_more (p ∷ us) some run h next e = record {
    some = replicate one p ++ h.some;
    together = let a = length-append (replicate one p) h.some in let b = length-replicate one p in let g = h.together in omega arith;
    among = λ d f c q. more_among p us h.some run d f c q (h.among d f c q);
  }

  pub copied_enough : (ts : List FlatTerm) → 1 ≤ length ts → IsRun ts m → Copied k many ps left ts → left < one → HaveCopies k many ps
  copied_enough [] some run h less = absurd (omega arith)
  copied_enough (p ∷ us) some run h less = record {
    some = replicate one p ++ h.some;
    more = let a = length-append (replicate one p) h.some in let b = length-replicate one p in let g = h.together in omega arith;
    among = λ d f c q. let a = more_among p us h.some run d f c q (h.among d f c q) in omega (arith, a);
  }

-- numbers and quotients
pub sum_at_most : (js ls : List ℕ) → AllZip (λ j l. j ≤ l) js ls → std_sum js ≤ std_sum ls
sum_at_most [] [] h = omega arith
sum_at_most [] (l ∷ ls) h = absurd h
sum_at_most (j ∷ js) [] h = absurd h
sum_at_most (j ∷ js) (l ∷ ls) h = let a = sum_at_most js ls h.1 in omega (arith, h.0, sum-cons j js, sum-cons l ls)

quotient_le : (k n : ℕ) → 1 ≤ k → n / k ≤ n
quotient_le k n some = let a = mul-div-le n k in let b = mul-le-mul_right (n / k) some in omega (arith, a, b)

pub quotients_le : (k : ℕ) → 1 ≤ k → (ns : List ℕ) → std_sum (quotients k ns) ≤ std_sum ns
quotients_le k some [] = omega arith
quotients_le k some (n ∷ ns) = let a = quotients_le k some ns in let b = quotient_le k n some in omega (arith, sum-cons n ns, sum-cons (n / k) (quotients k ns))

pub quotients-drop : (k : ℕ) (ns : List ℕ) (i e : ℕ) → i < length ns → std_sum (quotients k (drop i ns)) ≡ get_or ns i e / k + std_sum (quotients k (drop (i + 1) ns))
quotients-drop k ns i e h = at_drop_more (λ ms. std_sum (quotients k ms)) ns i e h ∙ sum-cons (get_or ns i e / k) (quotients k (drop (i + 1) ns))

pub quotients-past : (k : ℕ) (ns : List ℕ) (i : ℕ) → length ns ≤ i → std_sum (quotients k (drop i ns)) ≡ 0
quotients-past k ns i h = ap (λ ms. std_sum (quotients k ms)) (drop_all i ns h)

-- too few pieces of which k are left
module _ (d : Declarations) (goal : SumGoal) (fit : SumFits d goal) (lasting : identity (axioms d goal.op) ≡ None) (k : ℕ) (some : 1 ≤ k) where
  pub copies_hopeless : HaveCopies k (std_sum (quotients k goal.left.now)) (patterns_of goal) → IsHopeless d goal
  copies_hopeless few c candidate h =
      let ts = pieces_of goal in
      let ns = goal.left.now in
      let own = summands_of d goal.op c few.some in
      let a = as_many d goal.op c candidate.flat.settled lasting few.some in
      let b = sum_at_most (numbers_in ts own) (quotients k ns) (fits_numbers k some own ts ns long fit.distinct (λ q more. among q)) in
      omega (arith, few.more, a, b, measured)
    where
      long : length goal.left.now ≡ length (pieces_of goal)
      long = fit.long ∙ sym (length_references goal.pieces.now)

      among : (q : FlatTerm) → k * count q (summands_of d goal.op c few.some) ≤ tally q (pieces_of goal) goal.left.now
      among q = let a = few.among d goal.op c q in let b = h q in omega arith

      none : (q : FlatTerm) → count q (pieces_of goal) ≡ 0 → count q (summands_of d goal.op c few.some) ≡ 0
      none q e = go (count q (summands_of d goal.op c few.some)) k some (let a = among q in let b = tally_elsewhere q (pieces_of goal) goal.left.now e in let g : k * count q (summands_of d goal.op c few.some) ≤ 0 = omega arith in g)
        where
          go : (n m : ℕ) → 1 ≤ m → m * n ≤ 0 → n ≡ 0
          go zero m a b = refl
          go (suc n) zero a b = absurd (omega arith)
          go (suc n) (suc m) a b = absurd (omega arith)

      measured : std_sum (numbers_in (pieces_of goal) (summands_of d goal.op c few.some)) ≡ length (summands_of d goal.op c few.some)
      measured =
          sym (length_repeated (pieces_of goal) (numbers_in (pieces_of goal) (summands_of d goal.op c few.some)) (length_numbers (summands_of d goal.op c few.some) (pieces_of goal)))
          ∙ same_length (repeated (pieces_of goal) (numbers_in (pieces_of goal) (summands_of d goal.op c few.some))) (summands_of d goal.op c few.some)
          (λ q. count_repeated q (pieces_of goal) (numbers_in (pieces_of goal) (summands_of d goal.op c few.some)) ∙ numbers_make_up (summands_of d goal.op c few.some) (pieces_of goal) fit.distinct none q)
