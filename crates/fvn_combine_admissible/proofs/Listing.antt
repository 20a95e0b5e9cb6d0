-- What is listed at the place of an operator.
use Rattle.std.proofs.Common.{◌≡◌, ◌≢◌, ℕ, zero, suc, ◌<◌, List, [], ◌∷◌, map, length, slice_index_or, refl, sym, ap, ◌∙◌, inl, inr, arith, Some}
use Rattle.std.specs.Prelude.{AllPairs, if◌then◌else◌, slice_get}
use Rattle.std.proofs.lemmas.Bool.{cases_Bool}
use Rattle.std.proofs.lemmas.Option.{slice_get_within, get_or_from_slice_get}
use Rattle.std.proofs.lemmas.List.{get_or-map, length-map}
use Rattle.fvn_forms.specs.Canon.{same_op}
use Rattle.fvn_forms.proofs.Sums.{same_op_itself, same_op_is}
use Rattle.fvn_combine_leaves.specs.declared.reading.Sums.{Sums}
use Rattle.fvn_combine_admissible.specs.Listed.{at_operator}

-- the operators of two places differ
pub operators_differ : (sums : List Sums) → AllPairs ◌≢◌ (map (λ s. s.operator) sums) → (i j : ℕ) (a b : Sums) → i < j → slice_get sums i ≡ Some a → slice_get sums j ≡ Some b → a.operator ≢ b.operator
operators_differ sums distinct i j a b l p q same =
    let m = slice_get_within sums j b q in
    let at_a = get_or-map (λ (s : Sums). s.operator) sums i a a.operator (omega (arith, l, m)) ∙ ap (λ s. s.operator) (get_or_from_slice_get sums i a a p) in
    let at_b = get_or-map (λ (s : Sums). s.operator) sums j b a.operator m ∙ ap (λ s. s.operator) (get_or_from_slice_get sums j b b q) in
    distinct i j a.operator l (omega (arith, m, length-map sums (λ (s : Sums). s.operator))) (at_a ∙ same ∙ sym at_b)

-- at the place of an operator stands what is listed for it
pub at_place : {A : Type 0} (other : A) (sums : List Sums) (xs : List A) → AllPairs ◌≢◌ (map (λ s. s.operator) sums) → (i : ℕ) (s : Sums) → slice_get sums i ≡ Some s → length xs ≡ length sums → at_operator other sums xs s.operator ≡ slice_index_or xs i other
at_place other [] xs distinct i s is l = let m = slice_get_within [] i s is in absurd (omega (arith, m))
at_place other (e ∷ sums) [] distinct i s is l = absurd (omega (arith, l))
at_place other (e ∷ sums) (x ∷ xs) distinct zero s is l =
    let one : e ≡ s = cc in
    ap (λ b. if b then x else at_operator other sums xs s.operator) (ap (λ (o : Sums). same_op o.operator s.operator) one ∙ same_op_itself s.operator)
at_place other (e ∷ sums) (x ∷ xs) distinct (suc i) s is l =
    elim (cases_Bool (same_op e.operator s.operator)) [
      | inl same ↦ absurd (operators_differ (e ∷ sums) distinct 0 (suc i) e s (omega arith) refl is (same_op_is e.operator s.operator same))
      | inr other_one ↦
          ap (λ b. if b then x else at_operator other sums xs s.operator) other_one
          ∙ at_place other sums xs (λ a b d p q. distinct (suc a) (suc b) d (omega (arith, p)) (omega (arith, q))) i s is (omega (arith, l))
    ]
