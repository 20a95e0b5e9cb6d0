-- What is listed at the place of an operator of a reading.
use Rattle.std.proofs.Common.{◌≡◌, ◌≢◌, ℕ, zero, suc, List, [], ◌∷◌, map, length, get_or, sym, ap, ◌∙◌, inl, inr, arith, Some}
use Rattle.std.specs.Prelude.{AllPairs, if◌then◌else◌, slice_get}
use Rattle.std.proofs.lemmas.Bool.{cases_Bool}
use Rattle.std.proofs.lemmas.Option.{slice_get_within, get_or_from_slice_get}
use Rattle.std.proofs.lemmas.List.{get_or-map, length-map}
use Rattle.fvn_forms.specs.Canon.{same_op}
use Rattle.fvn_forms.proofs.Sums.{same_op_itself, same_op_is}
use Rattle.fvn_combine_leaves.specs.declared.reading.Sums.{Sums}
use Rattle.fvn_combine_drawing.specs.CombineAdmissibleListed.{at_operator}

first_differs : (e : Sums) (sums : List Sums) → AllPairs ◌≢◌ (map (λ s. s.operator) (e ∷ sums)) → (i : ℕ) (s : Sums) → slice_get sums i ≡ Some s → e.operator ≢ s.operator
first_differs e sums distinct i s is same =
    let l = slice_get_within sums i s is in
    let n = length-map sums (λ (s : Sums). s.operator) in
    distinct 0 (suc i) e.operator (omega arith) (omega (arith, l, n))
    (same ∙ ap (λ (s : Sums). s.operator) (sym (get_or_from_slice_get sums i s s is)) ∙ sym (get_or-map (λ (s : Sums). s.operator) sums i s e.operator l))

-- at the place of an operator stands what is listed for it
pub at_place : {A : Type 0} (other : A) (sums : List Sums) (xs : List A) → AllPairs ◌≢◌ (map (λ s. s.operator) sums) → (i : ℕ) (s : Sums) → slice_get sums i ≡ Some s → length xs ≡ length sums → at_operator other sums xs s.operator ≡ get_or xs i other
at_place other [] xs distinct i s is l = let m = slice_get_within [] i s is in absurd (omega (arith, m))
at_place other (e ∷ sums) [] distinct i s is l = absurd (omega (arith, l))
at_place other (e ∷ sums) (x ∷ xs) distinct zero s is l =
    let one : e ≡ s = cc in
    ap (λ b. if b then x else at_operator other sums xs s.operator) (ap (λ (o : Sums). same_op o.operator s.operator) one ∙ same_op_itself s.operator)
at_place other (e ∷ sums) (x ∷ xs) distinct (suc i) s is l =
    elim (cases_Bool (same_op e.operator s.operator)) [
      | inl same ↦ absurd (first_differs e sums distinct i s is (same_op_is e.operator s.operator same))
      | inr other_one ↦
          ap (λ b. if b then x else at_operator other sums xs s.operator) other_one
          ∙ at_place other sums xs (λ a b d p q. distinct (suc a) (suc b) d (omega (arith, p)) (omega (arith, q))) i s is (omega (arith, l))
    ]
