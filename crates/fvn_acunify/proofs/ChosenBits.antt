-- The solutions that a number chooses, place by place.
use Rattle.std.proofs.Common.{◌≡◌, ℕ, ◌+◌, ◌/◌, ◌%◌, ◌^◌, Bool, true, false, cond, eqb, List, [], ◌∷◌, map, refl, ap, ◌∙◌, arith}
use Rattle.std.specs.List.{enumerate_from, filter}
use Rattle.std.specs.Int.{bit_at}
use Rattle.std.proofs.lemmas.Nat.{shr-shr}
use Rattle.fvn_acunify.specs.Laws.{ChosenByBits}
use Rattle.fvn_acunify.specs.ValidChoice.{chosen}

cond-map : (t : Bool) (k : ℕ) (v : List ℕ) (x : List (List ℕ)) (y : List (ℕ × List ℕ)) → x ≡ map (λ p. p.1) y → cond t (v ∷ x) x ≡ map (λ p. p.1) (cond t ((k, v) ∷ y) y)
cond-map true k v x y e = ap (λ l. v ∷ l) e
cond-map false k v x y e = e

chosen_from : (k b : ℕ) (basis : List (List ℕ)) → chosen (b / 2 ^ k) basis ≡ map (λ p. p.1) (filter (λ p. eqb (bit_at b p.0) 1) (enumerate_from k basis))
chosen_from k b [] = refl
chosen_from k b (v ∷ basis) =
    cond-map (eqb (b / 2 ^ k % 2) 1) k v (chosen (b / 2 ^ k / 2) basis) (filter (λ p. eqb (bit_at b p.0) 1) (enumerate_from (k + 1) basis))
    (ap (λ n. chosen n basis) (shr-shr b k 1) ∙ chosen_from (k + 1) b basis)

pub chosen_by_bits_each : ChosenByBits
chosen_by_bits_each b basis = let e : b ≡ b / 1 = omega arith in ap (λ n. chosen n basis) e ∙ chosen_from 0 b basis
