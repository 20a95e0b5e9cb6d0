-- The vectors that have pieces, and their number.
use Rattle.std.proofs.Common.{◌≡◌, ℕ, suc, ◌+◌, ◌*◌, ◌<◌, ◌/◌, ◌%◌, ◌^◌, Bool, true, false, List, [], ◌∷◌, length, map, refl, sym, ap, ◌∙◌, arith}
use Rattle.std.specs.Prelude.{nat_eq, if◌then◌else◌}
use Rattle.std.proofs.Math.Nat.{pow-suc}
use Rattle.std.proofs.lemmas.Bool.{eq-eqb, ne_eqb}
use Rattle.std.proofs.lemmas.List.Elements.{All-head, All-tail}
use Rattle.fvn_forms.specs.Flat.{FlatTerm}
use Rattle.fvn_forms.specs.InOrder.{one_if, count}
use Rattle.fvn_lindio.specs.Vectors.{add}
use Rattle.fvn_lindio.specs.Laws.{combination}
use Rattle.fvn_acunify.specs.ValidChoice.{chosen}
use Rattle.fvn_combine_supports.specs.Pieces.{has_some, number_of, taken, some_of, AreMadeUp}
use Rattle.fvn_combine_supports.proofs.Combining.{Sized, combination-none}

number_within : (zs : List (List FlatTerm)) → number_of zs < 2 ^ length zs
number_within [] = omega arith
number_within (z ∷ zs) = let r = number_within zs in let p = pow-suc 2 (length zs) in go (has_some z) r p
  where
    go : (b : Bool) → number_of zs < 2 ^ length zs → 2 ^ suc (length zs) ≡ 2 ^ length zs * 2 → one_if b + 2 * number_of zs < 2 ^ suc (length zs)
    go true r p = omega (arith, r, p)
    go false r p = omega (arith, r, p)

pub within : (pieces : List (List FlatTerm)) (n : ℕ) → length pieces ≡ n → number_of pieces < 2 ^ n
within pieces n e = let r = number_within pieces in let p = ap (λ k. 2 ^ k) e in omega (arith, r, p)

-- the number chooses the vectors that have pieces
pub chosen_is : (pieces : List (List FlatTerm)) (basis : List (List ℕ)) → length pieces ≡ length basis → chosen (number_of pieces) basis ≡ taken pieces basis
chosen_is [] [] e = refl
chosen_is [] (v ∷ basis) e = absurd (omega (arith, e))
chosen_is (z ∷ zs) [] e = refl
chosen_is (z ∷ zs) (v ∷ basis) e = go (has_some z) (chosen_is zs basis (omega (arith, e)))
  where
    pick : Bool → List (List ℕ) → List (List ℕ)
    pick b l = if b then v ∷ l else l

    go : (b : Bool) → chosen (number_of zs) basis ≡ taken zs basis → pick (nat_eq ((one_if b + 2 * number_of zs) % 2) 1) (chosen ((one_if b + 2 * number_of zs) / 2) basis) ≡ pick b (taken zs basis)
    go true r =
        let m = number_of zs in
        let odd : (1 + 2 * m) % 2 ≡ 1 = omega arith in
        let half : (1 + 2 * m) / 2 ≡ m = omega arith in
        ap (λ b. pick b (chosen ((1 + 2 * m) / 2) basis)) (eq-eqb ((1 + 2 * m) % 2) 1 odd) ∙ ap (λ k. v ∷ chosen k basis) half ∙ ap (λ l. v ∷ l) r
    go false r =
        let m = number_of zs in
        let even : (0 + 2 * m) % 2 ≡ 0 = omega arith in
        let half : (0 + 2 * m) / 2 ≡ m = omega arith in
        ap (λ b. pick b (chosen ((0 + 2 * m) / 2) basis)) (ne_eqb ((0 + 2 * m) % 2) 1 (λ q. omega (arith, q, even))) ∙ ap (λ k. chosen k basis) half ∙ r

length_taken : (pieces : List (List FlatTerm)) (basis : List (List ℕ)) → length pieces ≡ length basis → length (some_of pieces) ≡ length (taken pieces basis)
length_taken [] [] e = refl
length_taken [] (v ∷ basis) e = absurd (omega (arith, e))
length_taken (z ∷ zs) [] e = absurd (omega (arith, e))
length_taken ([] ∷ zs) (v ∷ basis) e = length_taken zs basis (omega (arith, e))
length_taken ((t ∷ ts) ∷ zs) (v ∷ basis) e = ap suc (length_taken zs basis (omega (arith, e)))

-- vectors without pieces add nothing
taken_alike : (columns : ℕ) (q : FlatTerm) (pieces : List (List FlatTerm)) (basis : List (List ℕ)) → length pieces ≡ length basis → Sized columns basis → combination columns (map (count q) (some_of pieces)) (taken pieces basis) ≡ combination columns (map (count q) pieces) basis
taken_alike columns q [] [] e h = refl
taken_alike columns q [] (v ∷ basis) e h = absurd (omega (arith, e))
taken_alike columns q (z ∷ zs) [] e h = absurd (omega (arith, e))
taken_alike columns q ([] ∷ zs) (v ∷ basis) e h =
    let P = λ (v : List ℕ). length v ≡ columns in
    let tail = All-tail P v basis h in
    taken_alike columns q zs basis (omega (arith, e)) tail ∙ sym (combination-none columns (map (count q) zs) v basis (All-head P v basis h) tail)
taken_alike columns q ((t ∷ ts) ∷ zs) (v ∷ basis) e h =
    ap (add (map (λ a. count q (t ∷ ts) * a) v)) (taken_alike columns q zs basis (omega (arith, e)) (All-tail (λ v. length v ≡ columns) v basis h))

pub by_taken : (columns : ℕ) (basis : List (List ℕ)) → Sized columns basis → (counted : FlatTerm → List ℕ) (pieces : List (List FlatTerm)) → AreMadeUp columns basis counted pieces →
    (chosen (number_of pieces) basis ≡ taken pieces basis) × AreMadeUp columns (taken pieces basis) counted (some_of pieces)
by_taken columns basis sized counted pieces are = (
  chosen_is pieces basis are.as_many,
  record {
    as_many = length_taken pieces basis are.as_many;
    made_up = λ q. taken_alike columns q pieces basis are.as_many sized ∙ are.made_up q;
  },
)
