-- On which of 64 bits facts fall, and words that gain bits.
use Rattle.std.specs.Prelude.{ℕ, zero, suc, ◌+◌, ◌*◌, ◌%◌, ◌^◌, min, max, bit_or, nat_eq, Bool, true, false, ◌||◌, if◌then◌else◌, List, [], ◌∷◌, Option, Some, None}
use Rattle.std.specs.Int.{bit_at}
use Rattle.fvn_terms.specs.declared.plain.OpId.{OpId}
use Rattle.fvn_terms.specs.declared.declarations.OpDecl.{OpDecl}
use Rattle.fvn_terms.specs.Equality.{identity}
use Rattle.fvn_cover_counts.specs.declared.symbols.Symbol.{Symbol}
use Rattle.fvn_cover_counts.specs.declared.symbols.Symbol.TheVariants.{Variable, Operator}
use Rattle.fvn_cover_counts.specs.declared.rows.Row.{Row}

-- the bit of an operator
abbrev pub operator_bit : OpId → ℕ
operator_bit f = f.0 % 64

-- whether the word has the bit of the operator
abbrev pub has_operator : ℕ → OpId → Bool
has_operator w f = nat_eq (bit_at w (operator_bit f)) 1

-- the bit of an operator at a place
abbrev pub place_bit : OpId → ℕ → ℕ
place_bit f i = (f.0 % 64 * 9 + i % 64) % 64

-- the bit of two places, in either order
abbrev pub pair_bit : ℕ → ℕ → ℕ
pair_bit i j = (min i j % 64 * 11 + max i j % 64) % 64

-- the word with one bit more
abbrev pub with_bit : ℕ → ℕ → ℕ
with_bit k w = bit_or w (2 ^ k)

-- with the bits of the operator at these places
abbrev pub with_places : OpId → List ℕ → ℕ → ℕ
with_places f [] w = w
with_places f (i ∷ is) w = with_places f is (with_bit (place_bit f i) w)

-- the same for the symbol of a row, if it is an operator that is not left out
abbrev pub with_symbol_places : ℕ → Symbol → List ℕ → ℕ → ℕ
with_symbol_places out (Variable x) is w = w
with_symbol_places out (Operator f) is w = if has_operator out f then w else with_places f is w

-- the same for each row
abbrev pub with_operators : ℕ → List Row → ℕ → ℕ
with_operators out [] w = w
with_operators out (r ∷ rs) w = with_operators out rs (with_symbol_places out r.symbol r.places w)

-- whether each of the places is one of two
abbrev pub are_among : ℕ → ℕ → List ℕ → Bool
are_among i j [] = true
are_among i j (p ∷ ps) = if nat_eq p i || nat_eq p j then are_among i j ps else false

-- with the bit of i and j, where the places are among these two
abbrev pub with_pair : ℕ → ℕ → List ℕ → ℕ → ℕ
with_pair i j ps w = if are_among i j ps then with_bit (pair_bit i j) w else w

-- with the bits of i and each number below n, where the places are among these two
abbrev pub with_pairs : ℕ → List ℕ → ℕ → ℕ → ℕ
with_pairs i ps zero w = w
with_pairs i ps (suc n) w = with_pair i n ps (with_pairs i ps n w)

-- the same for the first of the places, if there is one
abbrev pub with_first_pairs : ℕ → List ℕ → ℕ → ℕ
with_first_pairs n [] w = w
with_first_pairs n (i ∷ is) w = with_pairs i (i ∷ is) n w

-- the same for the symbol of a row, if it is a variable
abbrev pub with_symbol_pairs : ℕ → Symbol → List ℕ → ℕ → ℕ
with_symbol_pairs n (Variable x) is w = with_first_pairs n is w
with_symbol_pairs n (Operator f) is w = w

-- the same for each row
abbrev pub with_variables : ℕ → List Row → ℕ → ℕ
with_variables n [] w = w
with_variables n (r ∷ rs) w = with_variables n rs (with_symbol_pairs n r.symbol r.places w)

-- with the bits of operator g and its identity, if it has one
abbrev pub with_identity : ℕ → Option OpId → ℕ → ℕ
with_identity g None w = w
with_identity g (Some e) w = with_bit (operator_bit e) (with_bit (g % 64) w)

-- the same for each of these, from number g on
abbrev pub with_identities : ℕ → List OpDecl → ℕ → ℕ
with_identities g [] w = w
with_identities g (o ∷ os) w = with_identities (g + 1) os (with_identity g (identity o.axioms) w)
