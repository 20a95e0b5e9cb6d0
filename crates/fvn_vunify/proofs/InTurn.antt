-- The sides of pairs in turn, with one pair more.
use Rattle.std.proofs.Common.{◌≡◌, ◌≤◌, List, [], ◌∷◌, ◌++◌, length, refl, sym, ap, ◌∙◌, arith}
use Rattle.std.proofs.lemmas.List.{append_assoc}
use Rattle.std.proofs.lemmas.List.Elements.{All-head, All-tail}
use Rattle.fvn_terms.specs.declared.declarations.Declarations.{Declarations}
use Rattle.fvn_forms.specs.Flat.{FlatTerm}
use Rattle.fvn_flat.specs.Fits.{Fits}
use Rattle.fvn_flat.specs.Solving.{FlatPairs}
use Rattle.fvn_vunify.specs.Sides.{sides_in_turn, FitAsSides}

turn_more : (pairs : FlatPairs) (p : FlatTerm × FlatTerm) → sides_in_turn (pairs ++ p ∷ []) ≡ sides_in_turn pairs ++ p.0 ∷ p.1 ∷ []
turn_more [] p = refl
turn_more (q ∷ pairs) p = ap (λ l. q.0 ∷ q.1 ∷ l) (turn_more pairs p)

pub turn_next : (pairs : FlatPairs) (p : FlatTerm × FlatTerm) (now one two : List FlatTerm) → now ≡ sides_in_turn pairs → one ≡ now ++ p.0 ∷ [] → two ≡ one ++ p.1 ∷ [] →
    two ≡ sides_in_turn (pairs ++ p ∷ [])
turn_next pairs p now one two is first second =
    second ∙ ap (λ l. l ++ p.1 ∷ []) first ∙ append_assoc now (p.0 ∷ []) (p.1 ∷ []) ∙ ap (λ l. l ++ p.0 ∷ p.1 ∷ []) is ∙ sym (turn_more pairs p)

abbrev BothFit : Declarations → FlatTerm × FlatTerm → Type 0
BothFit d p = Fits d p.0 × Fits d p.1

-- where both sides of each pair fit, all do
pub sides_fit : (pairs : FlatPairs) → FitAsSides pairs (sides_in_turn pairs)
sides_fit [] d h = tt
sides_fit (p ∷ pairs) d h =
    let one = All-head (BothFit d) p pairs h in
    (one.0, (one.1, sides_fit pairs d (All-tail (BothFit d) p pairs h)))

pub some_side : (pairs : FlatPairs) → 1 ≤ length pairs → 1 ≤ length (sides_in_turn pairs)
some_side [] l = l
some_side (p ∷ pairs) l = omega arith
