-- Sequences of lists, member by member.
use Rattle.std.specs.Prelude.{◌≡◌, ◌+◌, ℕ, List, [], ◌∷◌}
use Rattle.fvn_terms.specs.declared.declarations.Declarations.{Declarations}
use Rattle.fvn_terms.specs.Term.{Term}
use Rattle.fvn_terms.specs.Theory.{Equations}
use Rattle.fvn_terms.specs.Rewriting.{TermSequence}

-- each member has a sequence of its own to the one in its place, and their lengths add up to this number
abbrev pub EachHasSequence : Declarations → Equations → ℕ → List Term → List Term → Type 0
EachHasSequence d equations k [] [] = k ≡ 0
EachHasSequence d equations k [] (u ∷ us) = ⊥
EachHasSequence d equations k (t ∷ ts) [] = ⊥
EachHasSequence d equations k (t ∷ ts) (u ∷ us) = (i : ℕ) × (j : ℕ) × (k ≡ i + j)
    × (TermSequence d equations i t u × EachHasSequence d equations j ts us)
