-- What is counted of summands, and taken away from them.
use Rattle.std.specs.Prelude.{◌≡◌, ◌+◌, ◌≤◌, ◌<◌, ℕ, Bool, true, false, List, ◌∷◌, length, map, replicate, sum, take, drop}
use denote.Ref.{Bor}
use Rattle.fvn_forms.specs.Flat.{FlatTerm}
use Rattle.fvn_forms.specs.InOrder.{count}
use Rattle.fvn_match.specs.inner.Tallies.{tally, AreDistinct}
use Rattle.fvn_match.specs.declared.summands.Counted.{Counted}

-- the forms that references point to
abbrev pub references : List (Bor FlatTerm) → List FlatTerm
references rs = map (λ r. r.now) rs

-- where it is true, the pieces lack nothing but these forms; where it is false, they had fewer of some form than there are
abbrev pub IsTakenAway : List FlatTerm → List ℕ → List ℕ → List FlatTerm → Bool → Type 0
IsTakenAway pieces old new us true = (length new ≡ length old) × ((q : FlatTerm) → tally q pieces new + count q us ≡ tally q pieces old)
IsTakenAway pieces old new us false = (q : FlatTerm) × (tally q pieces old < count q us)

-- different pieces with their numbers in the list
pub record IsCounted (ts : List FlatTerm) (r : Counted) : Type 0 where
  pub counts : (q : FlatTerm) → tally q (references r.pieces.items) r.left.items ≡ count q ts
  pub among : (q : FlatTerm) → 1 ≤ count q (references r.pieces.items) → 1 ≤ count q ts
  pub distinct : AreDistinct (references r.pieces.items)
  pub long : length r.left.items ≡ length r.pieces.items
  pub together : sum r.left.items ≡ length ts

-- so many at the front are the first of the list, and the next is another
pub record IsRun (ts : List FlatTerm) (k : ℕ) : Type 0 where
  pub some : 1 ≤ k
  pub within : k ≤ length ts
  pub same : (t : FlatTerm) (us : List FlatTerm) → ts ≡ t ∷ us → take k ts ≡ replicate k t
  pub ends : (t u : FlatTerm) (us vs : List FlatTerm) → ts ≡ t ∷ us → drop k ts ≡ u ∷ vs → u ≡ t → ⊥
