-- How a level of the search grows, and what it need not look at any more.
use Rattle.std.specs.Prelude.{◌≡◌, ◌≢◌, ℕ, ◌⊎◌, ℤ, pos, ◌+ℤ◌, ◌<◌, ◌≤◌, ◌^◌, List, [], ◌∷◌, ◌++◌, length, All, AllPairs, Contains}
use Rattle.fvn_base.specs.declared.limits.TheConstants.{COMPONENT}
use Rattle.fvn_lindio.specs.Vectors.{IsAtOrBelow, IsNonZero, add}
use Rattle.fvn_lindio.specs.inner.Search.{IsOpposite, IsValue, Lies}
use Rattle.fvn_lindio.specs.declared.level.Point.{Point}
use Rattle.fvn_lindio.specs.declared.level.Level.{Level}

-- a solution found is at or below the vector, or the search goes on from it
abbrev pub IsCovered : Level → List ℕ → Type 0
IsCovered level v =
    ((f : Point) × Contains level.found.items f × IsAtOrBelow f.parts.items v)
    ⊎ ((p : Point) × Contains level.ahead.items p × (p.parts.items ≡ v))

-- everything stays, and what is new has the property: as a solution found where its value is zero, else as a vector ahead
pub record Grows (P : Point → Type 0) (old new : Level) : Type 0 where
  pub found_stays : (p : Point) → Contains old.found.items p → Contains new.found.items p
  pub ahead_stays : (p : Point) → Contains old.ahead.items p → Contains new.ahead.items p
  pub found_is : (p : Point) → Contains new.found.items p → Contains old.found.items p ⊎ P p × (p.value ≡ pos 0)
  pub ahead_is : (p : Point) → Contains new.ahead.items p → Contains old.ahead.items p ⊎ P p × (p.value ≢ pos 0)

-- the same with nothing ahead at first
pub record GrowsAnew (P : Point → Type 0) (old new : Level) : Type 0 where
  pub found_stays : (p : Point) → Contains old.found.items p → Contains new.found.items p
  pub found_is : (p : Point) → Contains new.found.items p → Contains old.found.items p ⊎ P p × (p.value ≡ pos 0)
  pub ahead_is : (p : Point) → Contains new.ahead.items p → P p × (p.value ≢ pos 0)

-- no vector stands ahead twice
abbrev pub IsOnce : Level → Type 0
IsOnce level = AllPairs (λ p q. p.parts.items ≢ q.parts.items) level.ahead.items

-- the same vector, with the same value
abbrev pub IsThis : Point → Point → Type 0
IsThis q p = (p.parts.items ≡ q.parts.items) × (p.value ≡ q.value)

-- one of these
abbrev pub IsAt : List Point → Point → Type 0
IsAt points p = (q : Point) × Contains points q × IsThis q p

-- one step on from x by g, whose value has the other sign
abbrev pub IsStepBy : Point → Point → Point → Type 0
IsStepBy x g p = IsOpposite x.value g.value × (p.parts.items ≡ add x.parts.items g.parts.items) × (p.value ≡ x.value +ℤ g.value)

-- one step on from x by one of the generators
abbrev pub IsStep : List Point → Point → Point → Type 0
IsStep generators x p = (g : Point) × Contains generators g × IsStepBy x g p

-- one step on from one of these
abbrev pub IsStepFrom : List Point → List Point → Point → Type 0
IsStepFrom generators points p = (x : Point) × Contains points x × IsStep generators x p

-- equally many components, none of them near the greatest number
pub record CanAdd (x g : Point) : Type 0 where
  pub sized : length x.parts.items ≡ length g.parts.items
  pub room : All (λ a. a < 2 ^ 62) x.parts.items
  pub more_room : All (λ a. a < 2 ^ 62) g.parts.items

-- every step from x is covered
abbrev pub CoversSteps : List Point → Point → Level → Type 0
CoversSteps generators x level =
    (g : Point) → Contains generators g → IsOpposite x.value g.value → IsCovered level (add x.parts.items g.parts.items)

-- every step from one of these is covered
abbrev pub CoversStepsFrom : List Point → List Point → Level → Type 0
CoversStepsFrom generators points level = (x : Point) → Contains points x → CoversSteps generators x level

module _ (columns : ℕ) (before : List (List ℤ)) (row : List ℤ) where
  -- a vector at which the rows before are zero, other than zero and zero on columns that no row uses, with the value of the row at it
  pub record IsPoint (p : Point) : Type 0 where
    pub lies : Lies columns before (before ++ row ∷ []) p.parts.items
    pub nonzero : IsNonZero p.parts.items
    pub exact : IsValue row p.parts.items p.value

  -- such vectors with small components, of which one is at or below each vector of the kind, and no other below one of them
  pub record Generates (generators : List Point) : Type 0 where
    pub points : (g : Point) → Contains generators g → IsPoint g
    pub narrow : (g : Point) → Contains generators g → All (λ a. a ≤ COMPONENT) g.parts.items
    pub under : (z : List ℕ) → Lies columns before (before ++ row ∷ []) z → IsNonZero z → (g : Point) × Contains generators g × IsAtOrBelow g.parts.items z
    pub least : (g : Point) → Contains generators g → (z : List ℕ) → Lies columns before (before ++ row ∷ []) z → IsNonZero z → IsAtOrBelow z g.parts.items → z ≡ g.parts.items
