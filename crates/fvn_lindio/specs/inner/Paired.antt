-- Rows whose minimal solutions are points at zero and sums of two points.
use Rattle.std.specs.Prelude.{◌≡◌, ℕ, ◌<◌, ◌≤◌, ◌⊎◌, ℤ, pos, List, sum, All, Contains}
use Rattle.fvn_lindio.specs.Vectors.{add}
use Rattle.fvn_lindio.specs.Systems.{above, below}
use Rattle.fvn_lindio.specs.declared.level.Point.{Point}
use Rattle.fvn_lindio.specs.declared.paired.Sign.{Sign}
use Rattle.fvn_lindio.specs.declared.paired.Sign.TheVariants.{Positive, Negative}

-- the value has the sign: it is above zero, or it is below
abbrev pub HasSign : Sign → ℤ → Type 0
HasSign Positive value = 0 < above value
HasSign Negative value = 0 < below value

-- the value is at most one from zero; where it has the sign, the point is a unit
pub record IsPlain (sign : Sign) (p : Point) : Type 0 where
  pub highest : above p.value ≤ 1
  pub lowest : below p.value ≤ 1
  pub single : HasSign sign p.value → sum p.parts.items ≡ 1

-- for one of the two signs all points are so
abbrev pub ArePaired : List Point → Type 0
ArePaired points = All (IsPlain Positive) points ⊎ All (IsPlain Negative) points

-- one of the points makes this of w
abbrev pub AnyOf : (Point → List ℕ → Type 0) → List Point → List ℕ → Type 0
AnyOf P points w = (p : Point) × Contains points p × P p w

-- w is the sum of x, whose value is below zero, and u, whose value is above
abbrev pub IsSum : Point → Point → List ℕ → Type 0
IsSum x u w =
    ((0 < below x.value) × (0 < above u.value)) × (add x.parts.items u.parts.items ≡ w)

-- w is x itself, whose value is zero, or its sum with one of the points
abbrev pub IsFrom : List Point → Point → List ℕ → Type 0
IsFrom points x w = (x.value ≡ pos 0) × (x.parts.items ≡ w) ⊎ AnyOf (IsSum x) points w
