-- The search for the last colon finds it.
use Rattle.std.proofs.Common.{◌≡◌, ℕ, ◌+◌, ◌==◌, Bool, true, false, [], ◌∷◌, Option, Some, None, refl, sym, ap, ◌∙◌, arith}
use Rattle.std.specs.Prelude.{if◌then◌else◌}
use Rattle.fvn_syntax.specs.Pieces.{Text}
use Rattle.fvn_syntax.specs.Names.{behind_byte, last_colon}
use Rattle.fvn_syntax.specs.inner.Colons.{last_colon_from}

-- the place behind i bytes, or else what was found
abbrev or_found : Option ℕ → ℕ → Option ℕ → Option ℕ
or_found found i None = found
or_found found i (Some k) = Some (i + k)

or_found-step : (found : Option ℕ) (i : ℕ) (b : Bool) (o : Option ℕ) →
    or_found (if b then Some i else found) (i + 1) o ≡ or_found found i (behind_byte b o)
or_found-step found i b (Some k) = ap Some (let e : i + 1 + k ≡ i + (k + 1) = omega arith in e)
or_found-step found i true None = ap Some (let e : i ≡ i + 0 = omega arith in e)
or_found-step found i false None = refl

from-last : (w : Text) (found : Option ℕ) (i : ℕ) → last_colon_from found i w ≡ or_found found i (last_colon w)
from-last [] found i = refl
from-last (b ∷ w) found i =
    from-last w (if b == 58 then Some i else found) (i + 1) ∙ or_found-step found i (b == 58) (last_colon w)

-- the last colon is found
pub last_from : (w : Text) → last_colon w ≡ last_colon_from None 0 w
last_from w = sym (from-last w None 0 ∙ whole (last_colon w)) where
  whole : (o : Option ℕ) → or_found None 0 o ≡ o
  whole None = refl
  whole (Some k) = ap Some (let e : 0 + k ≡ k = omega arith in e)
