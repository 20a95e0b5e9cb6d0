-- Tests of texts that fail.
use Rattle.std.proofs.Common.{◌≡◌, ◌≢◌, Bool, true, false, refl}
use Rattle.std.specs.Str.{bytes_eq}
use Rattle.fvn_syntax.specs.Pieces.{Text}
use Rattle.fvn_syntax.proofs.PieceLemmas.{bytes_eq-is}

pub bytes_eq-not : (t u : Text) → t ≢ u → bytes_eq t u ≡ false
bytes_eq-not t u ne = go (bytes_eq t u) refl where
  go : (b : Bool) → bytes_eq t u ≡ b → bytes_eq t u ≡ false
  go true e = absurd (ne (bytes_eq-is t u e))
  go false e = e
