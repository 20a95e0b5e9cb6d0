-- Arguments have fewer places than what they stand in.
use Rattle.std.proofs.Common.{◌≡◌, ◌<◌, ◌≤◌, ◌+◌, ◌*◌, List, [], ◌∷◌, ap, arith}
use Rattle.fvn_forms.specs.Flat.{FlatTerm, fvar, fapp, fpack}
use Rattle.fvn_forms.proofs.Sums.{fpack-funpack}
use Rattle.fvn_flat.specs.Forms.{args_of}
use Rattle.fvn_flat.specs.Weight.{places, places_all}

pub args_fall : (t : FlatTerm) (l : List FlatTerm) → l ≡ args_of t → 2 * places_all (fpack l) + 1 < 2 * places t
args_fall (fvar x) l e = let q = ap (λ m. places_all (fpack m)) e in omega (arith, q)
args_fall (fapp f joined ts) l e = let q = ap (λ m. places_all (fpack m)) e in let r = ap places_all (fpack-funpack ts) in omega (arith, q, r)

-- two forms of a list have no more places than the list
pub two_fall : (l : List FlatTerm) (a b : FlatTerm) → l ≡ a ∷ b ∷ [] → places a + places b ≤ places_all (fpack l)
two_fall l a b e = let q = ap (λ m. places_all (fpack m)) e in omega (arith, q)
