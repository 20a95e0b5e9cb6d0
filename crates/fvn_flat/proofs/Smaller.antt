-- The arguments of a form have fewer places than the form.
use Rattle.std.proofs.Common.{◌≡◌, ℕ, zero, suc, ◌<◌, ◌≤◌, List, [], ◌∷◌, length, get_or, ap, ◌∙◌, arith}
use Rattle.fvn_forms.specs.Flat.{FlatTerm, fvar, fapp, fpack}
use Rattle.fvn_forms.proofs.Sums.{fpack-funpack}
use Rattle.fvn_flat.specs.Forms.{args_of}
use Rattle.fvn_flat.specs.Weight.{places, places_all}

pub places_at : (l : List FlatTerm) (i : ℕ) (t : FlatTerm) → i < length l → t ≡ get_or l i t → places t ≤ places_all (fpack l)
places_at [] i t within is = absurd (omega arith)
places_at (u ∷ l) zero t within is = let e = ap places is in omega arith
places_at (u ∷ l) (suc i) t within is = let e = places_at l i t (omega arith) is in omega arith

-- for recursions over the arguments
pub argument_is_smaller : (t : FlatTerm) (l : List FlatTerm) (i : ℕ) (u : FlatTerm) → l ≡ args_of t → i < length l → u ≡ get_or l i u → places u < places t
argument_is_smaller (fvar x) l i u e within is = let n = ap length e in absurd (omega arith)
argument_is_smaller (fapp f joined ts) l i u e within is =
    let a = places_at l i u within is in
    let b = ap (λ m. places_all (fpack m)) e ∙ ap places_all (fpack-funpack ts) in
    omega arith
