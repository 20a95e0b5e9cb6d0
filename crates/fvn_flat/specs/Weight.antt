-- The places of a flat form, by which recursions over it end.
use Rattle.std.specs.Prelude.{ℕ, ◌+◌}
use Rattle.fvn_forms.specs.Flat.{FlatTerm, FlatTerms, fvar, fapp, fnone, fmore}

abbrev mutual
  -- the number of variables and operators of a form
  pub places : FlatTerm → ℕ
  places (fvar x) = 1
  places (fapp f joined ts) = places_all ts + 1

  -- the places of all forms of a list together
  pub places_all : FlatTerms → ℕ
  places_all fnone = 0
  places_all (fmore t ts) = places t + places_all ts
