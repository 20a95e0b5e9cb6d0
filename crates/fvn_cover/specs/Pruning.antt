-- Lists of variants without those that another one covers.
use Rattle.std.specs.Prelude.{◌≡◌, Bool, false, List, map, filter, All, AllPairs, Any}
use Rattle.fvn_terms.specs.declared.declarations.Declarations.{Declarations}
use Rattle.fvn_terms.specs.CompleteSets.{IsApart}
use Rattle.fvn_cover.specs.declared.variant.Variant.{Variant}
use Rattle.fvn_cover.specs.Covering.{CoversVariant}

-- variants, each with the choice whether it is kept
abbrev pub Choices : Type 0
Choices = List (Variant × Bool)

-- all of these variants
abbrev pub all_of : Choices → List Variant
all_of choices = map (λ c. c.0) choices

-- those that are kept, in their order
abbrev pub chosen : Choices → List Variant
chosen choices = all_of (filter (λ c. c.1) choices)

-- some member of the list covers v
abbrev pub IsCoveredBySome : Declarations → List Variant → Variant → Type 0
IsCoveredBySome d list v = Any (λ k. CoversVariant d k v) list

-- some of the given are kept, in their order, of which none covers another; each of the given is covered by a kept one;
-- and of two that cover each other the later is left out
pub record IsPruned (d : Declarations) (given kept : List Variant) : Type 0 where
  pub choices : Choices
  pub whole : all_of choices ≡ given
  pub sublist : chosen choices ≡ kept
  pub apart : IsApart (CoversVariant d) kept
  pub dropped : All (IsCoveredBySome d kept) given
  pub earlier : AllPairs (λ a b. CoversVariant d a.0 b.0 → CoversVariant d b.0 a.0 → b.1 ≡ false) choices
