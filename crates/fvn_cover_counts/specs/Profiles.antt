-- What is counted of a list of flat forms, by which coverings are refused before any matching.
use Rattle.std.specs.Prelude.{◌≡◌, ◌≢◌, ◌≤◌, ◌↔◌, ℕ, List, [], ◌∷◌, map, length, Contains}
use Rattle.std.specs.List.Sorted.{IsNonDecreasingBy}
use Rattle.fvn_terms.specs.declared.plain.Var.{Var}
use Rattle.fvn_terms.specs.declared.plain.OpId.{OpId}
use Rattle.fvn_terms.specs.declared.declarations.Declarations.{Declarations}
use Rattle.fvn_terms.specs.Variants.{OccursInSome}
use Rattle.fvn_forms.specs.Flat.{FlatTerm, plain}
use Rattle.fvn_match.specs.Matching.{HasNoMatcher}
use Rattle.fvn_cover_counts.specs.declared.symbols.Symbol.{Symbol}
use Rattle.fvn_cover_counts.specs.declared.symbols.Symbol.TheVariants.{Variable, Operator}
use Rattle.fvn_cover_counts.specs.declared.rows.Row.{Row}
use Rattle.fvn_cover_counts.specs.declared.profile.Profile.{Profile}
use Rattle.fvn_cover_counts.specs.Weights.{IsKept}
use Rattle.fvn_cover_counts.specs.Places.{column, places}

-- this was counted of the forms: for each symbol that stands in them its places, the fewest first
pub record IsProfile (ts : List FlatTerm) (p : Profile) : Type 0 where
  pub each : (r : Row) → Contains p.rows.items r → (r.places ≡ places r.symbol ts) × (r.places ≢ [])
  pub every : (s : Symbol) → places s ts ≢ [] → (r : Row) × Contains p.rows.items r × (r.symbol ≡ s)
  pub ordered : IsNonDecreasingBy (λ r. length r.places) p.rows.items

-- place by place at most; where the second list has ended it has zeros
abbrev pub AreAtMost : List ℕ → List ℕ → Type 0
AreAtMost [] ns = Unit {0}
AreAtMost (m ∷ ms) [] = (m ≡ 0) × AreAtMost ms []
AreAtMost (m ∷ ms) (n ∷ ns) = (m ≤ n) × AreAtMost ms ns

-- What the counts ask where the first forms are to match the second: each operator that the axioms keep stands in each
-- at most as often as in the one in its place, and so does, for each variable of the second, some variable of the first.
pub record CountsAllow (d : Declarations) (ts us : List FlatTerm) : Type 0 where
  pub operators : (f : OpId) → IsKept d f → AreAtMost (column (Operator f) ts) (column (Operator f) us)
  pub variables : (y : Var) → OccursInSome y (map plain us) →
      (x : Var) × OccursInSome x (map plain ts) × AreAtMost (column (Variable x) ts) (column (Variable y) us)

module _ (d : Declarations) (p q : Profile) where
  -- whether the counts allow that forms with the first profile match forms with the second
  abbrev pub AllowsMatching : Type 0 → Type 0
  AllowsMatching P = (ts us : List FlatTerm) → IsProfile ts p → IsProfile us q → P ↔ CountsAllow d ts us

  -- forms with the second profile are matched by none with the first
  abbrev pub NeverMatch : Type 0
  NeverMatch = (ts us : List FlatTerm) → IsProfile ts p → IsProfile us q → HasNoMatcher d ts us
