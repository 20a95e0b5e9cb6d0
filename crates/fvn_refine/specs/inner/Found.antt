-- What a search for rows finds: rows at which terms have given sorts, and no others but those below one of them.
use Rattle.std.specs.Prelude.{◌≡◌, ◌≤◌, List, [], ◌∷◌, map, length, Contains}
use Rattle.std.specs.List.{AllZip}
use Rattle.fvn_terms.specs.declared.plain.Var.{Var}
use Rattle.fvn_terms.specs.declared.plain.OpId.{OpId}
use Rattle.fvn_terms.specs.declared.plain.SortId.{SortId}
use Rattle.fvn_terms.specs.declared.declarations.Rank.{Rank}
use Rattle.fvn_terms.specs.declared.declarations.Declarations.{Declarations}
use Rattle.fvn_terms.specs.Signature.{kind, declared, axioms, AtOrBelow}
use Rattle.fvn_terms.specs.Equality.{IsAssociative}
use Rattle.fvn_forms.specs.Flat.{FlatTerm}
use Rattle.fvn_forms.specs.Ranks.{result}
use Rattle.fvn_forms.specs.LeastSort.{sum_sort, sort_in}
use Rattle.fvn_flat.specs.Fits.{AllFit, AllOfKind}
use Rattle.fvn_flat.specs.Bindings.{Bindings, value}
use Rattle.fvn_refine.specs.inner.Rows.{Row, way_of, IsRow, IsRowBelow, HasAbove, IsAntichain}

module _ (d : Declarations) where
  -- the argument lists of the ranks that give the sort or one below it, but for those below another
  pub record AreArguments (s : SortId) (ranks : List Rank) (rows : List Row) : Type 0 where
    pub from : (args : Row) → Contains rows args → (r : Rank) × (Contains ranks r × (AtOrBelow d r.result s × (r.args ≡ args)))
    pub over : (r : Rank) → Contains ranks r → AtOrBelow d r.result s → HasAbove d rows r.args

  -- f is associative, and takes these one or more forms as summands
  pub record AreSummands (f : OpId) (ts : List FlatTerm) : Type 0 where
    pub associative : IsAssociative (axioms d f)
    pub some : 1 ≤ length ts
    pub fit : AllFit d ts
    pub rank : Rank
    pub listed : Contains (declared d f).ranks rank
    pub kinds : AllOfKind d (kind d rank.result) ts

  module _ (xs : List Var) where
    -- each is a row for the variables
    abbrev pub AreRows : List Row → Type 0
    AreRows rows = (r : Row) → Contains rows r → IsRow d xs r

    -- the rows have the property, and each row that has it is at or below one of them
    pub record Finds (P : Row → Type 0) (rows : List Row) : Type 0 where
      pub found : (r : Row) → Contains rows r → IsRow d xs r × P r
      pub covers : (m : Row) → IsRow d xs m → P m → HasAbove d rows m
      pub apart : IsAntichain d rows

    -- at the sorts of the row the form has the sort or one below it
    abbrev pub IsUnder : FlatTerm → SortId → Row → Type 0
    IsUnder t s m = AtOrBelow d (sort_in d (way_of d xs m) t) s

    -- so have the forms the sorts in their places
    abbrev pub AreUnder : List FlatTerm → List SortId → Row → Type 0
    AreUnder ts ss m = AllZip (λ t s. IsUnder t s m) ts ss

    -- at the sorts of each of the rows the form has the sort or one below it
    abbrev pub AreAllUnder : FlatTerm → SortId → List Row → Type 0
    AreAllUnder t s rows = (r : Row) → Contains rows r → IsUnder t s r

    -- the rows are at or below the way, and above each row below it that has the property
    pub record Narrows (way : Row) (P : Row → Type 0) (rows : List Row) : Type 0 where
      pub found : (r : Row) → Contains rows r → IsRow d xs r × IsRowBelow d r way
      pub covers : (m : Row) → IsRow d xs m → IsRowBelow d m way → P m → HasAbove d rows m
      pub apart : IsAntichain d rows

    -- so has the operator over the forms
    abbrev pub IsResultUnder : OpId → List FlatTerm → SortId → Row → Type 0
    IsResultUnder f ts s m = AtOrBelow d (result d f (map (sort_in d (way_of d xs m)) ts)) s

    -- so has the sum of the forms
    abbrev pub IsSumUnder : OpId → List FlatTerm → SortId → Row → Type 0
    IsSumUnder f ts s m = AtOrBelow d (sum_sort d f (map (sort_in d (way_of d xs m)) ts)) s

    -- the sum of the first forms, and the last one, have the two sorts
    abbrev pub IsPairUnder : OpId → List FlatTerm → FlatTerm → List SortId → Row → Type 0
    IsPairUnder f front last [] m = ⊥
    IsPairUnder f front last (a ∷ []) m = ⊥
    IsPairUnder f front last (a ∷ b ∷ []) m = IsSumUnder f front a m × IsUnder last b m
    IsPairUnder f front last (a ∷ b ∷ c ∷ ss) m = ⊥

    -- each of these variables has its sort
    abbrev pub HaveSorts : Bindings → List Var → Row → Type 0
    HaveSorts s vars m = (x : Var) → Contains vars x → IsUnder (value s x) x.sort m
