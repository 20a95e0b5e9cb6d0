-- Forms with another form in the place of one within.
use Rattle.std.specs.Prelude.{◌≡◌, ℕ, zero, suc, List, [], ◌∷◌}
use Rattle.fvn_terms.specs.declared.plain.SortId.{SortId}
use Rattle.fvn_terms.specs.declared.declarations.Declarations.{Declarations}
use Rattle.fvn_terms.specs.Signature.{HasKind, IsTerm}
use Rattle.fvn_forms.specs.Flat.{FlatTerm, FlatTerms, fvar, fapp, fnone, fmore, plain}
use Rattle.fvn_forms.specs.Canon.{canon}
use Rattle.fvn_flat.specs.FlatPlaces.{IsReplaced}
use Rattle.fvn_flat.specs.Fits.{Fits}
use Rattle.fvn_places.specs.Paths.{LeadsTo}

-- the first form with the second one in place of that to which the path leads; itself where it leads to none
abbrev mutual
  pub put_along : List ℕ → FlatTerm → FlatTerm → FlatTerm
  put_along [] t given = given
  put_along (i ∷ path) (fvar x) given = fvar x
  put_along (i ∷ path) (fapp f joined ts) given = fapp f joined (put_among i path ts given)

  -- the same in the argument of this number
  pub put_among : ℕ → List ℕ → FlatTerms → FlatTerm → FlatTerms
  put_among i path fnone given = fnone
  put_among zero path (fmore t ts) given = fmore (put_along path t given) ts
  put_among (suc i) path (fmore t ts) given = fmore t (put_among i path ts given)

module _ (d : Declarations) where
  -- the second form has each kind that the first has
  abbrev pub KeepsKindsOf : FlatTerm → FlatTerm → Type 0
  KeepsKindsOf t u = (k : SortId) → HasKind d (plain t) k → HasKind d (plain u) k

  -- the path leads to a form of whose kind the given one is
  pub record CanPut (path : List ℕ) (t given : FlatTerm) : Type 0 where
    pub at : FlatTerm
    pub leads : LeadsTo path t at
    pub fits : Fits d given
    pub keeps : KeepsKindsOf at given

  -- u is t with the given form in place of `at`, to which the path leads, flat again
  pub record IsPut (path : List ℕ) (at t given u : FlatTerm) : Type 0 where
    pub replaced : FlatTerm
    pub replaces : IsReplaced at given t replaced
    pub along : replaced ≡ put_along path t given
    pub kinded : IsTerm d (plain replaced)
    pub is : u ≡ canon d (plain replaced)
    pub fits : Fits d u
    pub keeps : KeepsKindsOf t u

  -- u is t with the given form in place of that to which the path leads
  abbrev pub PutAs : List ℕ → FlatTerm → FlatTerm → FlatTerm → Type 0
  PutAs path t given u = (at : FlatTerm) → LeadsTo path t at → IsPut path at t given u
