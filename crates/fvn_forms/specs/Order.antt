-- The order of flat forms.
use Rattle.std.specs.Prelude.{Bool}
use Rattle.std.specs.declared.cmp.Ordering.{Ordering}
use Rattle.std.specs.declared.cmp.Ordering.TheVariants.{Less, Equal, Greater}
use Rattle.std.specs.Ordering.{ordering_then, nat_cmp, bool_cmp, is_eq}
use Rattle.fvn_terms.specs.declared.plain.Var.{Var}
use Rattle.fvn_forms.specs.Flat.{FlatTerm, FlatTerms, fvar, fapp, fnone, fmore}

-- by name, then by sort, then what is not fresh first
abbrev pub var_cmp : Var → Var → Ordering
var_cmp x y = ordering_then (nat_cmp x.name y.name) (ordering_then (nat_cmp x.sort.0 y.sort.0) (bool_cmp x.fresh y.fresh))

-- variables first; then by operator, then what is not joined first, then by the arguments in turn
abbrev mutual
  pub flat_cmp : FlatTerm → FlatTerm → Ordering
  flat_cmp (fvar x) (fvar y) = var_cmp x y
  flat_cmp (fvar x) (fapp g k us) = Less
  flat_cmp (fapp f j ts) (fvar y) = Greater
  flat_cmp (fapp f j ts) (fapp g k us) = ordering_then (nat_cmp f.0 g.0) (ordering_then (bool_cmp j k) (flats_cmp ts us))

  -- by the first members that differ; a list that ends there comes first
  pub flats_cmp : FlatTerms → FlatTerms → Ordering
  flats_cmp fnone fnone = Equal
  flats_cmp fnone (fmore u us) = Less
  flats_cmp (fmore t ts) fnone = Greater
  flats_cmp (fmore t ts) (fmore u us) = ordering_then (flat_cmp t u) (flats_cmp ts us)

-- whether two flat forms are one
abbrev pub same_flat : FlatTerm → FlatTerm → Bool
same_flat t u = is_eq (flat_cmp t u)
