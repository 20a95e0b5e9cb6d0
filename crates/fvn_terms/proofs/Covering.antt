-- Covering is reflexive and transitive.
use Rattle.std.proofs.Common.{List, [], ◌∷◌, map, refl, sym, subst}
use Rattle.std.specs.List.{AllZip}
use Rattle.fvn_terms.specs.declared.plain.Var.{Var}
use Rattle.fvn_terms.specs.declared.declarations.Declarations.{Declarations}
use Rattle.fvn_terms.specs.Term.{Term, var}
use Rattle.fvn_terms.specs.Substitution.{Substitution, apply, followed_by}
use Rattle.fvn_terms.specs.Signature.{same}
use Rattle.fvn_terms.specs.Places.{stop}
use Rattle.fvn_terms.specs.Equality.{BEqual}
use Rattle.fvn_terms.specs.Sorts.{IsWellSorted}
use Rattle.fvn_terms.specs.Laws.{CoveringIsAnOrder}
use Rattle.fvn_terms.proofs.Substitutions.{apply-apply, apply-var}
use Rattle.fvn_terms.proofs.Equal.{BEqual-apply, BEqual-trans}
use Rattle.fvn_terms.proofs.WellSorted.{IsWellSorted-followed_by}

module _ (d : Declarations) (vars : List Var) where
  -- each variable goes to itself
  pub IsWellSorted-var : IsWellSorted d var
  IsWellSorted-var = (λ x i. (i, refl), λ x. record { form = var x; equal = stop; gets = record { sort = x.sort; gets = refl; below = same } })

  AllZip-var : (ts : List Term) → AllZip (BEqual d) ts (map (apply var) ts)
  AllZip-var [] = tt
  AllZip-var (t ∷ ts) = (subst (BEqual d t) (sym (apply-var t)) stop, AllZip-var ts)

  AllZip-followed_by : (a b : Substitution) → IsWellSorted d b → (ts us vs : List Term) → AllZip (BEqual d) us (map (apply a) ts) → AllZip (BEqual d) vs (map (apply b) us) → AllZip (BEqual d) vs (map (apply (followed_by a b)) ts)
  AllZip-followed_by a b sorted [] [] [] h g = tt
  AllZip-followed_by a b sorted [] [] (v ∷ vs) h g = absurd g
  AllZip-followed_by a b sorted [] (u ∷ us) vs h g = absurd h
  AllZip-followed_by a b sorted (t ∷ ts) [] vs h g = absurd h
  AllZip-followed_by a b sorted (t ∷ ts) (u ∷ us) [] h g = absurd g
  AllZip-followed_by a b sorted (t ∷ ts) (u ∷ us) (v ∷ vs) h g = (
    subst (BEqual d v) (apply-apply a b t) (BEqual-trans d g.0 (BEqual-apply d b sorted.0 h.0)),
    AllZip-followed_by a b sorted ts us vs h.1 g.1,
  )

  pub covering_is_an_order : CoveringIsAnOrder d vars
  covering_is_an_order = record {
    reflexive = λ ts s. record { by = var; well_sorted = IsWellSorted-var; same_terms = AllZip-var ts; same_values = λ x m. subst (BEqual d (s x)) (sym (apply-var (s x))) stop };
    transitive = λ ts us vs s c e h g. record {
      by = followed_by h.by g.by;
      well_sorted = IsWellSorted-followed_by d h.by g.by h.well_sorted g.well_sorted;
      same_terms = AllZip-followed_by h.by g.by g.well_sorted ts us vs h.same_terms g.same_terms;
      same_values = λ x m. subst (BEqual d (e x)) (apply-apply h.by g.by (s x)) (BEqual-trans d (g.same_values x m) (BEqual-apply d g.by (g.well_sorted).0 (h.same_values x m)));
    };
  }
