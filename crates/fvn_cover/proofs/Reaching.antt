-- A well-sorted substitution takes a variable to none of a sort that is not at or below its own.
use Rattle.std.proofs.Common.{◌≡◌, ℕ, zero, suc, ◌<◌, List, [], ◌∷◌, length, get_or, sym, ap, subst, arith, Some}
use Rattle.fvn_base.proofs.Options.{Some-injective}
use Rattle.fvn_terms.specs.declared.plain.Var.{Var}
use Rattle.fvn_terms.specs.declared.declarations.Declarations.{Declarations}
use Rattle.fvn_terms.specs.Term.{var}
use Rattle.fvn_terms.specs.Signature.{AtOrBelow, IsTerm}
use Rattle.fvn_terms.specs.Substitution.{Substitution, apply}
use Rattle.fvn_terms.specs.Equality.{BEqual}
use Rattle.fvn_terms.specs.Sorts.{IsWellSorted}
use Rattle.fvn_terms.proofs.Equal.{BEqual-sym, BEqual-trans}
use Rattle.fvn_forms.specs.Flat.{FlatTerm, fvar, fapp, plain}
use Rattle.fvn_forms.specs.Good.{IsGood}
use Rattle.fvn_forms.proofs.LeastSort.{least_sort_of_settled}
use Rattle.fvn_flat.specs.Forms.{variable_of}
use Rattle.fvn_flat.specs.Fits.{Fits, AllFit}
use Rattle.fvn_match.specs.Matching.{HasNoMatcher}
use Rattle.fvn_cover.specs.inner.Reach.{IsOutOfReach}

-- a form of which the variable is read is this variable
pub variable_is : (t : FlatTerm) (x : Var) → variable_of t ≡ Some x → t ≡ fvar x
variable_is (fvar y) x e = ap fvar (Some-injective e)
variable_is (fapp f joined ts) x e = cc

module _ (d : Declarations) (good : IsGood d) where
  variable_below : (s : Substitution) → IsWellSorted d s → (x y : Var) → IsTerm d (var y) → BEqual d (s x) (var y) → AtOrBelow d y.sort x.sort
  variable_below s w x y term e =
      let h = w.1 x in
      (least_sort_of_settled d good (fvar y) tt term x.sort).0 (record { form = h.form; equal = BEqual-trans d (BEqual-sym d e) h.equal; gets = h.gets })

  none_reached : (p t : FlatTerm) → Fits d t → IsOutOfReach d p t → (s : Substitution) → IsWellSorted d s → BEqual d (apply s (plain p)) (plain t) → ⊥
  none_reached p t fits h s w e =
      h.not_below (variable_below s w h.pattern h.target (subst (λ u. IsTerm d (plain u)) h.is_target fits.kinded)
      (subst (λ u. BEqual d (apply s (plain u)) (var h.target)) h.is_pattern (subst (λ u. BEqual d (apply s (plain p)) (plain u)) h.is_target e)))

  -- one pair of forms that are out of reach
  pub reached_nowhere : (ps ts : List FlatTerm) (i : ℕ) (p t : FlatTerm) → length ps ≡ length ts → i < length ps → p ≡ get_or ps i p → t ≡ get_or ts i t → AllFit d ts → IsOutOfReach d p t → HasNoMatcher d ps ts
  reached_nowhere [] ts i p t n l e f fit h s m = absurd (omega (arith, l))
  reached_nowhere (q ∷ ps) [] i p t n l e f fit h s m = absurd (omega (arith, n))
  reached_nowhere (q ∷ ps) (u ∷ ts) zero p t n l e f fit h s m =
      none_reached p t (subst (Fits d) (sym f) fit.0) h s m.0
      (subst (λ z. BEqual d (apply s (plain z)) (plain t)) (sym e) (subst (λ z. BEqual d (apply s (plain q)) (plain z)) (sym f) m.1.0))
  reached_nowhere (q ∷ ps) (u ∷ ts) (suc i) p t n l e f fit h s m = reached_nowhere ps ts i p t (omega (arith, n)) (omega (arith, l)) e f fit.1 h s (m.0, m.1.1)
