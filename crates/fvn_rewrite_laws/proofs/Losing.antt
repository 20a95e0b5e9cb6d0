-- An equation is sort-decreasing exactly where no choice for its variables loses a sort.
use Rattle.std.proofs.Common.{◌≡◌, sym, ap, ◌∙◌, subst}
use Rattle.fvn_terms.specs.declared.plain.Var.{Var}
use Rattle.fvn_terms.specs.declared.plain.SortId.{SortId}
use Rattle.fvn_terms.specs.declared.declarations.Declarations.{Declarations}
use Rattle.fvn_terms.specs.Term.{Term}
use Rattle.fvn_terms.specs.Substitution.{Substitution, apply, Occurs}
use Rattle.fvn_terms.specs.Signature.{AtOrBelow, kind, HasKind}
use Rattle.fvn_terms.specs.Rewriting.{IsSortDecreasing}
use Rattle.fvn_terms.proofs.Equal.{HasKind-apply}
use Rattle.fvn_forms.specs.Canon.{canon}
use Rattle.fvn_forms.specs.Good.{IsGood}
use Rattle.fvn_forms.specs.LeastSort.{least_sort}
use Rattle.fvn_forms.proofs.SortOrder.{AtOrBelow-trans}
use Rattle.fvn_forms.proofs.LeastSort.{least_sort_exact, least_sort_below, has_least_sort}
use Rattle.fvn_signature.specs.Queries.{IsCompleted}
use Rattle.fvn_rewrite_laws.specs.declared.shapes.Shape.{Shape}
use Rattle.fvn_rewrite_laws.specs.Shapes.{shape_of, shape_in}
use Rattle.fvn_rewrite_laws.specs.Kinds.{HasOneKind}
use Rattle.fvn_rewrite_laws.specs.Choices.{sort_choices, IsChoice}
use Rattle.fvn_rewrite_laws.specs.Losses.{IsLoss}
use Rattle.fvn_rewrite_laws.proofs.Shaping.{shape_exact}
use Rattle.fvn_rewrite_laws.proofs.Trimming.{trimmed, sort_trimmed}
use Rattle.fvn_rewrite_laws.proofs.Choosing.{made, IsMade, occurring_sort, trimmed_choice, choosing, choosing_keeps, choosing_sorted, choosing_shape, each_sort_choice}

module _ (d : Declarations) (good : IsGood d) (completed : IsCompleted d) (left right : Term) (kinds : HasOneKind d (left, right)) (within : (x : Var) → Occurs x right → Occurs x left) where
  -- under the choice the right side has a least sort at or below that of the left side
  abbrev pub Decreases : (Var → Shape) → Type 0
  Decreases env = AtOrBelow d (shape_in d env right).sort (shape_in d env left).sort

  -- a choice under which it has not makes an instance that loses a sort
  pub choice_loses : (env : Var → Shape) → IsChoice (sort_choices d) left env → (Decreases env → ⊥) → IsLoss d left right
  choice_loses env choice loses = record {
    by = s;
    well_sorted = choosing_sorted d good completed left env each;
    sort = low;
    left_has = has_least_sort d good (apply s left) (kinds.kind, left_kind);
    right_has_not = λ h. loses (rw (sorts right (kinds.right) within, sorts left (kinds.left) (λ x o. o)) at (least_sort_below d good (apply s right) (kinds.kind, right_kind) low h));
  } where
    each : (x : Var) → Occurs x left → IsMade d good completed x (env x) (made d good completed (env x).root (env x).sort x)
    each = each_sort_choice d good completed left kinds.kind kinds.left env choice

    s : Substitution
    s = choosing d good completed left env

    left_kind : HasKind d (apply s left) kinds.kind
    left_kind = HasKind-apply d s (choosing_keeps d good completed left env each) left kinds.kind kinds.left

    right_kind : HasKind d (apply s right) kinds.kind
    right_kind = HasKind-apply d s (choosing_keeps d good completed left env each) right kinds.kind kinds.right

    low : SortId
    low = least_sort d (canon d (apply s left))

    sorts : (u : Term) → HasKind d u kinds.kind → ((x : Var) → Occurs x u → Occurs x left) → least_sort d (canon d (apply s u)) ≡ (shape_in d env u).sort
    sorts u h w = ap (λ (z : Shape). z.sort) (choosing_shape d good completed left env each u kinds.kind h w)

  -- where no choice loses, the equation is sort-decreasing
  pub choices_decrease : ((env : Var → Shape) → IsChoice (sort_choices d) left env → Decreases env) → IsSortDecreasing d left right
  choices_decrease each s sorted q h =
      (least_sort_exact d good (apply s right) (kinds.kind, HasKind-apply d s sorted.0 right kinds.kind kinds.right) q).1
      (AtOrBelow-trans d (subst (λ z. AtOrBelow d z low) (sym (sorts right kinds.right)) (subst (AtOrBelow d (shape_in d env right).sort) (sym (sorts left kinds.left)) (each env choice)))
      (least_sort_below d good (apply s left) (kinds.kind, HasKind-apply d s sorted.0 left kinds.kind kinds.left) q h))
    where
      env : Var → Shape
      env x = trimmed d (shape_of d (canon d (s x)))

      low : SortId
      low = least_sort d (canon d (apply s left))

      choice : IsChoice (sort_choices d) left env
      choice x o =
          let i = occurring_sort d x left kinds.kind kinds.left o in
          trimmed_choice d good completed (canon d (s x)) x.sort i (least_sort_below d good (s x) (kind d x.sort, sorted.0 x i) x.sort (sorted.1 x))

      sorts : (u : Term) → HasKind d u kinds.kind → least_sort d (canon d (apply s u)) ≡ (shape_in d env u).sort
      sorts u k = ap (λ (z : Shape). z.sort) (shape_exact d good s sorted.0 u kinds.kind k) ∙ sort_trimmed d (λ x. shape_of d (canon d (s x))) u

  -- and the other way round
  pub decreases_by_choice : IsSortDecreasing d left right → (env : Var → Shape) → IsChoice (sort_choices d) left env → Decreases env
  decreases_by_choice decreasing env choice =
      rw (sorts right kinds.right within, sorts left kinds.left (λ x o. o)) at (least_sort_below d good (apply s right) (kinds.kind, kept right kinds.right) low (decreasing s (choosing_sorted d good completed left env each) low (has_least_sort d good (apply s left) (kinds.kind, kept left kinds.left))))
    where
      each : (x : Var) → Occurs x left → IsMade d good completed x (env x) (made d good completed (env x).root (env x).sort x)
      each = each_sort_choice d good completed left kinds.kind kinds.left env choice

      s : Substitution
      s = choosing d good completed left env

      low : SortId
      low = least_sort d (canon d (apply s left))

      kept : (u : Term) → HasKind d u kinds.kind → HasKind d (apply s u) kinds.kind
      kept u h = HasKind-apply d s (choosing_keeps d good completed left env each) u kinds.kind h

      sorts : (u : Term) → HasKind d u kinds.kind → ((x : Var) → Occurs x u → Occurs x left) → least_sort d (canon d (apply s u)) ≡ (shape_in d env u).sort
      sorts u h w = ap (λ (z : Shape). z.sort) (choosing_shape d good completed left env each u kinds.kind h w)
