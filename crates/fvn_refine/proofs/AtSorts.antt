-- Values with their variables at the sorts of a way.
use Rattle.std.proofs.Common.{◌≡◌, Bool, true, false, List, ap, sym, refl, ◌∙◌, subst}
use Rattle.std.specs.List.{Contains}
use Rattle.std.specs.Option.{option_map}
use Rattle.fvn_terms.specs.declared.plain.Var.{Var}
use Rattle.fvn_terms.specs.declared.declarations.Declarations.{Declarations}
use Rattle.fvn_terms.specs.Signature.{kind, IsSort}
use Rattle.fvn_forms.specs.Flat.{fvar}
use Rattle.fvn_forms.specs.Canon.{inst}
use Rattle.fvn_forms.specs.Good.{IsGood}
use Rattle.fvn_forms.specs.LeastSort.{IsFlatSubstitution}
use Rattle.fvn_flat.specs.Bindings.{Bindings, form_or, value, BindingsFit}
use Rattle.fvn_refine.specs.Refinements.{Way, at_sort, IsAtSorts, AreBound, IsLargest}
use Rattle.fvn_refine.proofs.Refined.{occurs_in_values, occurs_true, occurs_false, bound_value}

module _ (d : Declarations) (good : IsGood d) (vars : List Var) (s : Bindings) (fit : BindingsFit d s) (are : AreBound d vars s) (way : Way) (largest : IsLargest d vars s way) where
  -- putting the sorts is a flat substitution
  pub sorts_flat : IsFlatSubstitution d (λ y. fvar (at_sort way y))
  sorts_flat = record { settled = λ y. tt; keeps_kinds = λ y i. go y i (occurs_in_values vars s y) refl }
    where
      go : (y : Var) → IsSort d y.sort → (b : Bool) → occurs_in_values vars s y ≡ b → IsSort d (way y) × (kind d (way y) ≡ kind d y.sort)
      go y i true e = largest.maximal.is_way.kinds y (occurs_true vars s y e)
      go y i false e =
          let is = largest.others y (occurs_false vars s y e) in
          (subst (IsSort d) (sym is) (good.kinded.listed y.sort i), ap (kind d) is ∙ good.kinded.own y.sort)

  -- what a variable is then bound to
  pub value_at_sorts : (r : Bindings) → IsAtSorts d s way r → (x : Var) → Contains vars x → value r x ≡ inst d (λ y. fvar (at_sort way y)) (value s x)
  value_at_sorts r at x i = ap (form_or x) (at x ∙ ap (option_map (inst d (λ y. fvar (at_sort way y)))) (bound_value d vars s fit are x i))
