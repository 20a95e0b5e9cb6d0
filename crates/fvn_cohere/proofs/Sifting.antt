-- A search, one variable after another.
use Rattle.std.proofs.Common.{◌≡◌, ◌<◌, ◌+◌, ℕ, zero, suc, Bool, true, false, not, List, [], ◌∷◌, length, drop, get_or, refl, sym, ap, ◌∙◌, arith}
use Rattle.std.specs.Prelude.{◌&&◌}
use Rattle.std.specs.List.{list_any}
use Rattle.fvn_base.proofs.Drops.{drop-at}
use Rattle.fvn_terms.specs.declared.plain.Var.{Var}
use Rattle.fvn_terms.specs.declared.plain.OpId.{OpId}
use Rattle.fvn_terms.specs.declared.plain.SortId.{SortId}
use Rattle.fvn_terms.specs.declared.declarations.Declarations.{Declarations}
use Rattle.fvn_terms.specs.Term.{Term}
use Rattle.fvn_forms.specs.SortOrder.{at_or_below}
use Rattle.fvn_rewrite_laws.specs.declared.shapes.Shape.{Shape}
use Rattle.fvn_rewrite_laws.specs.Shapes.{shape_in}
use Rattle.fvn_cohere.specs.declared.searching.Sought.{Sought}
use Rattle.fvn_cohere.specs.declared.searching.Sought.TheVariants.{Loss, LossAt, ToVariable, ToIdentity}
use Rattle.fvn_cohere.specs.inner.Searching.{with_shape, some_choice, is_variable_root, is_identity_root, is_lost_at, is_met}

-- whether a choice is what is sought, by the shapes of the sides
module _ (d : Declarations) (es : List OpId) (left right : Term) (env : Var → Shape) where
  pub met_loss : (sought : Sought) (a b : Shape) (below : Bool) → sought ≡ Loss → a ≡ shape_in d env left → b ≡ shape_in d env right → below ≡ at_or_below d b.sort a.sort → not below ≡ is_met d sought es left right env
  met_loss sought a b below s p q e =
      ap not e ∙ ap (λ (z : Shape). not (at_or_below d b.sort z.sort)) p ∙ ap (λ (z : Shape). not (at_or_below d z.sort (shape_in d env left).sort)) q
      ∙ sym (ap (λ z. is_met d z es left right env) s)

  pub met_loss_at : (sought : Sought) (s : SortId) (a : Shape) (is : Bool) → sought ≡ LossAt s → a ≡ shape_in d env left → is ≡ is_lost_at d s a.sort (shape_in d env right).sort → is ≡ is_met d sought es left right env
  met_loss_at sought s a is e p q = q ∙ ap (λ (z : Shape). is_lost_at d s z.sort (shape_in d env right).sort) p ∙ sym (ap (λ z. is_met d z es left right env) e)

  pub met_variable : (sought : Sought) (a : Shape) (is : Bool) → sought ≡ ToVariable → a ≡ shape_in d env left → is ≡ is_variable_root a.root → is ≡ is_met d sought es left right env
  met_variable sought a is s p e = e ∙ ap (λ (z : Shape). is_variable_root z.root) p ∙ sym (ap (λ z. is_met d z es left right env) s)

  pub met_identity : (sought : Sought) (a : Shape) (is : Bool) → sought ≡ ToIdentity → a ≡ shape_in d env left → is ≡ is_identity_root es a.root → is ≡ is_met d sought es left right env
  met_identity sought a is s p e = e ∙ ap (λ (z : Shape). is_identity_root es z.root) p ∙ sym (ap (λ z. is_met d z es left right env) s)

-- whether the left side has a sort that the right side has not, asked in turn
module _ (d : Declarations) (s left : SortId) where
  pub left_has_not : (right : SortId) (has : Bool) → has ≡ at_or_below d left s → has ≡ false → false ≡ is_lost_at d s left right
  left_has_not right has e h = sym (ap (λ b. b && not (at_or_below d right s)) (sym e ∙ h))

  pub left_has : (right made : Shape) (has below : Bool) → has ≡ at_or_below d left s → has ≡ true → made ≡ right → below ≡ at_or_below d made.sort s → not below ≡ is_lost_at d s left right.sort
  left_has right made has below e h p q = ap not q ∙ ap (λ (z : Shape). not (at_or_below d z.sort s)) p ∙ sym (ap (λ b. b && not (at_or_below d right.sort s)) (sym e ∙ h))

module _ (test : (Var → Shape) → Bool) where
  -- with nothing left, the choice itself
  pub last_choice : (all : List (Var × List Shape)) (from : ℕ) (env : Var → Shape) → from ≡ length all → test env ≡ some_choice test (drop from all) env
  last_choice all from env e = ap (λ l. some_choice test l env) (sym (none_left all from e)) where
    none_left : (all : List (Var × List Shape)) (n : ℕ) → n ≡ length all → drop n all ≡ []
    none_left [] zero e = refl
    none_left [] (suc n) e = absurd (omega (arith, e))
    none_left (v ∷ all) zero e = absurd (omega (arith, e))
    none_left (v ∷ all) (suc n) e = none_left all n (omega (arith, e))

  -- one variable more
  pub one_variable : (all : List (Var × List Shape)) (from : ℕ) (env : Var → Shape) (v : Var × List Shape) → from < length all → v ≡ get_or all from v →
      list_any (λ o. some_choice test (drop (from + 1) all) (with_shape env v.0 o)) v.1 ≡ some_choice test (drop from all) env
  one_variable all from env v within is = sym (ap (λ l. some_choice test l env) (drop-at all from v within is))
