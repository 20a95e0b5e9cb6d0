-- The shape of an operator over so many shapes.
use Rattle.std.proofs.Common.{◌≡◌, true, false, List, [], ◌∷◌, length, get_or, refl, sym, ap, ◌∙◌, arith}
use Rattle.std.specs.Prelude.{if◌then◌else◌}
use Rattle.fvn_terms.specs.declared.plain.OpId.{OpId}
use Rattle.fvn_terms.specs.declared.declarations.Declarations.{Declarations}
use Rattle.fvn_terms.specs.Signature.{axioms}
use Rattle.fvn_terms.specs.Equality.{identity}
use Rattle.fvn_forms.specs.Ranks.{result}
use Rattle.fvn_rewrite_laws.specs.declared.shapes.Shape.{Shape}
use Rattle.fvn_rewrite_laws.specs.Shapes.{is_root_of, sorts_of, compound, shape_over}

module _ (d : Declarations) (f : OpId) where
  pub over_none : (ss : List Shape) → length ss ≡ 0 → shape_over d f [] ≡ shape_over d f ss
  over_none [] e = refl
  over_none (s ∷ ss) e = absurd (omega (arith, e))

  -- where the first of two is the identity, or else the second
  pub over_left : (ss : List Shape) (a b : Shape) → length ss ≡ 2 → a ≡ get_or ss 0 a → b ≡ get_or ss 1 b → is_root_of (identity (axioms d f)) a.root ≡ true → b ≡ shape_over d f ss
  over_left [] a b e p q t = absurd (omega (arith, e))
  over_left (x ∷ []) a b e p q t = absurd (omega (arith, e))
  over_left (x ∷ y ∷ []) a b e p q t = q ∙ sym (ap (λ c. if c then y else if is_root_of (identity (axioms d f)) y.root then x else compound (result d f (x.sort ∷ y.sort ∷ []))) (ap (λ (s : Shape). is_root_of (identity (axioms d f)) s.root) (sym p) ∙ t))
  over_left (x ∷ y ∷ z ∷ ss) a b e p q t = absurd (omega (arith, e))

  pub over_right : (ss : List Shape) (a b : Shape) → length ss ≡ 2 → a ≡ get_or ss 0 a → b ≡ get_or ss 1 b → is_root_of (identity (axioms d f)) a.root ≡ false → is_root_of (identity (axioms d f)) b.root ≡ true → a ≡ shape_over d f ss
  over_right [] a b e p q n t = absurd (omega (arith, e))
  over_right (x ∷ []) a b e p q n t = absurd (omega (arith, e))
  over_right (x ∷ y ∷ []) a b e p q n t =
      p ∙ sym (
      ap (λ c. if c then y else if is_root_of (identity (axioms d f)) y.root then x else compound (result d f (x.sort ∷ y.sort ∷ []))) (ap (λ (s : Shape). is_root_of (identity (axioms d f)) s.root) (sym p) ∙ n)
      ∙ ap (λ c. if c then x else compound (result d f (x.sort ∷ y.sort ∷ []))) (ap (λ (s : Shape). is_root_of (identity (axioms d f)) s.root) (sym q) ∙ t))
  over_right (x ∷ y ∷ z ∷ ss) a b e p q n t = absurd (omega (arith, e))

  -- two that are not
  pub over_two : (ss : List Shape) (a b : Shape) → length ss ≡ 2 → a ≡ get_or ss 0 a → b ≡ get_or ss 1 b → is_root_of (identity (axioms d f)) a.root ≡ false → is_root_of (identity (axioms d f)) b.root ≡ false → compound (result d f (sorts_of ss)) ≡ shape_over d f ss
  over_two [] a b e p q n m = absurd (omega (arith, e))
  over_two (x ∷ []) a b e p q n m = absurd (omega (arith, e))
  over_two (x ∷ y ∷ []) a b e p q n m =
      sym (
      ap (λ c. if c then y else if is_root_of (identity (axioms d f)) y.root then x else compound (result d f (x.sort ∷ y.sort ∷ []))) (ap (λ (s : Shape). is_root_of (identity (axioms d f)) s.root) (sym p) ∙ n)
      ∙ ap (λ c. if c then x else compound (result d f (x.sort ∷ y.sort ∷ []))) (ap (λ (s : Shape). is_root_of (identity (axioms d f)) s.root) (sym q) ∙ m))
  over_two (x ∷ y ∷ z ∷ ss) a b e p q n m = absurd (omega (arith, e))

  -- one, or more than two
  pub over_others : (ss : List Shape) → (length ss ≡ 0 → ⊥) → (length ss ≡ 2 → ⊥) → compound (result d f (sorts_of ss)) ≡ shape_over d f ss
  over_others [] n m = absurd (n refl)
  over_others (x ∷ []) n m = refl
  over_others (x ∷ y ∷ []) n m = absurd (m refl)
  over_others (x ∷ y ∷ z ∷ ss) n m = refl
