-- Shapes of values may be trimmed to variables and identities: sorts stay.
use Rattle.std.proofs.Common.{◌≡◌, Bool, true, false, List, [], ◌∷◌, map, Option, Some, None, refl, sym, ap, ◌∙◌, subst, inl, inr}
use Rattle.std.specs.Prelude.{if◌then◌else◌}
use Rattle.fvn_terms.specs.declared.plain.Var.{Var}
use Rattle.fvn_terms.specs.declared.plain.OpId.{OpId}
use Rattle.fvn_terms.specs.declared.declarations.Declarations.{Declarations}
use Rattle.fvn_terms.specs.Term.{Term, Terms, var, app, none, more}
use Rattle.fvn_terms.specs.Substitution.{Occurs, OccursAmong}
use Rattle.fvn_terms.specs.Signature.{axioms}
use Rattle.fvn_terms.specs.Equality.{identity}
use Rattle.fvn_forms.specs.Ranks.{result}
use Rattle.fvn_forms.proofs.Sums.{same_op_is}
use Rattle.fvn_rewrite_laws.specs.declared.shapes.Root.{Root}
use Rattle.fvn_rewrite_laws.specs.declared.shapes.Root.TheVariants.{Variable, Constant, Compound}
use Rattle.fvn_rewrite_laws.specs.declared.shapes.Shape.{Shape}
use Rattle.fvn_rewrite_laws.specs.Shapes.{is_root_of, sorts_of, compound, shape_beside, shape_over, shape_in, shapes_in}
use Rattle.fvn_rewrite_laws.specs.Identities.{is_listed_op, identities}
use Rattle.fvn_rewrite_laws.proofs.Identities.{listed_op, identity_listed}

module _ (d : Declarations) where
  -- what is no identity stands as a variable
  abbrev pub trimmed_root : Root → Root
  trimmed_root Variable = Variable
  trimmed_root (Constant g) = if is_listed_op (identities d) g then Constant g else Variable
  trimmed_root Compound = Variable

  abbrev pub trimmed : Shape → Shape
  trimmed s = record { root = trimmed_root s.root; sort = s.sort }

  is_identity_listed : (f : OpId) (g : OpId) → is_root_of (identity (axioms d f)) (Constant g) ≡ true → is_listed_op (identities d) g ≡ true
  is_identity_listed f g h = go (identity (axioms d f)) refl h where
    go : (i : Option OpId) → identity (axioms d f) ≡ i → is_root_of i (Constant g) ≡ true → is_listed_op (identities d) g ≡ true
    go None p q = cc
    go (Some e) p q = subst (λ z. is_listed_op (identities d) z ≡ true) (same_op_is e g q) (listed_op (identities d) e (identity_listed d f e p))

  root_none : (i : Option OpId) → is_root_of i Variable ≡ false
  root_none None = refl
  root_none (Some e) = refl

  root_compound : (i : Option OpId) → is_root_of i Compound ≡ false
  root_compound None = refl
  root_compound (Some e) = refl

  -- trimmed or not, a root is that of an operator's identity
  root_trimmed : (f : OpId) (root : Root) → is_root_of (identity (axioms d f)) (trimmed_root root) ≡ is_root_of (identity (axioms d f)) root
  root_trimmed f Variable = refl
  root_trimmed f Compound = root_none (identity (axioms d f)) ∙ sym (root_compound (identity (axioms d f)))
  root_trimmed f (Constant g) = go (is_listed_op (identities d) g) refl (is_root_of (identity (axioms d f)) (Constant g)) refl where
    go : (b : Bool) → is_listed_op (identities d) g ≡ b → (c : Bool) → is_root_of (identity (axioms d f)) (Constant g) ≡ c → is_root_of (identity (axioms d f)) (if b then Constant g else Variable) ≡ is_root_of (identity (axioms d f)) (Constant g)
    go true p c q = refl
    go false p true q = let r : false ≡ true = sym p ∙ is_identity_listed f g q in cc
    go false p false q = root_none (identity (axioms d f)) ∙ sym q

  trimmed_root_twice : (root : Root) → trimmed_root (trimmed_root root) ≡ trimmed_root root
  trimmed_root_twice Variable = refl
  trimmed_root_twice Compound = refl
  trimmed_root_twice (Constant g) = go (is_listed_op (identities d) g) refl where
    go : (b : Bool) → is_listed_op (identities d) g ≡ b → trimmed_root (if b then Constant g else Variable) ≡ (if b then Constant g else Variable)
    go true p = ap (λ (b : Bool). if b then Constant g else Variable) p
    go false p = refl

  trimmed_twice : (s : Shape) → trimmed (trimmed s) ≡ trimmed s
  trimmed_twice s = ap (λ root. record { root = root; sort = s.sort }) (trimmed_root_twice s.root)

  sorts_trimmed : (ss : List Shape) → sorts_of (map trimmed ss) ≡ sorts_of ss
  sorts_trimmed [] = refl
  sorts_trimmed (s ∷ ss) = ap (λ l. s.sort ∷ l) (sorts_trimmed ss)

  beside_trimmed : (f : OpId) (a : Shape) (ss : List Shape) → trimmed (shape_beside d (identity (axioms d f)) f (a ∷ ss)) ≡ trimmed (shape_beside d (identity (axioms d f)) f (map trimmed (a ∷ ss)))
  beside_trimmed f a [] = refl
  beside_trimmed f a (b ∷ c ∷ ss) = ap (λ l. trimmed (compound (result d f (a.sort ∷ b.sort ∷ c.sort ∷ l)))) (sym (sorts_trimmed ss))
  beside_trimmed f a (b ∷ []) =
      rw (root_trimmed f a.root, root_trimmed f b.root) (go (is_root_of (identity (axioms d f)) a.root) (is_root_of (identity (axioms d f)) b.root))
    where
      go : (x y : Bool) →
          trimmed (if x then b else if y then a else compound (result d f (a.sort ∷ b.sort ∷ [])))
          ≡ trimmed (if x then trimmed b else if y then trimmed a else compound (result d f (a.sort ∷ b.sort ∷ [])))
      go true y = sym (trimmed_twice b)
      go false true = sym (trimmed_twice a)
      go false false = refl

  over_trimmed : (f : OpId) (ss : List Shape) → trimmed (shape_over d f ss) ≡ trimmed (shape_over d f (map trimmed ss))
  over_trimmed f [] = refl
  over_trimmed f (a ∷ ss) = beside_trimmed f a ss

  module _ (env : Var → Shape) where
    abbrev trimmed_env : Var → Shape
    trimmed_env x = trimmed (env x)

    mutual
      pub shape_trimmed : (t : Term) → trimmed (shape_in d env t) ≡ trimmed (shape_in d trimmed_env t)
      shape_trimmed (var x) = sym (trimmed_twice (env x))
      shape_trimmed (app f ts) =
          over_trimmed f (shapes_in d env ts)
          ∙ ap (λ l. trimmed (shape_over d f l)) (shapes_trimmed ts)
          ∙ sym (over_trimmed f (shapes_in d trimmed_env ts))

      shapes_trimmed : (ts : Terms) → map trimmed (shapes_in d env ts) ≡ map trimmed (shapes_in d trimmed_env ts)
      shapes_trimmed none = refl
      shapes_trimmed (more t ts) = ap (λ a. a ∷ map trimmed (shapes_in d env ts)) (shape_trimmed t) ∙ ap (λ l. trimmed (shape_in d trimmed_env t) ∷ l) (shapes_trimmed ts)

    -- the sort of a term is the same over trimmed shapes
    pub sort_trimmed : (t : Term) → (shape_in d env t).sort ≡ (shape_in d trimmed_env t).sort
    sort_trimmed t = ap (λ (s : Shape). s.sort) (shape_trimmed t)

  -- shapes that agree on the variables of a term give it one shape
  mutual
    pub shape_agrees : (env other : Var → Shape) (t : Term) → ((x : Var) → Occurs x t → env x ≡ other x) → shape_in d env t ≡ shape_in d other t
    shape_agrees env other (var x) h = h x refl
    shape_agrees env other (app f ts) h = ap (shape_over d f) (shapes_agree env other ts h)

    shapes_agree : (env other : Var → Shape) (ts : Terms) → ((x : Var) → OccursAmong x ts → env x ≡ other x) → shapes_in d env ts ≡ shapes_in d other ts
    shapes_agree env other none h = refl
    shapes_agree env other (more t ts) h =
        ap (λ a. a ∷ shapes_in d env ts) (shape_agrees env other t (λ x o. h x (inl o))) ∙ ap (λ l. shape_in d other t ∷ l) (shapes_agree env other ts (λ x o. h x (inr o)))
