-- Shapes of terms: the root of the flat form, and the least sort.
-- J. A. Goguen and J. Meseguer, Order-sorted algebra I, 1992.
use Rattle.std.specs.Prelude.{Bool, true, false, if◌then◌else◌, List, [], ◌∷◌, map, Option, Some, None}
use Rattle.fvn_terms.specs.declared.plain.Var.{Var}
use Rattle.fvn_terms.specs.declared.plain.OpId.{OpId}
use Rattle.fvn_terms.specs.declared.plain.SortId.{SortId}
use Rattle.fvn_terms.specs.declared.declarations.Declarations.{Declarations}
use Rattle.fvn_terms.specs.Term.{Term, Terms, var, app, none, more}
use Rattle.fvn_terms.specs.Signature.{axioms}
use Rattle.fvn_forms.specs.Flat.{FlatTerm, fvar, fapp, fnone, fmore}
use Rattle.fvn_forms.specs.Canon.{same_op}
use Rattle.fvn_terms.specs.Equality.{identity}
use Rattle.fvn_forms.specs.Ranks.{result}
use Rattle.fvn_forms.specs.LeastSort.{least_sort}
use Rattle.fvn_rewrite_laws.specs.declared.shapes.Root.{Root}
use Rattle.fvn_rewrite_laws.specs.declared.shapes.Root.TheVariants.{Variable, Constant, Compound}
use Rattle.fvn_rewrite_laws.specs.declared.shapes.Shape.{Shape}

-- what a flat form is at its root
abbrev pub root_of : FlatTerm → Root
root_of (fvar x) = Variable
root_of (fapp g true ts) = Compound
root_of (fapp g false fnone) = Constant g
root_of (fapp g false (fmore t ts)) = Compound

-- whether this is the root of the constant
abbrev pub is_root_of : Option OpId → Root → Bool
is_root_of None root = false
is_root_of (Some e) Variable = false
is_root_of (Some e) (Constant g) = same_op e g
is_root_of (Some e) Compound = false

-- the sorts of shapes
abbrev pub sorts_of : List Shape → List SortId
sorts_of shapes = map (λ (s : Shape). s.sort) shapes

-- an operator over arguments, of this least sort
abbrev pub compound : SortId → Shape
compound s = record { root = Compound; sort = s }

module _ (d : Declarations) where
  -- the shape of a flat form
  abbrev pub shape_of : FlatTerm → Shape
  shape_of t = record { root = root_of t; sort = least_sort d t }

  -- the shape of f over some terms of these shapes: where one of two is f's identity, that of the other
  abbrev pub shape_beside : Option OpId → OpId → List Shape → Shape
  shape_beside e f [] = compound (result d f [])
  shape_beside e f (a ∷ []) = compound (result d f (a.sort ∷ []))
  shape_beside e f (a ∷ b ∷ []) = if is_root_of e a.root then b else if is_root_of e b.root then a else compound (result d f (a.sort ∷ b.sort ∷ []))
  shape_beside e f (a ∷ b ∷ c ∷ ss) = compound (result d f (sorts_of (a ∷ b ∷ c ∷ ss)))

  -- the shape of f over terms of these shapes; a constant stays
  abbrev pub shape_over : OpId → List Shape → Shape
  shape_over f [] = record { root = Constant f; sort = result d f [] }
  shape_over f (a ∷ ss) = shape_beside (identity (axioms d f)) f (a ∷ ss)

  -- the shape of a term in which each variable stands for a term of a shape
  abbrev mutual
    pub shape_in : (Var → Shape) → Term → Shape
    shape_in env (var x) = env x
    shape_in env (app f ts) = shape_over f (shapes_in env ts)

    -- the shapes of a list of terms in which each variable stands for a term of a shape
    pub shapes_in : (Var → Shape) → Terms → List Shape
    shapes_in env none = []
    shapes_in env (more t ts) = shape_in env t ∷ shapes_in env ts
