-- The flat form of a term.
-- G. E. Peterson and M. E. Stickel, Complete sets of reductions for some equational theories, 1981.
use Rattle.std.specs.Prelude.{Bool, true, false, nat_eq, if◌then◌else◌, List, [], ◌∷◌, ◌++◌, Option, Some, None}
use Rattle.fvn_terms.specs.declared.plain.Var.{Var}
use Rattle.fvn_terms.specs.declared.plain.OpId.{OpId}
use Rattle.fvn_terms.specs.declared.declarations.Axioms.{Axioms}
use Rattle.fvn_terms.specs.declared.declarations.Axioms.TheVariants.{Free, Comm, AssocComm, AssocCommId}
use Rattle.fvn_terms.specs.declared.declarations.Declarations.{Declarations}
use Rattle.fvn_terms.specs.Term.{Term, Terms, var, app, none, more}
use Rattle.fvn_terms.specs.Signature.{axioms}
use Rattle.fvn_terms.specs.Equality.{identity}
use Rattle.fvn_forms.specs.Flat.{FlatTerm, fvar, fapp, fnone, fmore, fpack, funpack, fconstant, plain}
use Rattle.fvn_forms.specs.InOrder.{sort}

-- whether two operators are one
abbrev pub same_op : OpId → OpId → Bool
same_op f g = nat_eq f.0 g.0

-- whether the constant g is the identity
abbrev pub is_identity : Option OpId → OpId → Bool
is_identity None g = false
is_identity (Some e) g = same_op e g

-- the operator of a form that is a constant
abbrev pub as_constant : FlatTerm → Option OpId
as_constant (fvar x) = None
as_constant (fapp g true ts) = None
as_constant (fapp g false fnone) = Some g
as_constant (fapp g false (fmore t ts)) = None

module _ (d : Declarations) where
  -- the summands of a flat form under f: all arguments of a sum of f, none of f's identity, else the form alone
  abbrev pub parts : OpId → FlatTerm → List FlatTerm
  parts f (fvar x) = fvar x ∷ []
  parts f (fapp g true ts) = if same_op f g then funpack ts else fapp g true ts ∷ []
  parts f (fapp g false fnone) = if is_identity (identity (axioms d f)) g then [] else fconstant g ∷ []
  parts f (fapp g false (fmore t ts)) = fapp g false (fmore t ts) ∷ []

  -- the summands of several flat forms under f, one after another
  abbrev pub all_parts : OpId → List FlatTerm → List FlatTerm
  all_parts f [] = []
  all_parts f (t ∷ ts) = parts f t ++ all_parts f ts

  -- the sum of no summands: the identity, or what stands for no term
  abbrev pub empty_sum : OpId → Option OpId → FlatTerm
  empty_sum f None = fapp f true fnone
  empty_sum f (Some e) = fconstant e

  -- the sum of summands that stand in order
  abbrev pub joined : OpId → List FlatTerm → FlatTerm
  joined f [] = empty_sum f (identity (axioms d f))
  joined f (t ∷ []) = t
  joined f (t ∷ u ∷ us) = fapp f true (fpack (t ∷ u ∷ us))

  -- the sum of summands in any order
  abbrev pub sum : OpId → List FlatTerm → FlatTerm
  sum f ts = joined f (sort ts)

  -- f with these axioms over at least one flat form
  abbrev pub built : Axioms → OpId → List FlatTerm → FlatTerm
  built Free f ts = fapp f false (fpack ts)
  built Comm f ts = fapp f false (fpack (sort ts))
  built AssocComm f ts = sum f (all_parts f ts)
  built (AssocCommId e) f ts = sum f (all_parts f ts)

  -- f over flat forms, flat again; a constant stays
  abbrev pub build : OpId → List FlatTerm → FlatTerm
  build f [] = fconstant f
  build f (t ∷ ts) = built (axioms d f) f (t ∷ ts)

  -- the flat form of a term in which each variable stands for a flat form
  abbrev mutual
    pub eval : (Var → FlatTerm) → Term → FlatTerm
    eval s (var x) = s x
    eval s (app f ts) = build f (eval_all s ts)

    -- the flat forms of a list of terms in which each variable stands for a flat form
    pub eval_all : (Var → FlatTerm) → Terms → List FlatTerm
    eval_all s none = []
    eval_all s (more t ts) = eval s t ∷ eval_all s ts

  -- the flat form of a term
  abbrev pub canon : Term → FlatTerm
  canon = eval fvar

  -- a flat form with all its variables replaced at once, flat again
  abbrev pub inst : (Var → FlatTerm) → FlatTerm → FlatTerm
  inst s t = eval s (plain t)
