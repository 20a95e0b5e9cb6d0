-- Flat forms: terms in which the arguments of a sum are one list.
-- G. E. Peterson and M. E. Stickel, Complete sets of reductions for some equational theories, 1981.
use Rattle.std.specs.Prelude.{ℕ, Bool, true, false, List, [], ◌∷◌}
use Rattle.fvn_terms.specs.declared.plain.Var.{Var}
use Rattle.fvn_terms.specs.declared.plain.OpId.{OpId}
use Rattle.fvn_terms.specs.Term.{Term, Terms, var, app, none, more, nodes}
use Rattle.fvn_terms.specs.Equality.{two}

mutual
  -- a flat form is a variable, or an operator over a list of flat forms;
  -- the mark is true at a joined sum, which stands for the operator used between its arguments
  pub data FlatTerm : Type 0 where
    fvar : Var → FlatTerm
    fapp : OpId → Bool → FlatTerms → FlatTerm

  -- a list of flat forms, as arguments
  pub data FlatTerms : Type 0 where
    fnone : FlatTerms
    fmore : FlatTerm → FlatTerms → FlatTerms

-- a list of flat forms as arguments
abbrev pub fpack : List FlatTerm → FlatTerms
fpack [] = fnone
fpack (t ∷ ts) = fmore t (fpack ts)

-- arguments as a list of flat forms
abbrev pub funpack : FlatTerms → List FlatTerm
funpack fnone = []
funpack (fmore t ts) = t ∷ funpack ts

-- the flat form of the constant e
abbrev pub fconstant : OpId → FlatTerm
fconstant e = fapp e false fnone

-- f(t, f(u, f(v, w))) of t, u, v and w
abbrev pub nest : OpId → Term → Terms → Term
nest f t none = t
nest f t (more u us) = two f t (nest f u us)

-- a list of terms nested under f; f over nothing where the list is empty
abbrev pub nest_all : OpId → Terms → Term
nest_all f none = app f none
nest_all f (more t ts) = nest f t ts

-- f over terms: nested where the mark is true
abbrev pub over : OpId → Bool → Terms → Term
over f true ts = nest_all f ts
over f false ts = app f ts

-- the plain term that a flat form stands for; a sum is nested to the right
abbrev mutual
  pub plain : FlatTerm → Term
  plain (fvar x) = var x
  plain (fapp f joined ts) = over f joined (plain_all ts)

  -- the plain terms that a list of flat forms stands for
  pub plain_all : FlatTerms → Terms
  plain_all fnone = none
  plain_all (fmore t ts) = more (plain t) (plain_all ts)

-- the nodes of the plain term
abbrev pub symbols : FlatTerm → ℕ
symbols t = nodes (plain t)
