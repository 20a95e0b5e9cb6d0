-- Plain terms.
-- F. Baader and T. Nipkow, Term Rewriting and All That, 1998, chapter 3.
use Rattle.std.specs.Prelude.{ℕ, ◌+◌, List, [], ◌∷◌}
use Rattle.fvn_terms.specs.declared.plain.Var.{Var}
use Rattle.fvn_terms.specs.declared.plain.OpId.{OpId}

mutual
  -- a term is a variable, or an operator over a list of terms
  pub data Term : Type 0 where
    var : Var → Term
    app : OpId → Terms → Term

  -- a list of terms, as arguments
  pub data Terms : Type 0 where
    none : Terms
    more : Term → Terms → Terms

-- the number of nodes of a term
abbrev mutual
  pub nodes : Term → ℕ
  nodes (var x) = 1
  nodes (app f ts) = nodes_all ts + 1

  -- the number of nodes of all terms of a list
  pub nodes_all : Terms → ℕ
  nodes_all none = 0
  nodes_all (more t ts) = nodes t + nodes_all ts

-- a list of terms as arguments
abbrev pub pack : List Term → Terms
pack [] = none
pack (t ∷ ts) = more t (pack ts)
