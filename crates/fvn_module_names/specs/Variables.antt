-- The variables that statements declare.
use Rattle.std.specs.Prelude.{ℕ, List, [], ◌∷◌, ◌++◌, Option, Some, None}
use Rattle.fvn_terms.specs.declared.plain.SortId.{SortId}
use Rattle.fvn_syntax.specs.Pieces.{Text}
use Rattle.fvn_syntax.specs.Texts.{place}
use Rattle.fvn_syntax.specs.declared.names.Variables.{Variables}
use Rattle.fvn_syntax.specs.Names.{resolve_sort}
use Rattle.fvn_module_syntax.specs.declared.statement.Statement.{Statement}
use Rattle.fvn_module_syntax.specs.declared.statement.Statement.TheVariants as statement

-- no variable
abbrev pub no_variables : Variables
no_variables = record { texts = []; sorts = [] }

-- the variables with one more
abbrev pub and_variable : Variables → Text → SortId → Variables
and_variable xs w s = record { texts = xs.texts ++ (w ∷ []); sorts = xs.sorts ++ (s ∷ []) }

-- the variables with this one, where it is not declared yet
abbrev pub unless_declared : Variables → Text → SortId → Option ℕ → Variables
unless_declared xs w s None = and_variable xs w s
unless_declared xs w s (Some i) = xs

-- the variables with these names of one sort
abbrev pub with_variables : Variables → List Text → SortId → Variables
with_variables xs [] s = xs
with_variables xs (w ∷ ws) s = with_variables (unless_declared xs w s (place xs.texts w)) ws s

-- the variables with these names, where their sort is declared
abbrev pub where_sorted : Variables → List Text → Option SortId → Variables
where_sorted xs ws None = xs
where_sorted xs ws (Some s) = with_variables xs ws s

module _ (sorts : List Text) (kinds : List SortId) where
  -- the variables so far with those of a statement
  abbrev pub with_declared : Variables → Statement → Variables
  with_declared xs (statement.Sorts plural names) = xs
  with_declared xs (statement.Subsorts plural groups) = xs
  with_declared xs (statement.Operator name rank attributes) = xs
  with_declared xs (statement.Operators names rank attributes) = xs
  with_declared xs (statement.Variables plural names sort) = where_sorted xs names (resolve_sort sorts kinds sort)
  with_declared xs (statement.Equation label left right marks) = xs

  -- the variables so far with those of statements
  abbrev pub with_all_declared : Variables → List Statement → Variables
  with_all_declared xs [] = xs
  with_all_declared xs (st ∷ sts) = with_all_declared (with_declared xs st) sts

  -- the variables that statements declare
  abbrev pub variables_of : List Statement → Variables
  variables_of = with_all_declared no_variables
