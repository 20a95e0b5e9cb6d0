-- The variables of a text, in order of first occurrence.
use Rattle.std.specs.Prelude.{◌≡◌, ◌≢◌, ◌<◌, ◌⊎◌, ◌↔◌, ◌++◌, false, List, [], ◌∷◌, if◌then◌else◌, length, AllPairs, Contains}
use Rattle.std.specs.List.{list_any}
use Rattle.fvn_terms.specs.declared.plain.Var.{Var}
use Rattle.fvn_terms.specs.declared.plain.Plain.{Plain}
use Rattle.fvn_terms.specs.declared.declarations.Declarations.{Declarations}
use Rattle.fvn_terms.specs.Signature.{IsSort}
use Rattle.fvn_terms.specs.Term.{Term, Terms, var, app, none, more}
use Rattle.fvn_terms.specs.Plain.{term}
use Rattle.fvn_terms.specs.Substitution.{Occurs, same_var}
use Rattle.fvn_syntax.specs.Pieces.{Text}

-- the variables with this one, which is put at the end where it is new
abbrev pub with_variable : List Var → Var → List Var
with_variable xs x = if list_any (same_var x) xs then xs else xs ++ (x ∷ [])

-- the variables with those of a term, from left to right, each once
abbrev mutual
  pub with_variables : List Var → Term → List Var
  with_variables xs (var x) = with_variable xs x
  with_variables xs (app f ts) = with_all xs ts

  -- the variables with those of several terms
  pub with_all : List Var → Terms → List Var
  with_all xs none = xs
  with_all xs (more t ts) = with_all (with_variables xs t) ts

-- the variables with those of both sides of each pair
abbrev pub with_sides : List Var → List (Plain × Plain) → List Var
with_sides xs [] = xs
with_sides xs (p ∷ ps) = with_sides (with_variables (with_variables xs (term p.0)) (term p.1)) ps

-- x occurs in one of the sides
abbrev pub OccursInSides : List (Plain × Plain) → Var → Type 0
OccursInSides [] x = ⊥
OccursInSides (p ∷ ps) x = (Occurs x (term p.0) ⊎ Occurs x (term p.1)) ⊎ OccursInSides ps x

-- x has the text with its number among these, and a sort of the signature
pub record IsNamed (d : Declarations) (texts : List Text) (x : Var) : Type 0 where
  pub not_fresh : x.fresh ≡ false
  pub number : x.name < length texts
  pub sort : IsSort d x.sort

-- these are the variables that occur, each once, and each is one that a text names
pub record AreVariables (d : Declarations) (texts : List Text) (IsThere : Var → Type 0) (xs : List Var) : Type 0 where
  pub exact : (x : Var) → Contains xs x ↔ IsThere x
  pub distinct : AllPairs (λ x y. x ≢ y) xs
  pub named : (x : Var) → IsThere x → IsNamed d texts x
