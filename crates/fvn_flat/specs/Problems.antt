-- The subterms and the variables of a problem, and its flat form.
use Rattle.std.specs.Prelude.{Bool, true, false, not, ◌&&◌, List, [], ◌∷◌, ◌++◌, map, filter, All}
use Rattle.std.specs.List.{AllZip}
use Rattle.fvn_terms.specs.declared.plain.Var.{Var}
use Rattle.fvn_terms.specs.declared.plain.SortId.{SortId}
use Rattle.fvn_terms.specs.declared.declarations.Declarations.{Declarations}
use Rattle.fvn_terms.specs.Term.{Term, Terms, var, app, none, more}
use Rattle.fvn_terms.specs.Substitution.{Occurs, same_var}
use Rattle.fvn_terms.specs.Signature.{HasKind}
use Rattle.fvn_terms.specs.Equality.{BEqual}
use Rattle.fvn_terms.specs.Unifiers.{Problem}
use Rattle.fvn_forms.specs.Flat.{FlatTerm, plain}
use Rattle.fvn_forms.specs.Canon.{same_op, canon}

-- the subterms of a term, in the order in which they begin
abbrev mutual
  pub subterms : Term → List Term
  subterms (var x) = var x ∷ []
  subterms (app f ts) = app f ts ∷ subterms_among ts

  -- those of each argument in turn
  pub subterms_among : Terms → List Term
  subterms_among none = []
  subterms_among (more t ts) = subterms t ++ subterms_among ts

-- the subterms of both sides of each pair, read from left to right
abbrev pub subterms_of : Problem → List Term
subterms_of [] = []
subterms_of (p ∷ problem) = (subterms p.0 ++ subterms p.1) ++ subterms_of problem

-- the variables of a term from left to right, each as often as it occurs
abbrev mutual
  pub variables : Term → List Var
  variables (var x) = x ∷ []
  variables (app f ts) = variables_among ts

  -- those of each argument in turn
  pub variables_among : Terms → List Var
  variables_among none = []
  variables_among (more t ts) = variables t ++ variables_among ts

-- those of both sides of each pair
abbrev pub variables_of : Problem → List Var
variables_of [] = []
variables_of (p ∷ problem) = (variables p.0 ++ variables p.1) ++ variables_of problem

-- no variable occurs in the term
abbrev pub IsGround : Term → Type 0
IsGround t = (x : Var) → Occurs x t → ⊥

-- whether two terms are one
abbrev mutual
  pub same_term : Term → Term → Bool
  same_term (var x) (var y) = same_var x y
  same_term (var x) (app g us) = false
  same_term (app f ts) (var y) = false
  same_term (app f ts) (app g us) = same_op f g && same_terms ts us

  -- whether two lists of arguments are one
  pub same_terms : Terms → Terms → Bool
  same_terms none none = true
  same_terms none (more u us) = false
  same_terms (more t ts) none = false
  same_terms (more t ts) (more u us) = same_term t u && same_terms ts us

-- each term of the list once, where it first stands
abbrev pub once : List Term → List Term
once [] = []
once (t ∷ ts) = t ∷ filter (λ u. not (same_term t u)) (once ts)

-- the sides of each pair are terms of one kind
abbrev pub IsProblem : Declarations → Problem → Type 0
IsProblem d problem = All (λ p. (k : SortId) × HasKind d p.0 k × HasKind d p.1 k) problem

-- flat pairs, as the plain terms that they stand for
abbrev pub plain_pairs : List (FlatTerm × FlatTerm) → Problem
plain_pairs pairs = map (λ p. (plain p.0, plain p.1)) pairs

-- the flat forms of the sides of each pair
abbrev pub flat_pairs : Declarations → Problem → List (FlatTerm × FlatTerm)
flat_pairs d problem = map (λ p. (canon d p.0, canon d p.1)) problem

-- the pairs of the two problems are equal modulo the axioms, side by side
abbrev pub ArePairsEqual : Declarations → Problem → Problem → Type 0
ArePairsEqual d problem other = AllZip (λ p q. BEqual d p.0 q.0 × BEqual d p.1 q.1) problem other
