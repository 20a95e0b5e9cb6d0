-- What a solver promises of one answer, and which answers are kept.
use Rattle.std.specs.Prelude.{◌≤◌, ◌↔◌, ℕ, List, [], ◌∷◌}
use Rattle.fvn_base.specs.declared.limits.TheConstants.{NEXT_FRESH}
use Rattle.fvn_terms.specs.declared.declarations.Declarations.{Declarations}
use Rattle.fvn_terms.specs.Substitution.{Substitution}
use Rattle.fvn_terms.specs.Unifiers.{Problem}
use Rattle.fvn_forms.specs.Flat.{FlatTerm}
use Rattle.fvn_flat.specs.Solving.{AreUnifiers, AreDrawn, AreBindings, AreNumbered, AreApart, AreComplete, HasCause}
use Rattle.fvn_flat.specs.declared.solver.Pairs.{Pairs}
use Rattle.fvn_flat.specs.declared.solver.Solved.{Solved}
use Rattle.fvn_flat.specs.declared.solver.SolveEnd.TheVariants.{Complete}
use Rattle.fvn_remembering.specs.declared.answer.Answer.{Answer}
use Rattle.fvn_remembering.specs.declared.keeping.TheConstants.{FIRST}

-- the signature in which is solved, the number of unifiers at which a solver stops, and the most symbols of a problem or a value
pub record Solving : Type 0 where
  pub declarations : Declarations
  pub most_unifiers : ℕ
  pub most_symbols : ℕ

-- the same from what it is made of
abbrev pub solving : Declarations → ℕ → ℕ → Solving
solving d most_unifiers most_symbols = record { declarations = d; most_unifiers = most_unifiers; most_symbols = most_symbols }

-- the problem of one pair
abbrev pub pair_of : FlatTerm → FlatTerm → Pairs
pair_of t u = record { pairs = (t, u) ∷ [] }

-- all that a solver promises of its answer to a problem, over new variables with numbers from the first on
pub record IsAnswer (s : Solving) (drawn : Problem → Substitution → Type 0) (first : ℕ) (given : Pairs) (r : Solved) : Type 0 where
  pub sound : AreUnifiers s.declarations given r
  pub are_drawn : AreDrawn s.declarations given drawn r
  pub binds : AreBindings s.declarations given r
  pub fresh : AreNumbered s.declarations given first r
  pub next : first ≤ r.next_fresh
  pub bounded : r.next_fresh ≤ NEXT_FRESH
  pub apart : AreApart s.declarations given r
  pub complete : AreComplete s.declarations given r
  pub cause : HasCause s.declarations given s.most_unifiers s.most_symbols r

-- a kept answer as a solver tells it
abbrev pub told_of : Answer → Solved
told_of answer = record { unifiers = answer.unifiers; next_fresh = answer.next_fresh; end = Complete }

-- a solver promises it of the problem for which it is kept
abbrev pub IsKept : Solving → (Problem → Substitution → Type 0) → Answer → Type 0
IsKept s drawn answer = IsAnswer s drawn FIRST (pair_of answer.first answer.second) (told_of answer)

-- what holds of what is in slots is that a solver promises it
abbrev pub HoldsAnswersOf : Solving → (Problem → Substitution → Type 0) → (List ℕ → Answer → Type 0) → Type 0
HoldsAnswersOf s drawn Holds = (tag : List ℕ) (answer : Answer) → Holds tag answer ↔ IsKept s drawn answer
