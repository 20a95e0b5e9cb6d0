-- What is said of pairs under a substitution.
use Rattle.std.specs.Prelude.{◌≡◌, ◌≤◌, ◌<◌, ◌+◌, ℕ, List, [], ◌∷◌, ◌++◌, length, All}
use Rattle.fvn_terms.specs.declared.plain.Plain.{Plain}
use Rattle.fvn_terms.specs.declared.declarations.Declarations.{Declarations}
use Rattle.fvn_terms.specs.Term.{Term}
use Rattle.fvn_terms.specs.Plain.{term}
use Rattle.fvn_terms.specs.Substitution.{Substitution, apply}
use Rattle.fvn_terms.specs.Equality.{BEqual}
use Rattle.fvn_terms.specs.Theory.{Equations, TEqual}
use Rattle.fvn_theory.specs.declared.bounds.Bounds.{Bounds}
use Rattle.fvn_terms.specs.Rewriting.{TermSequence, IsReducible, IsIrreducible, IsConfluent}
use Rattle.fvn_forms.specs.Flat.{FlatTerm, plain, symbols}
use Rattle.fvn_forms.specs.Canon.{canon}
use Rattle.fvn_flat.specs.Fits.{Fits}
use Rattle.fvn_verify.specs.declared.verdict.Verdict.{Verdict}
use Rattle.fvn_verify.specs.declared.verdict.Verdict.TheVariants.{Yes, No, Steps, Size}

-- the sides of pairs, one after another, the left one of each first
abbrev pub sides_in_turn : List (Plain × Plain) → List Plain
sides_in_turn [] = []
sides_in_turn (p ∷ pairs) = p.0 ∷ p.1 ∷ sides_in_turn pairs

-- a side with its variables replaced
abbrev pub instance : Substitution → Plain → Term
instance s t = apply s (term t)

-- both sides, with their variables replaced, are equal in the theory
abbrev pub AreEqual : Declarations → Equations → Substitution → Plain × Plain → Type 0
AreEqual d equations s p = TEqual d equations (instance s p.0) (instance s p.1)

-- what sides are rewritten in: declarations and equations, a substitution that is put in, and limits on steps and
-- symbols
pub record Setting : Type 0 where
  pub declarations : Declarations
  pub equations : Equations
  pub by : Substitution
  pub bounds : Bounds

-- these, as one value
abbrev pub setting : Declarations → Equations → Substitution → Bounds → Setting
setting d equations s bounds = record { declarations = d; equations = equations; by = s; bounds = bounds }

module _ (g : Setting) where
  -- at most `steps` steps lead from the side to f, which is irreducible and has at most `size` symbols
  pub record IsFormOf (t : Plain) (f : FlatTerm) : Type 0 where
    pub count : ℕ
    pub within : count ≤ g.bounds.steps
    pub reached : TermSequence g.declarations g.equations count (instance g.by t) (plain f)
    pub fits : Fits g.declarations f
    pub irreducible : IsIrreducible g.declarations g.equations (plain f)
    pub small : symbols f ≤ g.bounds.size

  -- `steps` steps lead from the side, whose flat form is `start`, to `end`, which is reducible
  pub record IsUnfinished (t : Plain) (start end : FlatTerm) : Type 0 where
    pub start_is : start ≡ canon g.declarations (instance g.by t)
    pub start_fits : Fits g.declarations start
    pub sequence : TermSequence g.declarations g.equations g.bounds.steps (instance g.by t) (plain end)
    pub fits : Fits g.declarations end
    pub reducible : IsReducible g.declarations g.equations (plain end)

  -- at most `steps` steps, perhaps none, lead from the side to f, which has over `size` symbols
  pub record IsTooLarge (t : Plain) (f : FlatTerm) : Type 0 where
    pub count : ℕ
    pub within : count ≤ g.bounds.steps
    pub sequence : TermSequence g.declarations g.equations count (instance g.by t) (plain f)
    pub fits : Fits g.declarations f
    pub large : g.bounds.size < symbols f

  -- a form of the side was found
  abbrev pub HasForm : Plain → Type 0
  HasForm t = (f : FlatTerm) × IsFormOf t f

  -- one form of both sides was found
  abbrev pub MeetInForm : Plain × Plain → Type 0
  MeetInForm p = (f : FlatTerm) × (IsFormOf p.0 f × IsFormOf p.1 f)

  -- The pair with this number is the first whose forms differ modulo the axioms, and these are they; forms of all sides
  -- were found. Its sides, with their variables replaced, differ modulo the axioms themselves.
  -- Where the equations are confluent, the sides of this pair are then not equal in the theory.
  pub record IsFirstDifference (pairs : List (Plain × Plain)) (number : ℕ) (left right : FlatTerm) : Type 0 where
    pub before : List (Plain × Plain)
    pub pair : Plain × Plain
    pub after : List (Plain × Plain)
    pub split : pairs ≡ before ++ (pair ∷ after)
    pub number_is : number ≡ length before + 1
    pub meet : All MeetInForm before
    pub left_form : IsFormOf pair.0 left
    pub right_form : IsFormOf pair.1 right
    pub differ : BEqual g.declarations (plain left) (plain right) → ⊥
    pub instances : BEqual g.declarations (instance g.by pair.0) (instance g.by pair.1) → ⊥
    pub found : All HasForm (sides_in_turn after)
    pub apart : IsConfluent g.declarations g.equations → AreEqual g.declarations g.equations g.by pair → ⊥

  -- the search ended at this side: forms of all sides before it were found
  pub record EndsAt (pairs : List (Plain × Plain)) (t : Plain) : Type 0 where
    pub before : List Plain
    pub after : List Plain
    pub split : sides_in_turn pairs ≡ before ++ (t ∷ after)
    pub found : All HasForm before

  -- What is said of the pairs: that both sides of each came to one form, so that they are equal in the theory; or which
  -- pair is the first whose normal forms differ; or that so many steps led from a side to no normal form, or at
  -- most so many to a form that is too large.
  abbrev pub IsVerdict : List (Plain × Plain) → Verdict → Type 0
  IsVerdict pairs Yes = All (AreEqual g.declarations g.equations g.by) pairs × All MeetInForm pairs
  IsVerdict pairs (No number left right) = IsFirstDifference pairs number left right
  IsVerdict pairs (Steps start end) = (t : Plain) × (EndsAt pairs t × IsUnfinished t start end)
  IsVerdict pairs (Size f) = (t : Plain) × (EndsAt pairs t × IsTooLarge t f)
