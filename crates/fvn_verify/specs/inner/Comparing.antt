-- Pairs as they are compared, one after another.
use Rattle.std.specs.Prelude.{◌≡◌, ◌⊎◌, ℕ, List, All, Option, Some, None}
use Rattle.fvn_terms.specs.declared.plain.Plain.{Plain}
use Rattle.fvn_terms.specs.declared.declarations.Declarations.{Declarations}
use Rattle.fvn_terms.specs.Plain.{term}
use Rattle.fvn_terms.specs.Signature.{IsTerm}
use Rattle.fvn_terms.specs.Substitution.{Substitution}
use Rattle.fvn_terms.specs.Equality.{BEqual}
use Rattle.fvn_terms.specs.Rewriting.{IsConfluent}
use Rattle.fvn_forms.specs.Flat.{FlatTerm, plain}
use Rattle.fvn_forms.specs.Canon.{canon}
use Rattle.fvn_flat.specs.Fits.{Fits}
use Rattle.fvn_flat.specs.declared.solver.Normal.{Normal}
use Rattle.fvn_flat.specs.declared.solver.Normal.TheVariants.{Form, Steps as OutOfSteps, Size as OutOfSize}
use Rattle.fvn_verify.specs.declared.verdict.Verdict.{Verdict}
use Rattle.fvn_verify.specs.declared.verdict.Verdict.TheVariants.{Yes, No, Steps, Size}
use Rattle.fvn_verify.specs.declared.comparing.Compared.{Compared}
use Rattle.fvn_verify.specs.declared.comparing.Compared.TheVariants.{Found, Ended}
use Rattle.fvn_rewrite.specs.Usable.{Rewriting, equations_by}
use Rattle.fvn_verify.specs.Verdicts.{Setting, instance, sides_in_turn, AreEqual, IsFormOf, IsUnfinished, IsTooLarge, HasForm, MeetInForm, IsFirstDifference}

-- what the sides are rewritten in where this substitution is put in
abbrev pub under : Rewriting → Substitution → Setting
under r s = record { declarations = r.signature; equations = equations_by r; by = s; bounds = r.bounds }

-- both sides are well-kinded
abbrev pub AreKinded : Declarations → Plain × Plain → Type 0
AreKinded d p = IsTerm d (term p.0) × IsTerm d (term p.1)

-- the first difference: the one so far, where there is one
abbrev pub earlier : Option (ℕ × FlatTerm × FlatTerm) → ℕ → Option (FlatTerm × FlatTerm) → Option (ℕ × FlatTerm × FlatTerm)
earlier (Some found) number difference = Some found
earlier None number None = None
earlier None number (Some forms) = Some (number, forms.0, forms.1)

-- the verdict on pairs all of whose forms were found, where this is their first difference
abbrev pub concluded : Option (ℕ × FlatTerm × FlatTerm) → Verdict
concluded None = Yes
concluded (Some found) = No found.0 found.1 found.2

module _ (g : Setting) where
  -- what is found of a side
  abbrev pub IsSideAs : Plain → Normal → Type 0
  IsSideAs t (Form f) = IsFormOf g t f
  IsSideAs t (OutOfSteps start end) = IsUnfinished g t start end
  IsSideAs t (OutOfSize f) = IsTooLarge g t f

  -- f is the flat form of the side
  pub record IsFlatForm (t : Plain) (f : FlatTerm) : Type 0 where
    pub is : f ≡ canon g.declarations (instance g.by t)
    pub equal : BEqual g.declarations (instance g.by t) (plain f)
    pub fits : Fits g.declarations f

  -- the sides of the pair are not equal modulo the axioms
  abbrev pub HasTwoInstances : Plain × Plain → Type 0
  HasTwoInstances p = BEqual g.declarations (instance g.by p.0) (instance g.by p.1) → ⊥

  -- forms of both sides that differ, as the sides do; where the equations are confluent, the sides are then not equal in the theory
  pub record AreDifferent (p : Plain × Plain) (left right : FlatTerm) : Type 0 where
    pub left_form : IsFormOf g p.0 left
    pub right_form : IsFormOf g p.1 right
    pub differ : BEqual g.declarations (plain left) (plain right) → ⊥
    pub instances : HasTwoInstances p
    pub apart : IsConfluent g.declarations g.equations → AreEqual g.declarations g.equations g.by p → ⊥

  -- the sides are equal and meet in a form, or have these forms, which differ
  abbrev pub IsDifference : Plain × Plain → Option (FlatTerm × FlatTerm) → Type 0
  IsDifference p None = AreEqual g.declarations g.equations g.by p × MeetInForm g p
  IsDifference p (Some forms) = AreDifferent p forms.0 forms.1

  -- the search ends at this side of the pair: the left one, or the right one where a form of the left one was found
  abbrev pub IsEndIn : Plain × Plain → Plain → Type 0
  IsEndIn p t = (t ≡ p.0) ⊎ ((t ≡ p.1) × HasForm g p.0)

  -- how the search ends at this side
  abbrev pub EndsAs : Plain → Verdict → Type 0
  EndsAs t Yes = ⊥
  EndsAs t (No number left right) = ⊥
  EndsAs t (Steps start end) = IsUnfinished g t start end
  EndsAs t (Size f) = IsTooLarge g t f

  -- the search ends so at a side of the pair
  abbrev pub EndsIn : Plain × Plain → Verdict → Type 0
  EndsIn p v = (t : Plain) × (IsEndIn p t × EndsAs t v)

  -- what comes of the two sides of a pair
  abbrev pub IsCompared : Plain × Plain → Compared → Type 0
  IsCompared p (Found difference) =
      HasForm g p.0 × (HasForm g p.1 × IsDifference p difference)
  IsCompared p (Ended v) = EndsIn p v

  -- the first difference of the pairs, where there is one
  abbrev pub IsFirst : List (Plain × Plain) → Option (ℕ × FlatTerm × FlatTerm) → Type 0
  IsFirst pairs None = All (AreEqual g.declarations g.equations g.by) pairs × All (MeetInForm g) pairs
  IsFirst pairs (Some found) = IsFirstDifference g pairs found.0 found.1 found.2

  -- forms of all sides of these pairs were found, and this is their first difference, where there is one
  abbrev pub IsSoFar : List (Plain × Plain) → Option (ℕ × FlatTerm × FlatTerm) → Type 0
  IsSoFar pairs first = All (HasForm g) (sides_in_turn pairs) × IsFirst pairs first
