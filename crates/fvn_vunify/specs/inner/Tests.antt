-- What tests of irreducibility come to.
use Rattle.std.specs.Prelude.{◌≡◌, ◌≤◌, ◌<◌, ◌⊎◌, ℕ, List, Contains}
use Rattle.fvn_terms.specs.declared.plain.Var.{Var}
use Rattle.fvn_terms.specs.Term.{Term}
use Rattle.fvn_terms.specs.Substitution.{apply}
use Rattle.fvn_terms.specs.Rewriting.{IsReducible, IsIrreducible}
use Rattle.fvn_forms.specs.Flat.{FlatTerm, plain, symbols}
use Rattle.fvn_forms.specs.Canon.{canon}
use Rattle.fvn_flat.specs.Bindings.{Bindings, value}
use Rattle.fvn_flat.specs.Fits.{Fits}
use Rattle.fvn_flat.specs.Solving.{substitution}
use Rattle.fvn_flat.specs.declared.solver.SizeCause.{SizeCause}
use Rattle.fvn_flat.specs.declared.solver.SizeCause.TheVariants.{Problem as OfProblem, Binding, Term as OfTerm}
use Rattle.fvn_rewrite_laws.specs.Normalised.{counted, IsReached}
use Rattle.fvn_exploring.specs.declared.ends.ExpandEnd.{ExpandEnd}
use Rattle.fvn_exploring.specs.declared.ends.ExpandEnd.TheVariants.{Whole, Steps, Size, Basis, Unifiers}
use Rattle.fvn_exploring.specs.Setting.{Setting}
use Rattle.fvn_vunify.specs.declared.testing.Test.{Test}
use Rattle.fvn_vunify.specs.declared.testing.Test.TheVariants.{Irreducible, Reducible, Stopped}

module _ (g : Setting) (t : FlatTerm) where
  -- the form is irreducible, and not too large
  pub record IsPassed : Type 0 where
    pub irreducible : IsIrreducible g.declarations g.equations (plain t)
    pub small : counted t ≤ g.bounds.size

  -- as many steps as are allowed lead from the form to a reducible one
  pub record IsUnfinished (start end : FlatTerm) : Type 0 where
    pub is : start ≡ t
    pub reached : IsReached g.declarations g.equations g.bounds.steps t end
    pub reducible : IsReducible g.declarations g.equations (plain end)

  -- some steps lead from the form to one that is too large
  pub record GrowsTo (end : FlatTerm) : Type 0 where
    pub steps : ℕ
    pub reached : IsReached g.declarations g.equations steps t end
    pub large : g.bounds.size < symbols end

  -- what grew too large is a term
  abbrev pub IsLargeCause : SizeCause → Type 0
  IsLargeCause (OfProblem given) = ⊥
  IsLargeCause (Binding list) = ⊥
  IsLargeCause (OfTerm end) = GrowsTo end

  -- why a test of the form stopped
  abbrev pub IsStopOf : ExpandEnd → Type 0
  IsStopOf Whole = ⊥
  IsStopOf (Steps start end) = IsUnfinished start end
  IsStopOf (Size cause) = IsLargeCause cause
  IsStopOf (Basis f system) = ⊥
  IsStopOf (Unifiers given list) = ⊥

  -- what a test of the form comes to
  abbrev pub IsTestOf : Test → Type 0
  IsTestOf Irreducible = IsPassed
  IsTestOf Reducible = IsIrreducible g.declarations g.equations (plain t) → ⊥
  IsTestOf (Stopped end) = IsStopOf end

module _ (g : Setting) (vars : List Var) (s : Bindings) where
  -- what s makes of each of the variables passes
  abbrev pub ArePassed : Type 0
  ArePassed = (x : Var) → Contains vars x → IsPassed g (value s x)

  -- what s makes of one of the variables does not
  abbrev pub IsTestOfSome : Test → Type 0
  IsTestOfSome test = (x : Var) × Contains vars x × IsTestOf g (value s x) test

  -- what tests of the values of the variables come to
  abbrev pub AreTestsOf : Test → Type 0
  AreTestsOf Irreducible = ArePassed
  AreTestsOf Reducible = IsTestOfSome Reducible
  AreTestsOf (Stopped end) = IsTestOfSome (Stopped end)

module _ (g : Setting) (s : Bindings) (t : Term) where
  -- the term is irreducible under s
  abbrev pub StaysUnder : Type 0
  StaysUnder = IsIrreducible g.declarations g.equations (apply (substitution s) t)

  -- the flat form of what s makes of the term
  abbrev pub form_under : FlatTerm
  form_under = canon g.declarations (apply (substitution s) t)

  -- a test of that form stopped
  pub record IsStopUnder (end : ExpandEnd) : Type 0 where
    pub fits : Fits g.declarations form_under
    pub stop : IsStopOf g form_under end

  -- what a test of it comes to
  abbrev pub IsTestUnder : Test → Type 0
  IsTestUnder Irreducible = StaysUnder
  IsTestUnder Reducible = StaysUnder → ⊥
  IsTestUnder (Stopped end) = IsStopUnder end

module _ (g : Setting) (s : Bindings) (terms : List Term) where
  -- each of the terms is irreducible under s
  abbrev pub AllStay : Type 0
  AllStay = (t : Term) → Contains terms t → StaysUnder g s t

  -- what a test of one of the terms comes to
  abbrev pub IsTestUnderSome : Test → Type 0
  IsTestUnderSome test = (t : Term) × Contains terms t × IsTestUnder g s t test

  -- what tests of the terms under s come to
  abbrev pub AreTestsUnder : Test → Type 0
  AreTestsUnder Irreducible = AllStay
  AreTestsUnder Reducible = IsTestUnderSome Reducible
  AreTestsUnder (Stopped end) = IsTestUnderSome (Stopped end)

module _ (g : Setting) (vars : List Var) (s : Bindings) where
  -- what a test of one of the values comes to, or of one of the fixed terms under s
  abbrev pub IsTestAmong : Test → Type 0
  IsTestAmong test = IsTestOfSome g vars s test ⊎ IsTestUnderSome g s g.fixed test

  -- what tests of the values and of the fixed terms under s come to
  abbrev pub AreTestsOfAll : Test → Type 0
  AreTestsOfAll Irreducible = ArePassed g vars s × AllStay g s g.fixed
  AreTestsOfAll Reducible = IsTestAmong Reducible
  AreTestsOfAll (Stopped end) = IsTestAmong (Stopped end)
