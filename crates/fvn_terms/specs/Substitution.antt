-- Substitutions.
-- F. Baader and T. Nipkow, Term Rewriting and All That, 1998, chapter 3.
use Rattle.std.specs.Prelude.{◌≡◌, ◌⊎◌, Bool, true, false, not, ◌&&◌, nat_eq, if◌then◌else◌, List, [], ◌∷◌, Option, Some, None}
use Rattle.fvn_terms.specs.declared.plain.Var.{Var}
use Rattle.fvn_terms.specs.declared.plain.Plain.{Plain}
use Rattle.fvn_terms.specs.Term.{Term, Terms, var, app, none, more}
use Rattle.fvn_terms.specs.Plain.{term}

-- a term for each variable
abbrev pub Substitution : Type 0
Substitution = Var → Term

-- the term with all its variables replaced at once
abbrev mutual
  pub apply : Substitution → Term → Term
  apply s (var x) = s x
  apply s (app f ts) = app f (apply_all s ts)

  -- the terms of a list with all their variables replaced at once
  pub apply_all : Substitution → Terms → Terms
  apply_all s none = none
  apply_all s (more t ts) = more (apply s t) (apply_all s ts)

-- first s and then c
abbrev pub followed_by : Substitution → Substitution → Substitution
followed_by s c x = apply c (s x)

-- x occurs in the term
abbrev mutual
  pub Occurs : Var → Term → Type 0
  Occurs x (var y) = x ≡ y
  Occurs x (app f ts) = OccursAmong x ts

  -- x occurs in one of the terms
  pub OccursAmong : Var → Terms → Type 0
  OccursAmong x none = ⊥
  OccursAmong x (more t ts) = Occurs x t ⊎ OccursAmong x ts

-- whether two truth values are one
abbrev pub same_truth : Bool → Bool → Bool
same_truth true b = b
same_truth false b = not b

-- whether two variables are one
abbrev pub same_var : Var → Var → Bool
same_var x y = nat_eq x.name y.name && nat_eq x.sort.0 y.sort.0 && same_truth x.fresh y.fresh

-- what the first pair for x gives it
abbrev pub bound : List (Var × Plain) → Var → Option Plain
bound [] x = None
bound (p ∷ s) x = if same_var p.0 x then Some p.1 else bound s x

-- the term that was found for x, else x itself
abbrev pub term_or : Var → Option Plain → Term
term_or x None = var x
term_or x (Some t) = term t

-- the substitution that pairs stand for: a variable without a pair stays
abbrev pub value : List (Var × Plain) → Substitution
value s x = term_or x (bound s x)
