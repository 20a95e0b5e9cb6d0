-- How often a variable or an operator stands in a term.
use Rattle.std.specs.Prelude.{◌≡◌, ℕ, ◌+◌, Bool, true, false, Some}
use Rattle.fvn_terms.specs.declared.plain.Var.{Var}
use Rattle.fvn_terms.specs.declared.plain.OpId.{OpId}
use Rattle.fvn_terms.specs.declared.declarations.Declarations.{Declarations}
use Rattle.fvn_terms.specs.Term.{Term, Terms, var, app, none, more}
use Rattle.fvn_terms.specs.Signature.{axioms}
use Rattle.fvn_terms.specs.Equality.{identity}
use Rattle.fvn_terms.specs.Substitution.{same_var}
use Rattle.fvn_forms.specs.Canon.{same_op}
use Rattle.fvn_cover_counts.specs.declared.symbols.Symbol.{Symbol}
use Rattle.fvn_cover_counts.specs.declared.symbols.Symbol.TheVariants.{Variable, Operator}

-- what each variable, each constant and each operator over arguments weighs
pub record Weights : Type 0 where
  pub variable : Var → ℕ
  pub constant : OpId → ℕ
  pub operator : OpId → ℕ

abbrev mutual
  -- what a term weighs: all that stands in it together
  pub weight : Weights → Term → ℕ
  weight w (var x) = w.variable x
  weight w (app f none) = w.constant f
  weight w (app f (more t ts)) = w.operator f + (weight w t + weight_all w ts)

  -- what all terms of a list weigh
  pub weight_all : Weights → Terms → ℕ
  weight_all w none = 0
  weight_all w (more t ts) = weight w t + weight_all w ts

-- one where the test passes, else nothing
abbrev pub one_if : Bool → ℕ
one_if true = 1
one_if false = 0

-- whether the two are one symbol
abbrev pub same_symbol : Symbol → Symbol → Bool
same_symbol (Variable x) (Variable y) = same_var x y
same_symbol (Variable x) (Operator g) = false
same_symbol (Operator f) (Variable y) = false
same_symbol (Operator f) (Operator g) = same_op f g

-- the symbol weighs one, over arguments or alone, and nothing else weighs anything
abbrev pub of_symbol : Symbol → Weights
of_symbol s = record {
  variable = λ x. one_if (same_symbol s (Variable x));
  constant = λ f. one_if (same_symbol s (Operator f));
  operator = λ f. one_if (same_symbol s (Operator f));
}

-- how often the symbol stands in the term; a sum of n terms has n - 1 operators
abbrev pub times : Symbol → Term → ℕ
times s = weight (of_symbol s)

module _ (d : Declarations) where
  -- f has no identity and is none: no axiom brings or takes away an f
  pub record IsKept (f : OpId) : Type 0 where
    pub without_identity : (e : OpId) → identity (axioms d f) ≡ Some e → ⊥
    pub no_identity : (g : OpId) → identity (axioms d g) ≡ Some f → ⊥

  -- what has an identity weighs nothing, and no identity does: equality modulo the axioms keeps such weights
  abbrev pub AreKept : Weights → Type 0
  AreKept w = (f e : OpId) → identity (axioms d f) ≡ Some e → (w.operator f ≡ 0) × (w.constant e ≡ 0)
