-- What a problem in a module asks: its unifiers modulo the axioms.
use Rattle.std.specs.Prelude.{◌≡◌, List, map, if◌then◌else◌}
use Rattle.std.specs.List.{list_any}
use Rattle.fvn_terms.specs.declared.plain.Var.{Var}
use Rattle.fvn_terms.specs.declared.plain.Plain.{Plain}
use Rattle.fvn_terms.specs.Term.{var}
use Rattle.fvn_terms.specs.Plain.{term}
use Rattle.fvn_terms.specs.Substitution.{Substitution, same_var}
use Rattle.fvn_terms.specs.Unifiers.{Problem as TermPairs, IsUnifier, IsInstance}
use Rattle.fvn_flat.specs.Problems.{plain_pairs, flat_pairs}
use Rattle.fvn_flat.specs.declared.solver.Pairs.{Pairs}
use Rattle.fvn_syntax.specs.Pieces.{Text}
use Rattle.fvn_problems.specs.declared.problem.Problem.{Problem}
use Rattle.fvn_module.specs.Contents.{Contents}
use Rattle.fvn_answer.specs.Denoting.{Denotes}
use Rattle.fvn_cmd.specs.Headline.{Promise}

-- the sides of each pair, as terms
abbrev pub pairs_of : List (Plain × Plain) → TermPairs
pairs_of pairs = map (λ p. (term p.0, term p.1)) pairs

-- s on these variables; others stay as they are
abbrev pub on_variables : List Var → Substitution → Substitution
on_variables vars s x = if list_any (λ y. same_var y x) vars then s x else var x

module _ (m : Contents) (p : Problem) where
  -- s makes the sides of each pair equal modulo the axioms
  abbrev pub Unifies : Substitution → Type 0
  Unifies = IsUnifier m.signature (pairs_of p.pairs)

  -- on the problem's variables, s is modulo the axioms an instance of c
  abbrev pub IsInstanceOf : Substitution → Substitution → Type 0
  IsInstanceOf = IsInstance m.signature p.vars

  -- no substitution makes them equal
  abbrev pub CannotBeUnified : Type 0
  CannotBeUnified = (s : Substitution) → Unifies s → ⊥

  -- the same pairs in flat form, read as terms
  abbrev pub flattened : TermPairs
  flattened = plain_pairs (flat_pairs m.signature (pairs_of p.pairs))

  -- these are the pairs in flat form, which are given to the solver
  abbrev pub AreFlattened : Pairs → Type 0
  AreFlattened given = given.pairs ≡ flat_pairs m.signature (pairs_of p.pairs)

  -- the line denotes s on the problem's variables, and s leaves others as they are
  abbrev pub DenotesOnVariables : Text → Substitution → Type 0
  DenotesOnVariables line s =
      (r : Substitution) × (Denotes m.signature m.names p.names.texts p.vars line r × (s ≡ on_variables p.vars r))

  -- What is promised of its unifiers: these are the answers and the solutions, each a substitution of which others are
  -- instances modulo the axioms; and nothing is trusted of the equations.
  abbrev pub unifiers_of : Promise Substitution
  unifiers_of = record {
    IsOne = Unifies;
    IsBelow = IsInstanceOf;
    IsSolution = Unifies;
    IsReached = IsInstanceOf;
    Denotes = DenotesOnVariables;
    Trusted = Unit {0};
  }
