-- The variables that are asked for, and their texts.
use Rattle.std.specs.Prelude.{◌≢◌, List, All, AllPairs, Contains}
use Rattle.fvn_terms.specs.declared.plain.Var.{Var}
use Rattle.fvn_terms.specs.declared.declarations.Declarations.{Declarations}
use Rattle.fvn_terms.specs.Sorts.{HasSort}
use Rattle.fvn_flat.specs.Bindings.{Bindings}
use Rattle.fvn_flat.specs.Solving.{substitution}
use Rattle.fvn_syntax.specs.Pieces.{Text}
use Rattle.fvn_problems.specs.VariableTexts.{IsVariableText}
use Rattle.fvn_problems.specs.Variables.{IsNamed}

-- The variables, each once, have these texts, which are all different, and each can be written again.
pub record AreAsked (d : Declarations) (texts : List Text) (vars : List Var) : Type 0 where
  pub distinct : AllPairs (λ x y. x ≢ y) vars
  pub named : (x : Var) → Contains vars x → IsNamed d texts x
  pub words : All IsVariableText texts
  pub distinct_texts : AllPairs (λ v w. v ≢ w) texts

-- each of the variables has a value of its sort
abbrev pub HaveSorts : Declarations → List Var → Bindings → Type 0
HaveSorts d vars s = (x : Var) → Contains vars x → HasSort d (substitution s x) x.sort
