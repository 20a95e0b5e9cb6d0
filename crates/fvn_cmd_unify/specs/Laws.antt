-- The laws of lines.
use Rattle.std.specs.Prelude.{List, ℕ}
use Rattle.fvn_terms.specs.Substitution.{Substitution}
use Rattle.fvn_forms.specs.FitsKinds.{FitsKinds}
use Rattle.fvn_syntax.specs.Pieces.{Text}
use Rattle.fvn_problems.specs.declared.problem.Problem.{Problem}
use Rattle.fvn_problems.specs.Problems.{HasVariables}
use Rattle.fvn_module.specs.Contents.{Contents}
use Rattle.fvn_answer.specs.Denoting.{Denotes}
use Rattle.fvn_cmd.specs.Headline.{IsHeadlineOfLines}
use Rattle.fvn_cmd_unify.specs.Asked.{on_variables, Unifies, IsInstanceOf, unifiers_of}
use Rattle.fvn_cmd_unify.specs.Solutions.{Found, IsWhole, IsSolution, IsLineOf, Shows}
use Rattle.fvn_cmd_unify.specs.Replies.{IsToBeUnified}

-- What a line says, word for word, is a unifier, and is an instance of the unifier whose line it is, as this is of it.
abbrev pub LinesDenoteUnifiers : Type 0
LinesDenoteUnifiers =
    (m : Contents) (p : Problem) → FitsKinds m.signature → HasVariables m.signature p → (s : Substitution) →
    Unifies m p s → (line : Text) → IsLineOf m p s line
    → (r : Substitution) → Denotes m.signature m.names p.names.texts p.vars line r
    → Unifies m p (on_variables p.vars r) × IsInstanceOf m p (on_variables p.vars r) s × IsInstanceOf m p s (on_variables p.vars r)

-- What is promised of the unifiers that were found holds of the lines that are shown, and of what these denote: of each
-- problem in a module that the bytes and a word are.
abbrev pub ShownLinesKeepThePromise : Type 0
ShownLinesKeepThePromise =
    (bytes word : List ℕ) (m : Contents) (p : Problem) → IsToBeUnified bytes word m p →
    (found : Found) → IsSolution m p found → (text : Text) → (shown : Shows m p found text) →
    IsHeadlineOfLines (unifiers_of m p) (IsWhole found) shown.answer.lines
