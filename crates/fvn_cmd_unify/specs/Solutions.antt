-- Unifiers with the end of their answer, and the text that shows them.
use Rattle.std.specs.Prelude.{◌≡◌, ◌≤◌, ◌↔◌, List, length, All}
use Rattle.fvn_base.specs.declared.limits.TheConstants.{UNIFIERS}
use Rattle.std.specs.List.{AllZip}
use Rattle.fvn_terms.specs.declared.plain.OpId.{OpId}
use Rattle.fvn_terms.specs.Substitution.{Substitution}
use Rattle.fvn_flat.specs.Bindings.{Bindings}
use Rattle.fvn_flat.specs.Drawn.{IsDrawn}
use Rattle.fvn_flat.specs.Solving.{substitution}
use Rattle.fvn_syntax.specs.Pieces.{Text}
use Rattle.fvn_problems.specs.declared.problem.Problem.{Problem}
use Rattle.fvn_module.specs.Contents.{Contents}
use Rattle.fvn_answer.specs.Lines.{HasNoLineFeed, IsTextOf, values as text_of_values, values_of}
use Rattle.fvn_answer.specs.Denoting.{Reads}
use Rattle.fvn_answer.specs.Answers.{IsAnswerText}
use Rattle.fvn_answer.specs.declared.end.End.{End}
use Rattle.fvn_answer.specs.declared.end.End.TheVariants.{Complete, Basis, Unifiers}
use Rattle.fvn_cmd.specs.Headline.{IsHeadline}
use Rattle.fvn_cmd_unify.specs.Asked.{flattened, unifiers_of}
use Rattle.fvn_cmd_unify.specs.Ends.{IsCauseOf}
use Rattle.fvn_cmd_unify.specs.Coarser.{HasCoarserOnes}

-- what was found: substitutions, and the end of the search for them
pub record Found : Type 0 where
  pub values : List Substitution
  pub end : End

-- the search came to its end
abbrev pub IsWhole : Found → Type 0
IsWhole found = found.end ≡ Complete (length found.values)

module _ (m : Contents) (p : Problem) where
  -- these are unifiers that may be drawn, none an instance of another; at `complete` they are all; and the end has its cause
  pub record IsSolution (found : Found) : Type 0 where
    pub headline : IsHeadline (unifiers_of m p) (IsWhole found) found.values
    pub drawn : All (IsDrawn m.signature (flattened m p)) found.values
    pub cause : IsCauseOf m p found.values found.end
    -- the limit of unifiers is not passed, and it is told exactly where it is reached
    pub few : length found.values ≤ UNIFIERS
    pub full : (found.end ≡ Unifiers UNIFIERS) ↔ (length found.values ≡ UNIFIERS)
    -- at `bound basis f` what joins more than the partition at which the search ended is an instance of one of these
    pub coarser : (f : OpId) → found.end ≡ Basis f → HasCoarserOnes m p found.values f

  -- the line denotes the substitution, modulo the axioms and up to new names; it is the text of the values of some bindings
  -- that stand for it, under a numbering of their variables; and it is one line
  pub record IsLineOf (s : Substitution) (line : Text) : Type 0 where
    pub reads : Reads m.signature m.names p.names.texts p.vars line s
    pub bindings : Bindings
    pub stands : s ≡ substitution bindings
    pub spelled : IsTextOf m.signature m.names p.names.texts (text_of_values (values_of bindings p.vars)) line
    pub plain : HasNoLineFeed line

  -- the text shows a line for each of the substitutions, in byte order, and then the line of the end
  pub record Shows (found : Found) (text : Text) : Type 0 where
    pub lines : List Text
    pub lines_of : AllZip IsLineOf found.values lines
    pub answer : IsAnswerText m.signature m.names lines found.end text
    -- no two of them have one line
    pub count : length answer.lines ≡ length found.values

  -- the search for unifiers ended so
  pub record IsEndOfSearch (end : End) : Type 0 where
    pub found : Found
    pub solution : IsSolution found
    pub end_is : end ≡ found.end
