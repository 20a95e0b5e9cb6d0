-- Answer texts: lines in byte order, each once, and an end line.
use Rattle.std.specs.Prelude.{ℕ, ◌≡◌, ◌<◌, ◌↔◌, List, [], ◌∷◌, ◌++◌, length, AllPairs, Contains, codes, decimal}
use Rattle.fvn_base.specs.Order.{IsBefore}
use Rattle.fvn_terms.specs.declared.declarations.Declarations.{Declarations}
use Rattle.fvn_forms.specs.Flat.{FlatTerm}
use Rattle.fvn_flat.specs.Fits.{Fits}
use Rattle.fvn_syntax.specs.declared.names.Names.{Names}
use Rattle.fvn_syntax.specs.Pieces.{Text}
use Rattle.fvn_answer.specs.declared.end.End.{End}
use Rattle.fvn_answer.specs.declared.end.End.TheVariants.{Complete, Levels, Variants, Steps, Size, Basis, Unifiers, Sorts}
use Rattle.fvn_answer.specs.Writing.{op_text}
use Rattle.fvn_answer.specs.Lines.{alone, IsTextOf}

-- words and a number behind them
abbrev pub numbered : Text → ℕ → Text
numbered words n = words ++ decimal n

-- the operator of `bound basis` is declared, and the term of `bound steps` is flat and well-kinded
abbrev pub FitsEnd : Declarations → End → Type 0
FitsEnd d (Complete n) = Unit {0}
FitsEnd d (Levels n) = Unit {0}
FitsEnd d (Variants n) = Unit {0}
FitsEnd d (Steps n t) = Fits d t
FitsEnd d (Size n) = Unit {0}
FitsEnd d (Basis f) = f.0 < length d.ops
FitsEnd d (Unifiers n) = Unit {0}
FitsEnd d (Sorts n) = Unit {0}

module _ (d : Declarations) (names : Names) where
  -- a number of steps and a term, which is printed as in a line of its own
  pub record IsStepsLine (n : ℕ) (t : FlatTerm) (line : Text) : Type 0 where
    pub term : Text
    pub term_is : IsTextOf d names [] (alone t) term
    pub line_is : line ≡ numbered (codes "bound steps ") n ++ 32 ∷ term

  -- the line of an end
  abbrev pub IsEndLine : End → Text → Type 0
  IsEndLine (Complete n) line = line ≡ numbered (codes "complete ") n
  IsEndLine (Levels n) line = line ≡ numbered (codes "bound levels ") n
  IsEndLine (Variants n) line = line ≡ numbered (codes "bound variants ") n
  IsEndLine (Steps n t) line = IsStepsLine n t line
  IsEndLine (Size n) line = line ≡ numbered (codes "bound size ") n
  IsEndLine (Basis f) line = line ≡ codes "bound basis " ++ op_text d names f
  IsEndLine (Unifiers n) line = line ≡ numbered (codes "bound unifiers ") n
  IsEndLine (Sorts n) line = line ≡ numbered (codes "cause sorts ") n

-- these lines in byte order, each once
pub record AreInByteOrder (given shown : List Text) : Type 0 where
  pub ordered : AllPairs IsBefore shown
  pub exact : (line : Text) → Contains shown line ↔ Contains given line

-- the bytes of lines, each with a line feed behind it
abbrev pub ended : List Text → Text
ended [] = []
ended (line ∷ lines) = line ++ 10 ∷ ended lines

-- The text is these lines, in byte order and each once, and then the line of the end.
pub record IsAnswerText (d : Declarations) (names : Names) (given : List Text) (end : End) (text : Text) : Type 0 where
  pub lines : List Text
  pub in_order : AreInByteOrder given lines
  pub last : Text
  pub end_line : IsEndLine d names end last
  pub text_is : text ≡ ended (lines ++ last ∷ [])
