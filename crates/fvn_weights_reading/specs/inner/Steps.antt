-- What the steps of the reader answer.
use Rattle.std.specs.Prelude.{◌≡◌, ◌⊎◌, Bool, true, false, if◌then◌else◌, is_some, List, [], ◌∷◌, length, slice_get, Some}
use Rattle.fvn_lex.specs.Parts.{IsFirstFault}
use Rattle.fvn_terms.specs.declared.plain.OpId.{OpId}
use Rattle.fvn_terms.specs.declared.declarations.Declarations.{Declarations}
use Rattle.fvn_signature.specs.Queries.{arity}
use Rattle.fvn_syntax.specs.declared.names.Names.{Names}
use Rattle.fvn_syntax.specs.Pieces.{Text}
use Rattle.fvn_syntax.specs.Texts.{place, with_text}
use Rattle.fvn_problems.specs.declared.fault.ProblemFault.{ProblemFault}
use Rattle.fvn_problems.specs.declared.fault.ProblemFault.TheVariants.{Lex, Text as NoText, UnknownName, Arity, WrongKind, TooLarge, ReservedName, WrongSort, NoMemory}
use Rattle.fvn_weights.specs.declared.weights.Weight.{Weight}
use Rattle.fvn_weights_reading.specs.declared.entry.Entry.{Entry}
use Rattle.fvn_weights_reading.specs.Reading.{plain_weight, IsEntryFault, IsEntriesFault, AreFitting, AreWeights}

-- the fault of a text without tokens
abbrev pub IsLexFault : Text → ProblemFault → Type 0
IsLexFault bytes (Lex fault) = IsFirstFault bytes fault
IsLexFault bytes NoText = ⊥
IsLexFault bytes UnknownName = ⊥
IsLexFault bytes Arity = ⊥
IsLexFault bytes WrongKind = ⊥
IsLexFault bytes TooLarge = ⊥
IsLexFault bytes ReservedName = ⊥
IsLexFault bytes WrongSort = ⊥
IsLexFault bytes NoMemory = Unit {0}

-- no name of these entries is among the texts or stands twice
abbrev pub are_new : List Text → List Entry → Bool
are_new texts [] = true
are_new texts (e ∷ es) = if is_some (place texts e.name) then false else are_new (with_text texts e.name) es

-- each operator has the plain weight
pub record ArePlain (d : Declarations) (ws : List Weight) : Type 0 where
  pub count : length ws ≡ length d.ops
  pub each : (f : OpId) (w : Weight) → slice_get ws f.0 ≡ Some w → w ≡ plain_weight (arity d f)

module _ (d : Declarations) (names : Names) (es : List Entry) where
  -- these are the weights of entries that fit
  abbrev pub Weigh : List Weight → Type 0
  Weigh ws = AreFitting d names es × AreWeights d names es ws

  -- the first fault of the entries, but for want of memory
  abbrev pub WeighNothing : ProblemFault → Type 0
  WeighNothing fault = (fault ≡ NoMemory) ⊎ IsEntriesFault d names es fault
