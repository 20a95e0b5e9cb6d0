-- The first fault of a text.
use Rattle.std.specs.Prelude.{◌≡◌, ◌⊎◌, List}
use Rattle.fvn_lex.specs.Cut.{Piece}
use Rattle.fvn_lex.specs.Parts.{HasPieces, IsFirstFault as IsFirstLexFault}
use Rattle.fvn_syntax.specs.declared.fault.TermFault.{TermFault}
use Rattle.fvn_syntax.specs.declared.fault.TermFault.TheVariants as term
use Rattle.fvn_syntax.specs.Pieces.{Text}
use Rattle.fvn_problems.specs.declared.fault.ProblemFault.{ProblemFault}
use Rattle.fvn_problems.specs.declared.fault.ProblemFault.TheVariants.{Lex, Text as NoText, UnknownName, Arity, WrongKind, TooLarge, ReservedName, WrongSort, NoMemory}

-- the fault of a text in which this is the first fault of a term
abbrev pub fault_of : TermFault → ProblemFault
fault_of term.ReservedName = ReservedName
fault_of term.UnknownName = UnknownName
fault_of term.Arity = Arity
fault_of term.WrongKind = WrongKind
fault_of term.NoMemory = NoMemory

-- the bytes have tokens
abbrev pub HasTokens : Text → Type 0
HasTokens bytes = (ps : List Piece) × HasPieces bytes ps

module _ {Raw : Type 0} (IsText : Raw → Type 0) (IsFault : Raw → ProblemFault → Type 0) where
  -- The first fault of bytes, where IsText says what they are written as, and IsFault the first fault of what
  -- is written: they have no tokens, or they have and are no such text, or what is written has this fault. Want
  -- of memory says nothing of them.
  abbrev pub IsFirstFault : Text → ProblemFault → Type 0
  IsFirstFault bytes (Lex fault) = IsFirstLexFault bytes fault
  IsFirstFault bytes NoText = HasTokens bytes × ((raw : Raw) → IsText raw → ⊥)
  IsFirstFault bytes UnknownName = (raw : Raw) × IsText raw × IsFault raw UnknownName
  IsFirstFault bytes Arity = (raw : Raw) × IsText raw × IsFault raw Arity
  IsFirstFault bytes WrongKind = (raw : Raw) × IsText raw × IsFault raw WrongKind
  IsFirstFault bytes TooLarge = (raw : Raw) × IsText raw × IsFault raw TooLarge
  IsFirstFault bytes ReservedName = (raw : Raw) × IsText raw × IsFault raw ReservedName
  IsFirstFault bytes WrongSort = (raw : Raw) × IsText raw × IsFault raw WrongSort
  IsFirstFault bytes NoMemory = Unit {0}

-- this holds, but for want of memory
abbrev pub ButForMemory : Type 0 → ProblemFault → Type 0
ButForMemory P fault = (fault ≡ NoMemory) ⊎ P

-- the two faults are one, but for want of memory
abbrev pub AreOneFault : ProblemFault → ProblemFault → Type 0
AreOneFault f g = ButForMemory (ButForMemory (f ≡ g) g) f
