-- What the steps of the readers answer.
use Rattle.std.specs.Prelude.{◌≡◌, ◌+◌, ◌≤◌, ◌⊎◌, List, [], map}
use Rattle.std.specs.List.{AllByRecursion}
use Rattle.fvn_base.specs.declared.limits.TheConstants.{TEXT_SYMBOLS}
use Rattle.fvn_lex.specs.Cut.{Piece}
use Rattle.fvn_lex.specs.Parts.{IsFirstFault}
use Rattle.fvn_terms.specs.declared.plain.Plain.{Plain}
use Rattle.fvn_terms.specs.Term.{nodes}
use Rattle.fvn_terms.specs.Plain.{term}
use Rattle.fvn_syntax.specs.declared.fault.TermFault.{TermFault}
use Rattle.fvn_syntax.specs.declared.fault.TermFault.TheVariants as term_fault
use Rattle.fvn_syntax.specs.declared.seen.Seen.{Seen}
use Rattle.fvn_syntax.specs.Pieces.{Text}
use Rattle.fvn_syntax.specs.Raw.{spell, IsWritten}
use Rattle.fvn_syntax.specs.Readings.{sum_or_most}
use Rattle.fvn_syntax.specs.Scope.{Scope}
use Rattle.fvn_problems.specs.declared.fault.ProblemFault.{ProblemFault}
use Rattle.fvn_problems.specs.declared.fault.ProblemFault.TheVariants.{Lex, Text as NoText, UnknownName, Arity, WrongKind, TooLarge, ReservedName, WrongSort, NoMemory}
use Rattle.fvn_problems.specs.declared.problem.Problem.{Problem}
use Rattle.fvn_problems.specs.declared.split.Halves.{Halves}
use Rattle.fvn_problems.specs.Spelling.{RawQuery, RawPair, RawProblem, pairs_in, IsWrittenPair}
use Rattle.fvn_problems.specs.declared.query.Query.{Query}
use Rattle.fvn_problems.specs.Queries.{IsQueryOf, IsQueryFault}
use Rattle.fvn_problems.specs.Problems.{symbols_of, IsPairOf, IsPairFault, ArePairsOf, IsPairsFault, IsProblemOf, IsProblemFault}
use Rattle.fvn_problems.specs.inner.Split.{halves_of}

-- the fault of a text without tokens
abbrev pub IsLexFault : Text → ProblemFault → Type 0
IsLexFault bytes (Lex fault) = IsFirstFault bytes fault
IsLexFault bytes NoText = ⊥
IsLexFault bytes UnknownName = ⊥
IsLexFault bytes Arity = ⊥
IsLexFault bytes WrongKind = ⊥
IsLexFault bytes ReservedName = ⊥
IsLexFault bytes TooLarge = ⊥
IsLexFault bytes WrongSort = ⊥
IsLexFault bytes NoMemory = Unit {0}

-- want of memory, or a fault of which this holds
abbrev pub MemoryOr : (TermFault → Type 0) → TermFault → Type 0
MemoryOr P fault = (fault ≡ term_fault.NoMemory) ⊎ P fault

-- the row is the term of a written term text
pub record IsTermOf (row : List Piece) (raw : RawQuery) : Type 0 where
  pub written : IsWritten raw.term
  pub is : row ≡ spell raw.term

-- the halves are those of a written pair
pub record IsOf (h : Halves) (raw : RawPair) : Type 0 where
  pub written : IsWrittenPair raw
  pub is : h ≡ halves_of raw

-- the halves are those of written pairs
pub record AreOf (list : List Halves) (raws : List RawPair) : Type 0 where
  pub written : AllByRecursion IsWrittenPair raws
  pub are : list ≡ map halves_of raws

module _ (c : Scope) where
  -- each written term of the row asks this
  abbrev pub AsksTerm : List Piece → Query → Type 0
  AsksTerm row q = (raw : RawQuery) → IsTermOf row raw → IsQueryOf c raw q

  -- each written term of the row has this first fault
  abbrev pub AsksNoTerm : List Piece → ProblemFault → Type 0
  AsksNoTerm row fault = (raw : RawQuery) → IsTermOf row raw → (fault ≡ NoMemory) ⊎ IsQueryFault c raw fault

  -- a pair stands for what was read: the names and the number of symbols are told in any case, the terms only within
  -- the limit of symbols
  pub record IsPairRead (before : Seen) (raw : RawPair) (read : (Plain × Plain) × Seen) : Type 0 where
    pub pair : Plain × Plain
    pub stands : IsPairOf c before.texts raw pair (read.1).texts
    pub count : (read.1).count ≡ sum_or_most before.count (nodes (term pair.0) + nodes (term pair.1))
    pub built : (read.1).count ≤ TEXT_SYMBOLS → read.0 ≡ pair

  -- each written pair of these halves stands for what was read
  abbrev pub ReadsPair : Seen → Halves → (Plain × Plain) × Seen → Type 0
  ReadsPair before h read = (raw : RawPair) → IsOf h raw → IsPairRead before raw read

  -- each written pair of these halves has this first fault
  abbrev pub RefusesPair : List Text → Halves → TermFault → Type 0
  RefusesPair before h fault = (raw : RawPair) → IsOf h raw → IsPairFault c before raw fault

  -- the same of several pairs
  pub record ArePairsRead (raws : List RawPair) (pairs : List (Plain × Plain)) (seen : Seen) : Type 0 where
    pub true_pairs : List (Plain × Plain)
    pub stand : ArePairsOf c [] raws true_pairs seen.texts
    pub count : seen.count ≡ sum_or_most 0 (symbols_of true_pairs)
    pub built : seen.count ≤ TEXT_SYMBOLS → pairs ≡ true_pairs

  -- all written pairs of these halves stand for what was read
  abbrev pub ReadsPairs : List Halves → List (Plain × Plain) × Seen → Type 0
  ReadsPairs list read = (raws : List RawPair) → AreOf list raws → ArePairsRead raws read.0 read.1

  -- all written pairs of these halves have this first fault
  abbrev pub RefusesPairs : List Halves → TermFault → Type 0
  RefusesPairs list fault = (raws : List RawPair) → AreOf list raws → IsPairsFault c [] raws fault

  -- each written problem of these halves asks this
  abbrev pub Asks : List Halves → Problem → Type 0
  Asks list p = (raw : RawProblem) → AreOf list (pairs_in raw) → IsProblemOf c raw p

  -- each written problem of these halves has this first fault
  abbrev pub AsksNothing : List Halves → ProblemFault → Type 0
  AsksNothing list fault = (raw : RawProblem) → AreOf list (pairs_in raw) → (fault ≡ NoMemory) ⊎ IsProblemFault c raw fault
