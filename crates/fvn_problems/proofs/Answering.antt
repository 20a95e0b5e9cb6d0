-- The first fault of a text, and that a refused text is none.
use Rattle.std.proofs.Common.{◌≡◌, inl, inr, Result, Ok, Err, refl, sym, ap, ◌∙◌}
use Rattle.std.specs.Prelude.{IfOk, IfErr}
use Rattle.fvn_lex.specs.declared.token.LexFault.{LexFault}
use Rattle.fvn_lex.specs.Parts.{IsFirstFault as IsFirstLexFault}
use Rattle.fvn_lex.proofs.RowPieces.{no-pieces}
use Rattle.fvn_syntax.specs.declared.fault.TermFault.{TermFault}
use Rattle.fvn_syntax.specs.declared.fault.TermFault.TheVariants as term
use Rattle.fvn_syntax.specs.Pieces.{Text}
use Rattle.fvn_problems.specs.declared.fault.ProblemFault.{ProblemFault}
use Rattle.fvn_problems.specs.declared.fault.ProblemFault.TheVariants.{Lex, Text as NoText, UnknownName, Arity, WrongKind, TooLarge, ReservedName, WrongSort, NoMemory}
use Rattle.fvn_problems.specs.Faults.{fault_of, HasTokens, IsFirstFault, ButForMemory}

pub on-ok : {A F : Type 0} (P Q : A → Type 0) → ((a : A) → P a → Q a) → (r : Result A F) → IfOk r P → IfOk r Q
on-ok P Q f (Ok a) h = f a h
on-ok P Q f (Err e) h = tt

pub on-err : {A F : Type 0} (P Q : F → Type 0) → ((e : F) → P e → Q e) → (r : Result A F) → IfErr r P → IfErr r Q
on-err P Q f (Ok a) h = tt
on-err P Q f (Err e) h = f e h

pub no-tokens : (bytes : Text) (fault : LexFault) → IsFirstLexFault bytes fault → HasTokens bytes → ⊥
no-tokens bytes fault h t = no-pieces bytes fault t.0 h t.1

-- the fault of a term is none of bytes or form
abbrev pub IsOfText : ProblemFault → Type 0
IsOfText (Lex fault) = ⊥
IsOfText NoText = ⊥
IsOfText UnknownName = Unit {0}
IsOfText Arity = Unit {0}
IsOfText WrongKind = Unit {0}
IsOfText TooLarge = Unit {0}
IsOfText ReservedName = Unit {0}
IsOfText WrongSort = Unit {0}
IsOfText NoMemory = Unit {0}

pub fault_of-text : (first : TermFault) → IsOfText (fault_of first)
fault_of-text term.ReservedName = tt
fault_of-text term.UnknownName = tt
fault_of-text term.Arity = tt
fault_of-text term.WrongKind = tt
fault_of-text term.NoMemory = tt

module _ {Raw : Type 0} (IsText : Raw → Type 0) (IsFault : Raw → ProblemFault → Type 0) (bytes : Text) where
  pub first-written : (fault : ProblemFault) → IsOfText fault → (raw : Raw) → IsText raw → IsFault raw fault → IsFirstFault IsText IsFault bytes fault
  first-written (Lex fault) o raw t h = absurd o
  first-written NoText o raw t h = absurd o
  first-written UnknownName o raw t h = (raw, t, h)
  first-written Arity o raw t h = (raw, t, h)
  first-written WrongKind o raw t h = (raw, t, h)
  first-written TooLarge o raw t h = (raw, t, h)
  first-written ReservedName o raw t h = (raw, t, h)
  first-written WrongSort o raw t h = (raw, t, h)
  first-written NoMemory o raw t h = tt

  module _ {Answer : Type 0} (IsAnswer : Answer → Type 0) (tokens : (raw : Raw) → IsText raw → HasTokens bytes)
      (form : (a : Answer) → IsAnswer a → (raw : Raw) × IsText raw)
      (never : (raw : Raw) → IsText raw → (fault : ProblemFault) → IsFault raw fault → (a : Answer) → IsAnswer a → ⊥) where
    pub refuted : (fault : ProblemFault) → IsFirstFault IsText IsFault bytes fault → ButForMemory ((a : Answer) → IsAnswer a → ⊥) fault
    refuted (Lex fault) h = inr (λ a w. let r = form a w in no-tokens bytes fault h (tokens r.0 r.1))
    refuted NoText h = inr (λ a w. let r = form a w in h.1 r.0 r.1)
    refuted UnknownName h = inr (never h.0 h.1 UnknownName h.2)
    refuted Arity h = inr (never h.0 h.1 Arity h.2)
    refuted WrongKind h = inr (never h.0 h.1 WrongKind h.2)
    refuted TooLarge h = inr (never h.0 h.1 TooLarge h.2)
    refuted ReservedName h = inr (never h.0 h.1 ReservedName h.2)
    refuted WrongSort h = inr (never h.0 h.1 WrongSort h.2)
    refuted NoMemory h = inl refl
