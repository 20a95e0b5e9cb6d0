-- How the reading of a text goes on, byte by byte.
use Rattle.std.proofs.Common.{◌≡◌, ℕ, ◌+◌, ◌<◌, List, [], ◌∷◌, ◌++◌, length, get_or, drop, take, ◌-◌, refl, ap, sym, append_assoc, Ok, Err, Some, None, map}
use Rattle.std.proofs.Math.Seq.{drop-length}
use Rattle.std.proofs.lemmas.List.{take_rest, get_or_default}
use Rattle.fvn_base.proofs.Drops.{drop-at}
use Rattle.fvn_lex.specs.declared.token.Token.{Token}
use Rattle.fvn_lex.specs.declared.token.LexFault.{LexFault}
use Rattle.fvn_lex.specs.declared.cut.Place.{Place}
use Rattle.fvn_lex.specs.Spans.{Lexed}
use Rattle.fvn_lex.specs.inner.Machine.{Move, Go, Stop, LeadsTo, prepend, advance, follow, rest_of, lex_from}
use Rattle.fvn_lex.specs.Cut.{lex, piece_at, pieces_in, pieces_of}

pub prepend-prepend : (made more : List Token) (r : Lexed) →
    prepend made (prepend more r) ≡ prepend (made ++ more) r
prepend-prepend made more (Ok list) = ap Ok (sym (append_assoc made more list))
prepend-prepend made more (Err fault) = refl

pub prepend-nil : (r : Lexed) → prepend [] r ≡ r
prepend-nil (Ok list) = refl
prepend-nil (Err fault) = refl

pub lex_from-nil : (place : Place) (n : ℕ) → lex_from place n [] ≡ Ok (rest_of place n)
unfolding lex_from
lex_from-nil place n = refl

pub lex_from-cons : (place : Place) (n b : ℕ) (rest : List ℕ) →
    lex_from place n (b ∷ rest) ≡ follow (advance place n b (b ∷ rest)) (λ next. lex_from next (n + 1) rest)
unfolding lex_from
lex_from-cons place n b rest = refl

pub lex_from-drop : (bytes : List ℕ) (place : Place) (n : ℕ) → n < length bytes →
    lex_from place n (drop n bytes)
    ≡ follow (advance place n (get_or bytes n 0) (drop n bytes))
    (λ next. lex_from next (n + 1) (drop (n + 1) bytes))
lex_from-drop bytes place n h =
    rw (drop-at bytes n (get_or bytes n 0) h (get_or_default bytes n 0 (get_or bytes n 0) h)) (lex_from-cons place n (get_or bytes n 0) (drop (n + 1) bytes))

pub follow-go : (m : Move) (before now : List Token) (next : Place) (reading : Place → Lexed) →
    LeadsTo m before now next → prepend before (follow m reading) ≡ prepend now (reading next)
follow-go (Go made place) before now next reading (is, to) =
    rw (is, to) (prepend-prepend before made (reading place))
follow-go (Stop fault) before now next reading h = absurd h

-- One byte more: what is read from here is what is read from the place after it.
pub step-go : (bytes : List ℕ) (place next : Place) (n : ℕ) (before now : List Token) →
    n < length bytes →
    LeadsTo (advance place n (get_or bytes n 0) (take (length bytes - n) (drop n bytes))) before now next →
    prepend before (lex_from place n (drop n bytes)) ≡ prepend now (lex_from next (n + 1) (drop (n + 1) bytes))
step-go bytes place next n before now h moves =
    rw (lex_from-drop bytes place n h)
    (follow-go (advance place n (get_or bytes n 0) (drop n bytes)) before now next
    (λ next. lex_from next (n + 1) (drop (n + 1) bytes)) (rw take_rest at moves))

-- A fault at this byte is the fault of the text.
pub step-stop : (bytes : List ℕ) (place : Place) (n : ℕ) (before : List Token) (fault : LexFault) →
    n < length bytes →
    advance place n (get_or bytes n 0) (take (length bytes - n) (drop n bytes)) ≡ Stop fault →
    prepend before (lex_from place n (drop n bytes)) ≡ Err fault
step-stop bytes place n before fault h stops =
    rw (lex_from-drop bytes place n h, rw take_rest at stops) refl

-- At the text's end the word that was begun is the last token.
pub step-end : (bytes : List ℕ) (place : Place) (n : ℕ) (before now : List Token) → n ≡ length bytes →
    now ≡ before ++ rest_of place (length bytes) →
    prepend before (lex_from place n (drop n bytes)) ≡ Ok now
step-end bytes place n before now e made =
    rw (e, made, drop-length bytes, lex_from-nil place (length bytes)) refl

-- The pieces of a text are those of its tokens.
pub pieces_of-ok : (bytes : List ℕ) (list : List Token) → lex bytes ≡ Ok list →
    pieces_of bytes ≡ Some (map (piece_at bytes) list)
unfolding pieces_of
pieces_of-ok bytes list e = ap (pieces_in bytes) e

-- A text with a fault has no pieces.
pub pieces_of-err : (bytes : List ℕ) (fault : LexFault) → lex bytes ≡ Err fault → pieces_of bytes ≡ None
unfolding pieces_of
pieces_of-err bytes fault e = ap (pieces_in bytes) e
