-- Joined pieces are cut into these pieces again.
use Rattle.std.proofs.Common.{◌≡◌, ◌≢◌, ℕ, ◌==◌, Bool, true, false, not, ◌||◌, ◌⊎◌, inl, inr, if◌then◌else◌, List, [], ◌∷◌, ◌++◌, refl, ap, sym, ◌∙◌, append_assoc, Ok, Err, Some, map, arith}
use Rattle.std.specs.List.{All}
use Rattle.std.proofs.lemmas.Bool.Decides.{nat_tests}
use Rattle.std.proofs.lemmas.List.{append-nil}
use Rattle.std.proofs.lemmas.List.Elements.{All-nil, All-cons, All-head, All-tail}
use Rattle.fvn_lex.specs.declared.token.Class.{Class}
use Rattle.fvn_lex.specs.declared.token.Class.TheVariants.{Word, Special, Dot}
use Rattle.fvn_lex.specs.declared.token.Token.{Token}
use Rattle.fvn_lex.specs.Bytes.{is_blank, is_special, is_printed, goes_on}
use Rattle.fvn_lex.specs.Spans.{Lexed}
use Rattle.fvn_lex.specs.Cut.{Piece, piece_at, pieces_in, pieces_of, lex}
use Rattle.fvn_lex.specs.Parts.{goes_through, stops, is_quoted_after, class_of, IsWordPiece, IsSpecialPiece, IsItem, Single, Longest, Part, White, Remark, Item, row_bytes, AreParts, row_tokens, row_pieces, IsCutInto, HasPieces}
use Rattle.fvn_lex.specs.Join.{IsPiece, would_merge, needs_space, Laid, pieces, space, join_after, join}
use Rattle.fvn_lex.proofs.ByteLemmas.{goes_on-plain, goes_on-printed, goes_on-not_special, special-printed}
use Rattle.fvn_lex.proofs.Reading.{pieces_of-ok}
use Rattle.fvn_lex.proofs.CutLemmas.{lex-row, cut-lex}
use Rattle.fvn_lex.proofs.SpanLemmas.{cut-slices}

-- A text that is a row of parts has the row's pieces, and the other way round.
pub row-pieces : (bytes : List ℕ) (parts : List Part) → bytes ≡ row_bytes parts → AreParts parts [] →
    pieces_of bytes ≡ Some (row_pieces parts)
row-pieces bytes parts row fit =
    let cut : IsCutInto bytes (row_tokens 0 parts) =
    record { parts = parts; row = row; fit = fit; tokens = refl } in
    pieces_of-ok bytes (row_tokens 0 parts) (lex-row bytes (row_tokens 0 parts) cut)
    ∙ ap Some (cut-slices bytes (row_tokens 0 parts) cut)

cut-row : (bytes : List ℕ) (list : List Token) (ps : List Piece) → IsCutInto bytes list →
    map (piece_at bytes) list ≡ ps → HasPieces bytes ps
cut-row bytes list ps cut e = record {
  parts = cut.parts;
  row = cut.row;
  fit = cut.fit;
  pieces = sym (cut-slices bytes list cut) ∙ e;
}

pub pieces-row : (bytes : List ℕ) (ps : List Piece) → pieces_of bytes ≡ Some ps → HasPieces bytes ps
unfolding pieces_of
pieces-row bytes ps e = go (lex bytes) refl e where
  go : (r : Lexed) → lex bytes ≡ r → pieces_in bytes r ≡ Some ps → HasPieces bytes ps
  go (Ok list) is e = cut-row bytes list ps (cut-lex bytes list is) (let k = e in cc)
  go (Err fault) is e = cc

-- What a piece is by itself: a word or a special byte.
item-form : (p : Piece) (rest : List ℕ) → IsItem p rest → IsWordPiece p ⊎ IsSpecialPiece p
item-form p rest (Single s) = inr s
item-form p rest (Longest w stop) = inl w

row-forms : (parts : List Part) (rest : List ℕ) → AreParts parts rest →
    All (λ p. IsWordPiece p ⊎ IsSpecialPiece p) (row_pieces parts)
row-forms [] rest fit = All-nil (λ p. IsWordPiece p ⊎ IsSpecialPiece p)
row-forms (White b ∷ parts) rest fit = row-forms parts rest fit.1
row-forms (Remark text ∷ parts) rest fit = row-forms parts rest fit.1
row-forms (Item p ∷ parts) rest fit =
    All-cons (λ p. IsWordPiece p ⊎ IsSpecialPiece p) p (row_pieces parts)
    (item-form p (row_bytes parts ++ rest) fit.0) (row-forms parts rest fit.1)

pub form-item : (p : Piece) → IsWordPiece p ⊎ IsSpecialPiece p → IsItem p []
form-item p (inl w) = Longest w refl
form-item p (inr s) = Single s

pub form-piece : (p : Piece) → IsWordPiece p ⊎ IsSpecialPiece p → IsPiece p
unfolding IsPiece
form-piece p form =
    row-pieces p.text (Item p ∷ []) (sym (append-nil p.text)) (form-item p form, tt)

pub piece-form : (p : Piece) → IsPiece p → IsWordPiece p ⊎ IsSpecialPiece p
unfolding IsPiece
piece-form p is =
    let row = pieces-row p.text (p ∷ []) is in
    let forms = row-forms row.parts [] row.fit in
    let all : All (λ p. IsWordPiece p ⊎ IsSpecialPiece p) (p ∷ []) = rw row.pieces at forms in
    all 0 p (omega arith)

pub pieces-all : (bytes : List ℕ) (ps : List Piece) → HasPieces bytes ps → All IsPiece ps
pieces-all bytes ps row =
    let forms = row-forms row.parts [] row.fit in
    let all : All (λ p. IsWordPiece p ⊎ IsSpecialPiece p) ps = rw row.pieces at forms in
    λ k d h. form-piece _ (all k d h)

-- The parts of a joined text.
abbrev blank_or : Bool → Part → List Part → List Part
blank_or true part parts = White 32 ∷ part ∷ parts
blank_or false part parts = part ∷ parts

abbrev row_after : Piece → List Laid → List Part
row_after p [] = []
row_after p (l ∷ laid) = blank_or (l.spaced || needs_space p l.piece) (Item l.piece) (row_after l.piece laid)

blank_or-bytes : (s : Bool) (p : Piece) (parts : List Part) →
    row_bytes (blank_or s (Item p) parts) ≡ space s ++ (p.text ++ row_bytes parts)
blank_or-bytes true p parts = refl
blank_or-bytes false p parts = refl

blank_or-pieces : (s : Bool) (p : Piece) (parts : List Part) →
    row_pieces (blank_or s (Item p) parts) ≡ p ∷ row_pieces parts
blank_or-pieces true p parts = refl
blank_or-pieces false p parts = refl

space-blank : is_blank 32 ≡ true
unfolding is_blank
space-blank = refl

space-stops : (q : Bool) → not (goes_on q 32) ≡ true
unfolding goes_on is_printed
space-stops q = refl

blank_or-fit : (s : Bool) (p : Piece) (parts : List Part) (rest : List ℕ) →
    AreParts (Item p ∷ parts) rest → AreParts (blank_or s (Item p) parts) rest
blank_or-fit true p parts rest fit = (space-blank, fit)
blank_or-fit false p parts rest fit = fit

row_after-bytes : (p : Piece) (laid : List Laid) → row_bytes (row_after p laid) ≡ join_after p laid
unfolding join_after
row_after-bytes p [] = refl
row_after-bytes p (l ∷ laid) =
    rw (blank_or-bytes (l.spaced || needs_space p l.piece) l.piece (row_after l.piece laid), row_after-bytes l.piece laid) refl

row_after-pieces : (p : Piece) (laid : List Laid) → row_pieces (row_after p laid) ≡ pieces laid
row_after-pieces p [] = refl
row_after-pieces p (l ∷ laid) =
    rw (blank_or-pieces (l.spaced || needs_space p l.piece) l.piece (row_after l.piece laid), row_after-pieces l.piece laid) refl

pub stops-append : (q : Bool) (next more : List ℕ) → next ≢ [] → stops q next ≡ true → stops q (next ++ more) ≡ true
stops-append q [] more some h = absurd (some refl)
stops-append q (b ∷ next) more some h = h

pub form-some : (p : Piece) → IsWordPiece p ⊎ IsSpecialPiece p → p.text ≢ []
form-some p (inl w) = w.some
form-some p (inr s) = λ e. let k : s.byte ∷ [] ≡ [] = sym s.text ∙ e in cc

-- a class of words
data IsOfWords : Class → Type 0 where
  PlainWord : IsOfWords Word
  LoneDot : IsOfWords Dot

dot-words : (dot : Bool) → IsOfWords (if dot then Dot else Word)
dot-words true = LoneDot
dot-words false = PlainWord

class_of-words : (text : List ℕ) → IsOfWords (class_of text)
class_of-words [] = PlainWord
class_of-words (b ∷ []) = dot-words (b == 46)
class_of-words (b ∷ c ∷ text) = PlainWord

merge-words : {k next : Class} (text : List ℕ) → IsOfWords k → IsOfWords next → would_merge k text next ≡ true
merge-words text PlainWord PlainWord = refl
merge-words text PlainWord LoneDot = refl
merge-words text LoneDot PlainWord = refl
merge-words text LoneDot LoneDot = refl

merge-special : {k : Class} (text : List ℕ) → IsOfWords k → would_merge k text Special ≡ is_quoted_after false text
merge-special text PlainWord = refl
merge-special text LoneDot = refl

word-class : (p : Piece) → IsWordPiece p → IsOfWords p.class
word-class p w = rw w.class (class_of-words p.text)

-- what begins a word goes on with every word
word-goes_on : (q : Bool) (text : List ℕ) → text ≢ [] → goes_through false text ≡ true → stops q text ≡ false
word-goes_on q [] some h = absurd (some refl)
word-goes_on q (b ∷ text) some h =
    let on : goes_on false b ≡ true = grind (arith, nat_tests) in
    let any = goes_on-plain q b (goes_on-printed false b on) (goes_on-not_special b on) in
    grind (arith, nat_tests)

special-goes_on : (q : Bool) (b : ℕ) → is_special b ≡ true → goes_on q b ≡ q
unfolding goes_on
special-goes_on q b h = let k = special-printed b h in grind (arith, nat_tests)

not-not : (b : Bool) → not (not b) ≡ b
not-not true = refl
not-not false = refl

pub word-takes : (p next : Piece) → IsWordPiece p → IsWordPiece next ⊎ IsSpecialPiece next →
    needs_space p next ≡ not (stops (is_quoted_after false p.text) next.text)
unfolding needs_space
word-takes p next w (inl v) =
    rw (
      merge-words p.text (word-class p w) (word-class next v),
      word-goes_on (is_quoted_after false p.text) next.text v.some v.printed,
    ) refl
word-takes p next w (inr s) =
    rw (
      s.class,
      s.text,
      merge-special p.text (word-class p w),
      special-goes_on (is_quoted_after false p.text) s.byte s.special,
      not-not (is_quoted_after false p.text),
    ) refl

-- A word stops before the next piece, or before the space that stands between.
stops-blank_or : (s : Bool) (p next : Piece) (parts : List Part) → IsWordPiece p →
    IsWordPiece next ⊎ IsSpecialPiece next → (s ≡ false → needs_space p next ≡ false) →
    stops (is_quoted_after false p.text) (row_bytes (blank_or s (Item next) parts) ++ []) ≡ true
stops-blank_or true p next parts w form h = space-stops (is_quoted_after false p.text)
stops-blank_or false p next parts w form h =
    let e = word-takes p next w form in
    let f = h refl in
    let stop : stops (is_quoted_after false p.text) next.text ≡ true = grind (arith, nat_tests) in
    rw append_assoc (stops-append _ next.text (row_bytes parts ++ []) (form-some next form) stop)

or-false : (a b : Bool) → (a || b) ≡ false → b ≡ false
or-false a b h = grind (arith, nat_tests)

item-before : (p : Piece) (laid : List Laid) → IsWordPiece p ⊎ IsSpecialPiece p → All IsPiece (pieces laid) →
    IsItem p (row_bytes (row_after p laid) ++ [])
item-before p laid (inr s) all = Single s
item-before p [] (inl w) all = Longest w refl
item-before p (l ∷ laid) (inl w) all =
    Longest w
    (stops-blank_or (l.spaced || needs_space p l.piece) p l.piece (row_after l.piece laid) w
    (piece-form l.piece (All-head IsPiece l.piece (pieces laid) all))
    (or-false l.spaced (needs_space p l.piece)))

row_after-fit : (p : Piece) (laid : List Laid) → IsPiece p → All IsPiece (pieces laid) →
    AreParts (Item p ∷ row_after p laid) []
row_after-fit p [] is all = (item-before p [] (piece-form p is) all, tt)
row_after-fit p (l ∷ laid) is all = (
  item-before p (l ∷ laid) (piece-form p is) all,
  blank_or-fit (l.spaced || needs_space p l.piece) l.piece (row_after l.piece laid) []
      (row_after-fit l.piece laid (All-head IsPiece l.piece (pieces laid) all)
      (All-tail IsPiece l.piece (pieces laid) all)),
)

-- Joined pieces are cut into these pieces again.
pub join-read : (laid : List Laid) → All IsPiece (pieces laid) → pieces_of (join laid) ≡ Some (pieces laid)
unfolding join
join-read [] all = row-pieces [] [] refl tt
join-read (l ∷ laid) all =
    row-pieces (l.piece.text ++ join_after l.piece laid) (Item l.piece ∷ row_after l.piece laid)
    (rw row_after-bytes refl)
    (row_after-fit l.piece laid (All-head IsPiece l.piece (pieces laid) all)
    (All-tail IsPiece l.piece (pieces laid) all))
    ∙ rw row_after-pieces refl

-- the last of a piece and those laid after it
abbrev pub last_of : Piece → List Laid → Piece
last_of p [] = p
last_of p (l ∷ laid) = last_of l.piece laid

-- What is laid in two runs is joined run by run.
pub join_after-append : (p : Piece) (laid more : List Laid) →
    join_after p (laid ++ more) ≡ join_after p laid ++ join_after (last_of p laid) more
unfolding join_after
join_after-append p [] more = refl
join_after-append p (l ∷ laid) more =
    ap (λ u. space (l.spaced || needs_space p l.piece) ++ (l.piece.text ++ u)) (join_after-append l.piece laid more)
    ∙ ap (λ u. space (l.spaced || needs_space p l.piece) ++ u)
    (sym (append_assoc l.piece.text (join_after l.piece laid) (join_after (last_of l.piece laid) more)))
    ∙ sym (append_assoc (space (l.spaced || needs_space p l.piece)) (l.piece.text ++ join_after l.piece laid) _)

pub pieces-append : (laid more : List Laid) → pieces (laid ++ more) ≡ pieces laid ++ pieces more
pieces-append [] more = refl
pieces-append (l ∷ laid) more = ap (λ ps. l.piece ∷ ps) (pieces-append laid more)
