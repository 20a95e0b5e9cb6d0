-- A space is needed exactly where two pieces without one are not cut into these two.
use Rattle.std.proofs.Common.{◌≡◌, ◌≢◌, ℕ, ◌+◌, ◌<◌, ◌≤◌, Bool, true, false, ◌⊎◌, ◌↔◌, inl, inr, List, [], ◌∷◌, ◌++◌, length, refl, ap, sym, ◌∙◌, length-append, Some, arith}
use Rattle.std.proofs.lemmas.Bool.Decides.{nat_tests}
use Rattle.std.proofs.lemmas.List.{append-nil}
use Rattle.fvn_lex.specs.Cut.{Piece, pieces_of}
use Rattle.fvn_lex.specs.Parts.{stops, is_quoted_after, IsWordPiece, IsSpecialPiece, IsRemark, IsItem, Single, Longest, Part, White, Remark, Item, row_bytes, AreParts, row_pieces}
use Rattle.fvn_lex.specs.Join.{IsPiece, needs_space}
use Rattle.fvn_lex.proofs.ByteLemmas.{begins_comment-nil}
use Rattle.fvn_lex.proofs.JoinLemmas.{pieces-row, piece-form, row-pieces, word-takes, form-some, stops-append, form-item}

-- the bytes of pieces without any between them
abbrev piece_bytes : List Piece → ℕ
piece_bytes [] = 0
piece_bytes (p ∷ ps) = length p.text + piece_bytes ps

row-length : (parts : List Part) → piece_bytes (row_pieces parts) ≤ length (row_bytes parts)
row-length [] = omega arith
row-length (White b ∷ parts) = let e = row-length parts in omega arith
row-length (Remark text ∷ parts) =
    let e = row-length parts in let k = length-append text (row_bytes parts) in omega arith
row-length (Item p ∷ parts) =
    let e = row-length parts in let k = length-append p.text (row_bytes parts) in omega arith

remark-some : (text rest : List ℕ) → IsRemark text rest → 0 < length text
remark-some [] rest r = absurd (begins_comment-nil r.begins)
remark-some (b ∷ text) rest r = omega arith

-- a row with no bytes besides its pieces' begins with the first of them
row-first : (parts : List Part) (rest : List ℕ) (p : Piece) (ps : List Piece) → AreParts parts rest →
    row_pieces parts ≡ p ∷ ps → length (row_bytes parts) ≡ length p.text + piece_bytes ps →
    (more : List Part) × ((parts ≡ Item p ∷ more) × (row_pieces more ≡ ps))
row-first [] rest p ps fit e h = cc
row-first (White b ∷ parts) rest p ps fit e h =
    let k = row-length parts in let f : piece_bytes (row_pieces parts) ≡ piece_bytes (p ∷ ps) = ap piece_bytes e in
    absurd (omega arith)
row-first (Remark text ∷ parts) rest p ps fit e h =
    let k = row-length parts in let f : piece_bytes (row_pieces parts) ≡ piece_bytes (p ∷ ps) = ap piece_bytes e in
    let some = remark-some text (row_bytes parts ++ rest) fit.0 in
    let l = length-append text (row_bytes parts) in
    absurd (omega arith)
row-first (Item q ∷ parts) rest p ps fit e h =
    let same : q ≡ p = cc in let more : row_pieces parts ≡ ps = cc in
    (parts, (ap (λ r. Item r ∷ parts) same, more))

row-none : (parts : List Part) → length (row_bytes parts) ≡ 0 → row_bytes parts ≡ []
row-none parts h = go (row_bytes parts) h where
  go : (text : List ℕ) → length text ≡ 0 → text ≡ []
  go [] h = refl
  go (b ∷ text) h = absurd (omega arith)

-- a row of just the bytes of one piece
row-one : (parts : List Part) (p : Piece) → AreParts parts [] → row_pieces parts ≡ p ∷ [] →
    length (row_bytes parts) ≡ length p.text → row_bytes parts ≡ p.text
row-one parts p fit e h =
    let k : length (row_bytes parts) ≡ length p.text + piece_bytes [] = omega arith in
    let f = row-first parts [] p [] fit e k in
    let l : length p.text + length (row_bytes f.0) ≡ length p.text =
    sym (length-append p.text (row_bytes f.0)) ∙ rw f.1.0 at h in
    rw (f.1.0, row-none f.0 (omega (arith, l))) (append-nil p.text)

-- in a row of just the bytes of two pieces, the first stands directly before the second
row-two : (parts : List Part) (p next : Piece) → AreParts parts [] → row_pieces parts ≡ p ∷ next ∷ [] →
    length (row_bytes parts) ≡ length p.text + length next.text → IsItem p (next.text ++ [])
row-two parts p next fit e h =
    let k : length (row_bytes parts) ≡ length p.text + piece_bytes (next ∷ []) = omega arith in
    let f = row-first parts [] p (next ∷ []) fit e k in
    let both : AreParts (Item p ∷ f.0) [] = rw f.1.0 at fit in
    let l : length p.text + length (row_bytes f.0) ≡ length p.text + length next.text =
    sym (length-append p.text (row_bytes f.0)) ∙ rw f.1.0 at h in
    rw (row-one f.0 next both.1 f.1.1 (omega (arith, l))) at both.0

stops-front : (q : Bool) (next : List ℕ) → next ≢ [] → stops q (next ++ []) ≡ true → stops q next ≡ true
stops-front q [] some h = absurd (some refl)
stops-front q (b ∷ next) some h = h

special-takes : (p next : Piece) → IsSpecialPiece p → needs_space p next ≡ false
unfolding needs_space
special-takes p next s = rw s.class refl

item-space : (p next : Piece) → IsWordPiece next ⊎ IsSpecialPiece next → IsItem p (next.text ++ []) → needs_space p next ≡ false
item-space p next form (Single s) = special-takes p next s
item-space p next form (Longest w stop) =
    let e = word-takes p next w form in
    let h = stops-front (is_quoted_after false p.text) next.text (form-some next form) stop in
    grind (arith, nat_tests)

space-item : (p next : Piece) → IsWordPiece next ⊎ IsSpecialPiece next → IsWordPiece p ⊎ IsSpecialPiece p →
    needs_space p next ≡ false → IsItem p (next.text ++ [])
space-item p next form (inr s) h = Single s
space-item p next form (inl w) h =
    let e = word-takes p next w form in
    let stop : stops (is_quoted_after false p.text) next.text ≡ true = grind (arith, nat_tests) in
    Longest w (stops-append (is_quoted_after false p.text) next.text [] (form-some next form) stop)

pub space-needed : (p next : Piece) → IsPiece p → IsPiece next →
    (needs_space p next ≡ false) ↔ (pieces_of (p.text ++ next.text) ≡ Some (p ∷ next ∷ []))
space-needed p next is is' =
    let form = piece-form next is' in (
      λ h. row-pieces (p.text ++ next.text) (Item p ∷ Item next ∷ [])
          (ap (λ u. p.text ++ u) (sym (append-nil next.text)))
          (rw append-nil (space-item p next form (piece-form p is) h), (form-item next (piece-form next is'), tt)),
      λ e. let row = pieces-row (p.text ++ next.text) (p ∷ next ∷ []) e in
          item-space p next form
          (row-two row.parts p next row.fit row.pieces
          (sym (ap length row.row) ∙ length-append p.text next.text)),
    )
