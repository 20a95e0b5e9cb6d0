-- The reading of a text, and its cut into parts, are the same.
use Rattle.std.proofs.Common.{◌≡◌, ℕ, ◌+◌, Bool, true, false, ◌⊎◌, inl, inr, List, [], ◌∷◌, ◌++◌, length, refl, ap, ◌∙◌, zero-add, Ok, Err, arith}
use Rattle.std.proofs.lemmas.Bool.Decides.{nat_tests}
use Rattle.std.proofs.lemmas.List.{append-nil}
use Rattle.fvn_lex.specs.declared.token.Token.{Token}
use Rattle.fvn_lex.specs.declared.token.LexFault.{LexFault}
use Rattle.fvn_lex.specs.declared.token.LexFault.TheVariants.{BadByte, BlockComment, NoMemory}
use Rattle.fvn_lex.specs.declared.cut.Place.TheVariants.{Between}
use Rattle.fvn_lex.specs.Bytes.{is_blank, is_special, is_printed, begins_comment, begins_block}
use Rattle.fvn_lex.specs.inner.Machine.{Stop, prepend, begin, advance, follow, lex_from}
use Rattle.fvn_lex.specs.Cut.{lex}
use Rattle.fvn_lex.specs.Parts.{begins_bad, row_bytes, row_tokens, IsCutInto, IsRowUpTo, IsFirstFault}
use Rattle.fvn_lex.proofs.ByteLemmas.{special-printed, dash-printed, dash-not_blank, dash-not_special, begins_comment-dash, begins_block-comment, begins_block-nil, false_when}
use Rattle.fvn_lex.proofs.Reading.{lex_from-nil, lex_from-cons}
use Rattle.fvn_lex.proofs.RowReading.{row-reading}
use Rattle.fvn_lex.proofs.Rows.{Row, row-of, AtEnd, AtBad, AtBlock}

begin-bad : (n b : ℕ) (text : List ℕ) → is_blank b ≡ false → is_special b ≡ false →
    begins_block text ≡ false → begins_comment text ≡ false → is_printed b ≡ false →
    begin n b text ≡ Stop (BadByte n)
unfolding begin
begin-bad n b text h k l m o = rw (h, k, l, m, o) refl

begin-block : (n b : ℕ) (text : List ℕ) → is_blank b ≡ false → is_special b ≡ false →
    begins_block text ≡ true → begin n b text ≡ Stop (BlockComment n)
unfolding begin
begin-block n b text h k l = rw (h, k, l) refl

bad-reading : (n : ℕ) (left : List ℕ) → begins_bad left ≡ true → lex_from Between n left ≡ Err (BadByte n)
unfolding advance
bad-reading n [] h = cc
bad-reading n (b ∷ rest) h =
    let blank : is_blank b ≡ false = grind (arith, nat_tests) in
    let printed : is_printed b ≡ false = grind (arith, nat_tests) in
    let special = false_when (is_special b) (λ k. let p : is_printed b ≡ true = special-printed b k in cc) in
    let comment = false_when (begins_comment (b ∷ rest))
    (λ k. let p : is_printed b ≡ true = dash-printed b (begins_comment-dash b rest k) in cc) in
    let block = false_when (begins_block (b ∷ rest))
    (λ k. let c : begins_comment (b ∷ rest) ≡ true = begins_block-comment (b ∷ rest) k in cc) in
    lex_from-cons Between n b rest
    ∙ ap (λ m. follow m (λ next. lex_from next (n + 1) rest))
    (begin-bad n b (b ∷ rest) blank special block comment printed)

block-reading : (n : ℕ) (left : List ℕ) → begins_block left ≡ true →
    lex_from Between n left ≡ Err (BlockComment n)
unfolding advance
block-reading n [] h = absurd (begins_block-nil h)
block-reading n (b ∷ rest) h =
    let dash = begins_comment-dash b rest (begins_block-comment (b ∷ rest) h) in
    lex_from-cons Between n b rest
    ∙ ap (λ m. follow m (λ next. lex_from next (n + 1) rest))
    (begin-block n b (b ∷ rest) (dash-not_blank b dash) (dash-not_special b dash) h)

-- A text that is a row of parts has the row's tokens.
pub lex-row : (bytes : List ℕ) (list : List Token) → IsCutInto bytes list → lex bytes ≡ Ok list
unfolding lex
lex-row bytes list c =
    let e : lex_from Between 0 (row_bytes c.parts ++ []) ≡ prepend (row_tokens 0 c.parts) (Ok []) =
    row-reading c.parts [] 0 c.fit ∙ ap (prepend (row_tokens 0 c.parts)) (lex_from-nil Between _) in
    rw (c.row, c.tokens) (simp append-nil at e)

-- A text that is a row up to a fault has this fault.
stuck-reading : (test : List ℕ → Bool) (bytes : List ℕ) (n : ℕ) (fault : LexFault) →
    (s : IsRowUpTo test bytes n) → lex_from Between n s.left ≡ Err fault → lex bytes ≡ Err fault
unfolding lex
stuck-reading test bytes n fault s e =
    let at : lex_from Between (0 + length (row_bytes s.parts)) s.left ≡ Err fault = rw (zero-add, ← s.offset) e in
    rw s.row (row-reading s.parts s.left 0 s.fit ∙ ap (prepend (row_tokens 0 s.parts)) at)

pub lex-fault : (bytes : List ℕ) (fault : LexFault) → IsFirstFault bytes fault → lex bytes ≡ Err fault
lex-fault bytes (BadByte n) s = stuck-reading begins_bad bytes n _ s (bad-reading n s.left s.passes)
lex-fault bytes (BlockComment n) s = stuck-reading begins_block bytes n _ s (block-reading n s.left s.passes)
lex-fault bytes NoMemory f = absurd f

row-stuck : (test : List ℕ → Bool) (bytes : List ℕ) (r : Row bytes) → test r.left ≡ true →
    IsRowUpTo test bytes (length (row_bytes r.parts))
row-stuck test bytes r h = record {
  parts = r.parts;
  left = r.left;
  row = r.row;
  fit = r.fit;
  offset = refl;
  passes = h;
}

row-cut : (bytes : List ℕ) (r : Row bytes) → r.left ≡ [] → IsCutInto bytes (row_tokens 0 r.parts)
row-cut bytes r e = record {
  parts = r.parts;
  row = r.row ∙ rw e (append-nil _);
  fit = rw e at r.fit;
  tokens = refl;
}

-- every text is cut into tokens, or has a first fault
pub cut-or-fault : (bytes : List ℕ) →
    ((list : List Token) × IsCutInto bytes list) ⊎ ((fault : LexFault) × IsFirstFault bytes fault)
cut-or-fault bytes = go (row-of bytes) where
  go : (r : Row bytes) →
      ((list : List Token) × IsCutInto bytes list) ⊎ ((fault : LexFault) × IsFirstFault bytes fault)
  go r = elim r.ends [
    | AtEnd e ↦ inl (row_tokens 0 r.parts, row-cut bytes r e)
    | AtBad h ↦ inr (BadByte (length (row_bytes r.parts)), row-stuck begins_bad bytes r h)
    | AtBlock h ↦ inr (BlockComment (length (row_bytes r.parts)), row-stuck begins_block bytes r h)
  ]

pub cut-lex : (bytes : List ℕ) (list : List Token) → lex bytes ≡ Ok list → IsCutInto bytes list
cut-lex bytes list e = elim (cut-or-fault bytes) [
  | inl (made, c) ↦ let same : made ≡ list = let k = lex-row bytes made c in cc in rw same at c
  | inr (fault, f) ↦ let k : lex bytes ≡ Err fault = lex-fault bytes fault f in cc
]

pub fault-lex : (bytes : List ℕ) (fault : LexFault) → lex bytes ≡ Err fault → IsFirstFault bytes fault
fault-lex bytes fault e = elim (cut-or-fault bytes) [
  | inl (made, c) ↦ let k : lex bytes ≡ Ok made = lex-row bytes made c in cc
  | inr (first, f) ↦ let same : first ≡ fault = let k = lex-fault bytes first f in cc in rw same at f
]

pub first-fault : (bytes : List ℕ) (fault : LexFault) → (fault ≡ NoMemory) ⊎ (lex bytes ≡ Err fault) →
    (fault ≡ NoMemory) ⊎ IsFirstFault bytes fault
first-fault bytes fault (inl e) = inl e
first-fault bytes fault (inr e) = inr (fault-lex bytes fault e)
