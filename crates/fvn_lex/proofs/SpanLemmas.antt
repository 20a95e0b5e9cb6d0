-- Where the tokens of a row stand.
use Rattle.std.proofs.Common.{◌≡◌, ◌≢◌, ℕ, ◌+◌, ◌<◌, ◌≤◌, ◌-◌, List, [], ◌∷◌, ◌++◌, length, refl, ap, sym, ◌∙◌, append_assoc, length-append, map, arith}
use Rattle.std.specs.List.{slice_range, All}
use Rattle.std.proofs.lemmas.List.Elements.{All-nil, All-cons}
use Rattle.std.proofs.lemmas.List.Kept.{AllPairs-cons}
use Rattle.std.proofs.Math.Seq.{drop-append_seam, take-append_seam}
use Rattle.fvn_lex.specs.declared.token.Token.{Token}
use Rattle.fvn_lex.specs.Cut.{Piece, piece_at}
use Rattle.fvn_lex.specs.Spans.{token}
use Rattle.fvn_lex.specs.Parts.{IsItem, Single, Longest, Part, White, Remark, Item, row_bytes, AreParts, row_tokens, row_pieces, IsCutInto}
use Rattle.fvn_lex.specs.Spans.{AreWithin, AreInOrder}

-- a token from this offset on, that ends at that one or before it
abbrev pub IsSpan : ℕ → ℕ → Token → Type 0
IsSpan from upto t = (from ≤ t.start) × (t.start < t.end) × (t.end ≤ upto)

All-weaken : (P Q : Token → Type 0) (list : List Token) → ((t : Token) → P t → Q t) → All P list → All Q list
All-weaken P Q list f all = λ k d h. f _ (all k d h)

pub some-length : (text : List ℕ) → text ≢ [] → 0 < length text
some-length [] f = absurd (f refl)
some-length (b ∷ text) f = omega arith

pub item-some : (p : Piece) (rest : List ℕ) → IsItem p rest → 0 < length p.text
item-some p rest (Single s) = rw s.text (omega arith)
item-some p rest (Longest w stop) = some-length p.text w.some

pub row-spans : (parts : List Part) (rest : List ℕ) (n upto : ℕ) → AreParts parts rest →
    n + length (row_bytes parts) ≤ upto → All (IsSpan n upto) (row_tokens n parts)
row-spans [] rest n upto fit h = All-nil (IsSpan n upto)
row-spans (White b ∷ parts) rest n upto fit h =
    let k : n + 1 + length (row_bytes parts) ≤ upto = omega arith in
    All-weaken (IsSpan (n + 1) upto) (IsSpan n upto) (row_tokens (n + 1) parts) (λ t s. (omega arith, s.1, s.2))
    (row-spans parts rest (n + 1) upto fit.1 k)
row-spans (Remark text ∷ parts) rest n upto fit h =
    let k : n + length text + length (row_bytes parts) ≤ upto =
    let e = length-append text (row_bytes parts) in omega arith in
    All-weaken (IsSpan (n + length text) upto) (IsSpan n upto) (row_tokens (n + length text) parts)
    (λ t s. (omega arith, s.1, s.2))
    (row-spans parts rest (n + length text) upto fit.1 k)
row-spans (Item p ∷ parts) rest n upto fit h =
    let some = item-some p (row_bytes parts ++ rest) fit.0 in
    let k : n + length p.text + length (row_bytes parts) ≤ upto =
    let e = length-append p.text (row_bytes parts) in omega arith in
    All-cons (IsSpan n upto) (token n (n + length p.text) p.class) (row_tokens (n + length p.text) parts)
    (omega arith, omega arith, omega arith)
    (All-weaken (IsSpan (n + length p.text) upto) (IsSpan n upto) (row_tokens (n + length p.text) parts)
    (λ t s. (omega arith, s.1, s.2))
    (row-spans parts rest (n + length p.text) upto fit.1 k))

pub row-ordered : (parts : List Part) (rest : List ℕ) (n : ℕ) → AreParts parts rest →
    AreInOrder (row_tokens n parts)
row-ordered [] rest n fit = λ i j d h k. absurd (omega arith)
row-ordered (White b ∷ parts) rest n fit = row-ordered parts rest (n + 1) fit.1
row-ordered (Remark text ∷ parts) rest n fit = row-ordered parts rest (n + length text) fit.1
row-ordered (Item p ∷ parts) rest n fit =
    let next : ℕ = n + length p.text in
    AllPairs-cons (λ t later. t.end ≤ later.start) (token n next p.class) (row_tokens next parts)
    (All-weaken (IsSpan next (next + length (row_bytes parts))) (λ later. next ≤ later.start)
    (row_tokens next parts) (λ t s. s.0)
    (row-spans parts rest next (next + length (row_bytes parts)) fit.1 (omega arith)))
    (row-ordered parts rest next fit.1)

pub cut-within : (bytes : List ℕ) (list : List Token) → IsCutInto bytes list → AreWithin bytes list
cut-within bytes list c =
    let h : 0 + length (row_bytes c.parts) ≤ length (row_bytes c.parts) = omega arith in
    rw (c.row, c.tokens)
    (All-weaken (IsSpan 0 (length (row_bytes c.parts)))
    (λ t. (t.start < t.end) × (t.end ≤ length (row_bytes c.parts)))
    (row_tokens 0 c.parts) (λ t s. (s.1, s.2))
    (row-spans c.parts [] 0 (length (row_bytes c.parts)) c.fit h))

pub cut-ordered : (bytes : List ℕ) (list : List Token) → IsCutInto bytes list → AreInOrder list
cut-ordered bytes list c = rw c.tokens (row-ordered c.parts [] 0 c.fit)

slice-middle : (front text more : List ℕ) →
    slice_range (front ++ (text ++ more)) (length front) (length front + length text) ≡ text
slice-middle front text more =
    let e : length front + length text - length front ≡ length text = omega arith in
    rw (e, drop-append_seam front (text ++ more)) (take-append_seam text more)

row-slices : (parts : List Part) (front bytes : List ℕ) (n : ℕ) → bytes ≡ front ++ row_bytes parts →
    n ≡ length front → map (piece_at bytes) (row_tokens n parts) ≡ row_pieces parts
row-slices [] front bytes n split at = refl
row-slices (White b ∷ parts) front bytes n split at =
    row-slices parts (front ++ (b ∷ [])) bytes (n + 1)
    (split ∙ sym (append_assoc front (b ∷ []) (row_bytes parts)))
    (let e = length-append front (b ∷ []) in omega arith)
row-slices (Remark text ∷ parts) front bytes n split at =
    row-slices parts (front ++ text) bytes (n + length text)
    (split ∙ sym (append_assoc front text (row_bytes parts)))
    (let e = length-append front text in omega arith)
row-slices (Item p ∷ parts) front bytes n split at =
    let here : slice_range bytes n (n + length p.text) ≡ p.text =
    rw (split, at) (slice-middle front p.text (row_bytes parts)) in
    let first : piece_at bytes (token n (n + length p.text) p.class) ≡ p =
    ap (λ (u : List ℕ). let q : Piece = record { class = p.class; text = u } in q) here in
    let more = row-slices parts (front ++ p.text) bytes (n + length p.text)
    (split ∙ sym (append_assoc front p.text (row_bytes parts)))
    (let e = length-append front p.text in omega arith) in
    rw first (ap (λ ps. p ∷ ps) more)

pub cut-slices : (bytes : List ℕ) (list : List Token) (cut : IsCutInto bytes list) →
    map (piece_at bytes) list ≡ row_pieces cut.parts
cut-slices bytes list cut = rw cut.tokens (row-slices cut.parts [] bytes 0 cut.row refl)
