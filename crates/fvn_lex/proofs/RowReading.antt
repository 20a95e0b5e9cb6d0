-- The reading of a row of parts gives the row's tokens.
use Rattle.std.proofs.Common.{◌≡◌, ℕ, ◌+◌, ◌==◌, Bool, true, false, if◌then◌else◌, List, [], ◌∷◌, ◌++◌, length, refl, ap, sym, ◌∙◌, append_assoc, add_assoc, add-zero, length-append, ◌||◌, arith}
use Rattle.std.proofs.lemmas.Bool.Decides.{nat_tests}
use Rattle.fvn_lex.specs.declared.token.Class.{Class}
use Rattle.fvn_lex.specs.declared.token.Class.TheVariants.{Word, Special, Dot}
use Rattle.fvn_lex.specs.declared.token.Token.{Token}
use Rattle.fvn_lex.specs.declared.cut.Place.{Place}
use Rattle.fvn_lex.specs.declared.cut.Place.TheVariants.{Between, Comment, Inside}
use Rattle.fvn_lex.specs.Bytes.{is_blank, is_special, is_printed, is_backquote, goes_on, begins_comment, begins_block}
use Rattle.fvn_lex.specs.Spans.{Lexed, token}
use Rattle.fvn_lex.specs.inner.Machine.{Move, Go, Stop, prepend, begin, after, advance, follow, lex_from}
use Rattle.fvn_lex.specs.Cut.{Piece}
use Rattle.fvn_lex.specs.Parts.{goes_through, is_quoted_after, stops, class_of, is_one_line, ends_line, IsWordPiece, IsRemark, IsItem, Single, Longest, Part, White, Remark, Item, row_bytes, AreParts, row_tokens}
use Rattle.fvn_lex.proofs.ByteLemmas.{printed-not_blank, goes_on-printed, goes_on-not_special, special-not_blank, dash-not_blank, dash-not_special, begins_comment-dash, begins_comment-append, begins_comment-word, no_comment-no_block, feed-blank, begins_comment-nil, begins_block-line}
use Rattle.fvn_lex.proofs.Reading.{prepend-prepend, prepend-nil, lex_from-nil, lex_from-cons}

-- What begins, by what the byte is.
begin-blank : (n b : ℕ) (text : List ℕ) → is_blank b ≡ true → begin n b text ≡ Go [] Between
unfolding begin
begin-blank n b text h = rw h refl

begin-special : (n b : ℕ) (text : List ℕ) → is_blank b ≡ false → is_special b ≡ true →
    begin n b text ≡ Go (token n (n + 1) Special ∷ []) Between
unfolding begin
begin-special n b text h k = rw (h, k) refl

begin-comment : (n b : ℕ) (text : List ℕ) → is_blank b ≡ false → is_special b ≡ false →
    begins_block text ≡ false → begins_comment text ≡ true → begin n b text ≡ Go [] Comment
unfolding begin
begin-comment n b text h k l m = rw (h, k, l, m) refl

begin-word : (n b : ℕ) (text : List ℕ) → is_blank b ≡ false → is_special b ≡ false →
    begins_block text ≡ false → begins_comment text ≡ false → is_printed b ≡ true →
    begin n b text ≡ Go [] (Inside n (if b == 46 then Dot else Word) (is_backquote b))
unfolding begin
begin-word n b text h k l m o = rw (h, k, l, m, o) refl

follow-after : (made : List Token) (m : Move) (reading : Place → Lexed) →
    follow (after made m) reading ≡ prepend made (follow m reading)
follow-after made (Go more next) reading = sym (prepend-prepend made more (reading next))
follow-after made (Stop fault) reading = refl

-- A word that ends is its token, and what follows is read as between tokens.
inside-stop : (rest : List ℕ) (start : ℕ) (kind : Class) (quoted : Bool) (n : ℕ) →
    stops quoted rest ≡ true →
    lex_from (Inside start kind quoted) n rest
    ≡ prepend (token start n kind ∷ []) (lex_from Between n rest)
unfolding lex_from advance
inside-stop [] start kind quoted n h = refl
inside-stop (b ∷ rest) start kind quoted n h =
    let stop : goes_on quoted b ≡ false = grind (arith, nat_tests) in
    rw stop (follow-after (token start n kind ∷ []) (begin n b (b ∷ rest)) (λ next. lex_from next (n + 1) rest))

-- the class of a word that began with this class
abbrev class_after : Class → List ℕ → Class
class_after kind [] = kind
class_after kind (b ∷ text) = Word

class_after-word : (text : List ℕ) → class_after Word text ≡ Word
class_after-word [] = refl
class_after-word (b ∷ text) = refl

class_of-cons : (b : ℕ) (text : List ℕ) → class_after (if b == 46 then Dot else Word) text ≡ class_of (b ∷ text)
class_of-cons b [] = refl
class_of-cons b (c ∷ text) = refl

inside-more : (b : ℕ) (rest : List ℕ) (start : ℕ) (kind : Class) (quoted : Bool) (n : ℕ) →
    goes_on quoted b ≡ true →
    lex_from (Inside start kind quoted) n (b ∷ rest) ≡ lex_from (Inside start Word (is_backquote b)) (n + 1) rest
unfolding lex_from advance
inside-more b rest start kind quoted n h = rw h (prepend-nil (lex_from (Inside start Word (is_backquote b)) (n + 1) rest))

-- The rest of a word is read through to its end.
inside-through : (text rest : List ℕ) (start : ℕ) (kind : Class) (quoted : Bool) (n : ℕ) →
    goes_through quoted text ≡ true → stops (is_quoted_after quoted text) rest ≡ true →
    lex_from (Inside start kind quoted) n (text ++ rest)
    ≡ prepend (token start (n + length text) (class_after kind text) ∷ []) (lex_from Between (n + length text) rest)
inside-through [] rest start kind quoted n through stop =
    rw add-zero (inside-stop rest start kind quoted n stop)
inside-through (b ∷ text) rest start kind quoted n through stop =
    let on : goes_on quoted b ≡ true = grind (arith, nat_tests) in
    let more : goes_through (is_backquote b) text ≡ true = grind (arith, nat_tests) in
    let e : n + 1 + length text ≡ n + length (b ∷ text) = omega arith in
    inside-more b (text ++ rest) start kind quoted n on
    ∙ rw (class_after-word text, e) at
    (inside-through text rest start Word (is_backquote b) (n + 1) more stop)

-- A byte of words begins one where no comment begins.
between-word : (n b : ℕ) (rest : List ℕ) → goes_on false b ≡ true → begins_comment (b ∷ rest) ≡ false →
    lex_from Between n (b ∷ rest)
    ≡ lex_from (Inside n (if b == 46 then Dot else Word) (is_backquote b)) (n + 1) rest
unfolding advance
between-word n b rest on plain =
    let printed = goes_on-printed false b on in
    lex_from-cons Between n b rest
    ∙ ap (λ m. follow m (λ next. lex_from next (n + 1) rest))
    (begin-word n b (b ∷ rest) (printed-not_blank b printed) (goes_on-not_special b on)
    (no_comment-no_block (b ∷ rest) plain) plain printed)
    ∙ prepend-nil _

word-begun : (b : ℕ) (text rest : List ℕ) (n : ℕ) → goes_through false (b ∷ text) ≡ true →
    begins_comment (b ∷ text ++ rest) ≡ false → stops (is_quoted_after (is_backquote b) text) rest ≡ true →
    lex_from Between n (b ∷ text ++ rest)
    ≡ prepend (token n (n + length (b ∷ text)) (class_of (b ∷ text)) ∷ [])
    (lex_from Between (n + length (b ∷ text)) rest)
word-begun b text rest n through plain stop =
    let on : goes_on false b ≡ true = grind (arith, nat_tests) in
    let more : goes_through (is_backquote b) text ≡ true = grind (arith, nat_tests) in
    let e : n + 1 + length text ≡ n + length (b ∷ text) = omega arith in
    between-word n b (text ++ rest) on plain
    ∙ rw (class_of-cons b text, e) at
    (inside-through text rest n (if b == 46 then Dot else Word) (is_backquote b) (n + 1) more stop)

pub word-front : (n : ℕ) (kind : Class) (text rest : List ℕ) → IsWordPiece (record { class = kind; text = text }) →
    stops (is_quoted_after false text) rest ≡ true →
    lex_from Between n (text ++ rest)
    ≡ prepend (token n (n + length text) kind ∷ []) (lex_from Between (n + length text) rest)
word-front n kind [] rest w stop = absurd (w.some refl)
word-front n kind (b ∷ text) rest w stop =
    rw w.class (word-begun b text rest n w.printed (begins_comment-word (b ∷ text) rest w.some w.no_comment stop) stop)

-- A special byte is a token by itself.
special-front : (n b : ℕ) (rest : List ℕ) → is_special b ≡ true →
    lex_from Between n (b ∷ rest) ≡ prepend (token n (n + 1) Special ∷ []) (lex_from Between (n + 1) rest)
unfolding advance
special-front n b rest h =
    lex_from-cons Between n b rest
    ∙ ap (λ m. follow m (λ next. lex_from next (n + 1) rest))
    (begin-special n b (b ∷ rest) (special-not_blank b h) h)

-- White space is passed over.
blank-front : (n b : ℕ) (rest : List ℕ) → is_blank b ≡ true →
    lex_from Between n (b ∷ rest) ≡ lex_from Between (n + 1) rest
unfolding advance
blank-front n b rest h =
    lex_from-cons Between n b rest
    ∙ ap (λ m. follow m (λ next. lex_from next (n + 1) rest)) (begin-blank n b (b ∷ rest) h)
    ∙ prepend-nil _

-- A comment is passed over to the end of its line.
comment-more : (n b : ℕ) (rest : List ℕ) → (b == 10) ≡ false →
    lex_from Comment n (b ∷ rest) ≡ lex_from Comment (n + 1) rest
unfolding advance
comment-more n b rest h =
    lex_from-cons Comment n b rest ∙ rw h (prepend-nil _)

comment-stop : (n : ℕ) (rest : List ℕ) → ends_line rest ≡ true →
    lex_from Comment n rest ≡ lex_from Between n rest
unfolding advance
comment-stop n [] h = lex_from-nil Comment n ∙ sym (lex_from-nil Between n)
comment-stop n (b ∷ rest) h =
    let blank : is_blank b ≡ true = feed-blank b h in
    lex_from-cons Comment n b rest ∙ rw h (prepend-nil _) ∙ sym (blank-front n b rest blank)

comment-through : (text rest : List ℕ) (n : ℕ) → is_one_line text ≡ true → ends_line rest ≡ true →
    lex_from Comment n (text ++ rest) ≡ lex_from Between (n + length text) rest
comment-through [] rest n one end = rw add-zero (comment-stop n rest end)
comment-through (b ∷ text) rest n one end =
    let other : (b == 10) ≡ false = grind (arith, nat_tests) in
    let more : is_one_line text ≡ true = grind (arith, nat_tests) in
    let e : n + 1 + length text ≡ n + length (b ∷ text) = omega arith in
    comment-more n b (text ++ rest) other ∙ rw e at (comment-through text rest (n + 1) more end)

between-comment : (n b : ℕ) (rest : List ℕ) → (b == 45 || b == 42) ≡ true → begins_comment (b ∷ rest) ≡ true →
    begins_block (b ∷ rest) ≡ false →
    lex_from Between n (b ∷ rest) ≡ lex_from Comment (n + 1) rest
unfolding advance
between-comment n b rest dash begins plain =
    lex_from-cons Between n b rest
    ∙ ap (λ m. follow m (λ next. lex_from next (n + 1) rest))
    (begin-comment n b (b ∷ rest) (dash-not_blank b dash) (dash-not_special b dash) plain begins)
    ∙ prepend-nil _

comment-front : (text rest : List ℕ) (n : ℕ) → IsRemark text rest →
    lex_from Between n (text ++ rest) ≡ lex_from Between (n + length text) rest
comment-front [] rest n r = absurd (begins_comment-nil r.begins)
comment-front (b ∷ text) rest n r =
    let more : is_one_line text ≡ true = let h = r.one_line in grind (arith, nat_tests) in
    let e : n + 1 + length text ≡ n + length (b ∷ text) = omega arith in
    between-comment n b (text ++ rest) (begins_comment-dash b text r.begins)
    (begins_comment-append (b ∷ text) rest r.begins)
    (begins_block-line (b ∷ text) rest r.begins r.no_block r.longest)
    ∙ rw e at (comment-through text rest (n + 1) more r.longest)

item-front : (n : ℕ) (p : Piece) (rest : List ℕ) → IsItem p rest →
    lex_from Between n (p.text ++ rest)
    ≡ prepend (token n (n + length p.text) p.class ∷ []) (lex_from Between (n + length p.text) rest)
item-front n p rest (Single s) = rw (s.text, s.class) (special-front n s.byte rest s.special)
item-front n p rest (Longest w stop) = word-front n p.class p.text rest w stop

-- A row of parts is read as its tokens, and what follows it is read as between tokens.
pub row-reading : (parts : List Part) (rest : List ℕ) (n : ℕ) → AreParts parts rest →
    lex_from Between n (row_bytes parts ++ rest)
    ≡ prepend (row_tokens n parts) (lex_from Between (n + length (row_bytes parts)) rest)
row-reading [] rest n fit = rw add-zero (sym (prepend-nil _))
row-reading (White b ∷ parts) rest n fit =
    let e : n + 1 + length (row_bytes parts) ≡ n + length (b ∷ row_bytes parts) = omega arith in
    blank-front n b (row_bytes parts ++ rest) fit.0 ∙ rw e at (row-reading parts rest (n + 1) fit.1)
row-reading (Remark text ∷ parts) rest n fit =
    rw (append_assoc text (row_bytes parts) rest, length-append text (row_bytes parts), ← add_assoc n (length text) (length (row_bytes parts)))
    (comment-front text (row_bytes parts ++ rest) n fit.0 ∙ row-reading parts rest (n + length text) fit.1)
row-reading (Item p ∷ parts) rest n fit =
    rw (append_assoc p.text (row_bytes parts) rest, length-append p.text (row_bytes parts), ← add_assoc n (length p.text) (length (row_bytes parts)))
    (item-front n p (row_bytes parts ++ rest) fit.0
    ∙ ap (prepend (token n (n + length p.text) p.class ∷ [])) (row-reading parts rest (n + length p.text) fit.1)
    ∙ prepend-prepend (token n (n + length p.text) p.class ∷ []) (row_tokens (n + length p.text) parts) _)
