-- Joined pieces of written terms and of bindings, byte by byte.
use Rattle.std.proofs.Common.{◌≡◌, ℕ, ◌-◌, Bool, true, false, ◌||◌, List, [], ◌∷◌, ◌++◌, length, get_or, refl, sym, ap, ◌∙◌, subst, append_assoc, map, arith}
use Rattle.std.specs.Prelude.{◌==◌, codes}
use Rattle.std.proofs.lemmas.Bool.{eqb-true}
use Rattle.std.specs.List.{AllByRecursion}
use Rattle.std.proofs.lemmas.List.{append-nil, map-append}
use Rattle.fvn_lex.specs.declared.token.Class.TheVariants.{Special}
use Rattle.fvn_lex.specs.Cut.{Piece}
use Rattle.fvn_lex.specs.Bytes.{is_backquote}
use Rattle.fvn_lex.specs.Parts.{is_quoted_after}
use Rattle.fvn_lex.specs.Join.{needs_space, Laid, space, join_after, join}
use Rattle.fvn_syntax.specs.Pieces.{Text, word, special, left_paren, right_paren, left_bracket, right_bracket, left_brace, right_brace, comma}
use Rattle.fvn_syntax.specs.Raw.{RawTerm, name, call, round, kind_variable, spell, spell_all, spell_others}
use Rattle.fvn_problems.specs.Spelling.{RawPair, goes_to}
use Rattle.fvn_answer.specs.Writing.{close, text_of, arguments, over}
use Rattle.fvn_answer.specs.Lines.{after_space, arrow, laid_pair, laid_further, laid_pairs, laid_bindings}
use Rattle.fvn_answer.specs.inner.Bytes.{beside, with_each, over_texts, pair_text, with_pairs}

-- Pieces with a last one, and then further ones.

closing : (a b x : Text) → a ++ (b ++ x) ≡ (a ++ (b ++ [])) ++ x
closing a b x = sym (append_assoc a b x) ∙ ap (λ t. (a ++ t) ++ x) (sym (append-nil b))

three : (a b j x : Text) → a ++ (b ++ (j ++ x)) ≡ (a ++ (b ++ j)) ++ x
three a b j x = ap (λ t. a ++ t) (sym (append_assoc b j x)) ∙ sym (append_assoc a (b ++ j) x)

-- the space before m behind l, and then m and what follows
abbrev onward : Laid → Laid → List Laid → Text
onward l m ms = space (m.spaced || needs_space l.piece m.piece) ++ join (m ∷ ms)

join_after-last : (p : Piece) (ls : List Laid) (l m : Laid) (ms : List Laid) →
    join_after p ((ls ++ l ∷ []) ++ m ∷ ms) ≡ join_after p (ls ++ l ∷ []) ++ onward l m ms
unfolding join_after join
join_after-last p [] l m ms = closing (space (l.spaced || needs_space p l.piece)) l.piece.text (onward l m ms)
join_after-last p (k ∷ ls) l m ms =
    ap (λ t. space (k.spaced || needs_space p k.piece) ++ (k.piece.text ++ t)) (join_after-last k.piece ls l m ms)
    ∙ three (space (k.spaced || needs_space p k.piece)) k.piece.text (join_after k.piece (ls ++ l ∷ [])) (onward l m ms)

pub join-last : (ls : List Laid) (l m : Laid) (ms : List Laid) →
    join ((ls ++ l ∷ []) ++ m ∷ ms) ≡ join (ls ++ l ∷ []) ++ onward l m ms
unfolding join_after join
join-last [] l m ms = closing [] l.piece.text (onward l m ms)
join-last (k ∷ ls) l m ms =
    ap (λ t. k.piece.text ++ t) (join_after-last k.piece ls l m ms)
    ∙ sym (append_assoc k.piece.text (join_after k.piece (ls ++ l ∷ [])) (onward l m ms))

-- a space that the layout asks for before the first piece does not count
pub join-after_space : (laid : List Laid) → join (after_space laid) ≡ join laid
unfolding join
join-after_space [] = refl
join-after_space (l ∷ laid) = refl

join-one : (l : Laid) → join (l ∷ []) ≡ l.piece.text
unfolding join_after join
join-one l = append-nil l.piece.text

-- The first and the last piece of a written term.

abbrev closed : List Piece → List Laid
closed = map close

abbrev first_of : RawTerm → Piece
first_of (name w) = word w
first_of (call w ts) = word w
first_of (round t) = left_paren
first_of (kind_variable x s ss) = word x

abbrev behind_first : RawTerm → List Piece
behind_first (name w) = []
behind_first (call w ts) = left_paren ∷ spell_all ts ++ (right_paren ∷ [])
behind_first (round t) = spell t ++ (right_paren ∷ [])
behind_first (kind_variable x s ss) = left_bracket ∷ word s ∷ spell_others ss

spell-first : (t : RawTerm) → spell t ≡ first_of t ∷ behind_first t
spell-first (name w) = refl
spell-first (call w ts) = refl
spell-first (round t) = refl
spell-first (kind_variable x s ss) = refl

abbrev before_bracket : List Text → List Piece
before_bracket [] = []
before_bracket (s ∷ ss) = comma ∷ word s ∷ before_bracket ss

others-last : (ss : List Text) → spell_others ss ≡ before_bracket ss ++ right_bracket ∷ []
others-last [] = refl
others-last (s ∷ ss) = ap (λ ps. comma ∷ word s ∷ ps) (others-last ss)

abbrev before_last : RawTerm → List Piece
before_last (name w) = []
before_last (call w ts) = word w ∷ left_paren ∷ spell_all ts
before_last (round t) = left_paren ∷ spell t
before_last (kind_variable x s ss) = word x ∷ left_bracket ∷ word s ∷ before_bracket ss

abbrev last_of : RawTerm → Piece
last_of (name w) = word w
last_of (call w ts) = right_paren
last_of (round t) = right_paren
last_of (kind_variable x s ss) = right_bracket

spell-last : (t : RawTerm) → spell t ≡ before_last t ++ last_of t ∷ []
spell-last (name w) = refl
spell-last (call w ts) = refl
spell-last (round t) = refl
spell-last (kind_variable x s ss) = ap (λ ps. word x ∷ left_bracket ∷ word s ∷ ps) (others-last ss)

closed-last : (t : RawTerm) → closed (spell t) ≡ closed (before_last t) ++ close (last_of t) ∷ []
closed-last t = ap closed (spell-last t) ∙ map-append close (before_last t) (last_of t ∷ [])

-- Backquotes at the end.

pub quoted-append : (q : Bool) (a b : Text) → is_quoted_after q (a ++ b) ≡ is_quoted_after (is_quoted_after q a) b
quoted-append q [] b = refl
quoted-append q (c ∷ a) b = quoted-append (is_backquote c) a b

pub quoted-empty : (text : Text) → true ≡ (length text == 0) → false ≡ is_quoted_after false text
quoted-empty [] e = refl
quoted-empty (b ∷ text) e = let n = eqb-true (length (b ∷ text)) 0 (sym e) in absurd (omega (arith, n))

last-byte : (b : ℕ) (text : Text) (d : ℕ) → is_backquote (get_or (b ∷ text) (length text) d) ≡ is_quoted_after (is_backquote b) text
last-byte b [] d = refl
last-byte b (c ∷ text) d = last-byte c text d

-- the last byte tells
pub last-quoted : (text : Text) (d : ℕ) → false ≡ (length text == 0) → is_backquote (get_or text (length text - 1) d) ≡ is_quoted_after false text
last-quoted [] d e = cc
last-quoted (b ∷ text) d e =
    let last : length (b ∷ text) - 1 ≡ length text = omega arith in
    subst (λ n. is_backquote (get_or (b ∷ text) n d) ≡ is_quoted_after false (b ∷ text)) (sym last) (last-byte b text d)

-- the text is not empty: what stands before it does not tell whether its last byte is a backquote
abbrev pub IsFilled : Text → Type 0
IsFilled text = (q : Bool) → is_quoted_after q text ≡ is_quoted_after false text

pub filled : (b : ℕ) (text : Text) → IsFilled (b ∷ text)
filled b text q = refl

filled-append : (a b : Text) → IsFilled b → IsFilled (a ++ b)
filled-append a b f q = quoted-append q a b ∙ f (is_quoted_after q a) ∙ sym (f (is_quoted_after false a)) ∙ sym (quoted-append false a b)

pub quoted-behind : (a b : Text) → IsFilled b → is_quoted_after false (a ++ b) ≡ is_quoted_after false b
quoted-behind a b f = quoted-append false a b ∙ f (is_quoted_after false a)

join_after-quoted : (p : Piece) (ls : List Laid) (l : Laid) → IsFilled l.piece.text → (q : Bool) →
    is_quoted_after q (join_after p (ls ++ l ∷ [])) ≡ is_quoted_after false l.piece.text
unfolding join_after
join_after-quoted p [] l f q =
    quoted-append q (space (l.spaced || needs_space p l.piece)) (l.piece.text ++ [])
    ∙ ap (is_quoted_after (is_quoted_after q (space (l.spaced || needs_space p l.piece)))) (append-nil l.piece.text)
    ∙ f (is_quoted_after q (space (l.spaced || needs_space p l.piece)))
join_after-quoted p (k ∷ ls) l f q =
    quoted-append q (space (k.spaced || needs_space p k.piece)) (k.piece.text ++ join_after k.piece (ls ++ l ∷ []))
    ∙ quoted-append (is_quoted_after q (space (k.spaced || needs_space p k.piece))) k.piece.text (join_after k.piece (ls ++ l ∷ []))
    ∙ join_after-quoted k.piece ls l f (is_quoted_after (is_quoted_after q (space (k.spaced || needs_space p k.piece))) k.piece.text)

-- joined pieces end as the last one does
join-quoted : (ls : List Laid) (l : Laid) → IsFilled l.piece.text → (q : Bool) →
    is_quoted_after q (join (ls ++ l ∷ [])) ≡ is_quoted_after false l.piece.text
unfolding join join_after
join-quoted [] l f q = ap (is_quoted_after q) (append-nil l.piece.text) ∙ f q
join-quoted (k ∷ ls) l f q =
    quoted-append q k.piece.text (join_after k.piece (ls ++ l ∷ []))
    ∙ join_after-quoted k.piece ls l f (is_quoted_after q k.piece.text)

-- the last piece of the term is not empty
abbrev pub IsEnded : RawTerm → Type 0
IsEnded t = IsFilled (last_of t).text

-- whether a space is needed before a special byte, for a last piece
last-needs : (t : RawTerm) (c : Text) → needs_space (last_of t) (special c) ≡ is_quoted_after false (last_of t).text
unfolding needs_space
last-needs (name w) c = refl
last-needs (call w ts) c = refl
last-needs (round t) c = refl
last-needs (kind_variable x s ss) c = refl

-- Prefixes, which end with a piece, and terms behind them.

abbrev with_last : List Laid → Laid → List Laid
with_last ls l = ls ++ l ∷ []

-- a special byte behind pieces whose last one is not empty
special-behind : (ls : List Laid) (l : Laid) (c : ℕ) → IsFilled l.piece.text → needs_space l.piece (special (c ∷ [])) ≡ is_quoted_after false l.piece.text →
    join (with_last (with_last ls l) (close (special (c ∷ [])))) ≡ beside (join (with_last ls l)) c
special-behind ls l c f needs =
    join-last ls l (close (special (c ∷ []))) []
    ∙ ap (λ b. join (with_last ls l) ++ (space b ++ join (close (special (c ∷ [])) ∷ []))) (needs ∙ sym (join-quoted ls l f false))
    ∙ ap (λ t. join (with_last ls l) ++ (space (is_quoted_after false (join (with_last ls l))) ++ t)) (join-one (close (special (c ∷ []))))

special-needs : (p : Piece) → p.class ≡ Special → (next : Piece) → needs_space p next ≡ false
unfolding needs_space
special-needs p e next = rw e refl

-- after a special byte a term is joined without a space
term-behind : (ls : List Laid) (l : Laid) → l.piece.class ≡ Special → (t : RawTerm) →
    join (with_last ls l ++ closed (spell t)) ≡ join (with_last ls l) ++ text_of t
term-behind ls l e t =
    ap (λ ps. join (with_last ls l ++ closed ps)) (spell-first t)
    ∙ join-last ls l (close (first_of t)) (closed (behind_first t))
    ∙ ap (λ b. join (with_last ls l) ++ (space b ++ join (closed (first_of t ∷ behind_first t)))) (special-needs l.piece e (first_of t))
    ∙ ap (λ ps. join (with_last ls l) ++ join (closed ps)) (sym (spell-first t))

-- the pieces up to the end of a term, with the last one apart
split-term : (ls : List Laid) (t : RawTerm) → ls ++ closed (spell t) ≡ with_last (ls ++ closed (before_last t)) (close (last_of t))
split-term ls t = ap (λ ms. ls ++ ms) (closed-last t) ∙ sym (append_assoc ls (closed (before_last t)) (close (last_of t) ∷ []))

-- after a special byte, a term and another special byte
term-and-special : (ls : List Laid) (l : Laid) → l.piece.class ≡ Special → (t : RawTerm) → IsEnded t → (c : ℕ) →
    join (with_last (with_last ls l ++ closed (spell t)) (close (special (c ∷ [])))) ≡ beside (join (with_last ls l) ++ text_of t) c
term-and-special ls l e t f c =
    ap (λ ms. join (with_last ms (close (special (c ∷ []))))) (split-term (with_last ls l) t)
    ∙ special-behind (with_last ls l ++ closed (before_last t)) (close (last_of t)) c f (last-needs t (c ∷ []))
    ∙ ap (λ ms. beside (join ms) c) (sym (split-term (with_last ls l) t))
    ∙ ap (λ text. beside text c) (term-behind ls l e t)

-- Arguments.

arguments-text : (ls : List Laid) (l : Laid) → l.piece.class ≡ Special → (t : RawTerm) (ts : List RawTerm) → IsEnded t → AllByRecursion IsEnded ts →
    join (with_last (with_last ls l ++ closed (spell_all (arguments t ts))) (close right_paren))
    ≡ beside (with_each 44 (join (with_last ls l) ++ text_of t) (map text_of ts)) 41
arguments-text ls l e t [] f fs = term-and-special ls l e t f 41
arguments-text ls l e t (u ∷ us) f fs =
    ap (λ ms. join (with_last ms (close right_paren))) (regroup (closed (spell_all (arguments u us))))
    ∙ arguments-text (with_last ls l ++ closed (spell t)) (close comma) refl u us fs.0 fs.1
    ∙ ap (λ text. beside (with_each 44 (text ++ text_of u) (map text_of us)) 41) (term-and-special ls l e t f 44)
  where
    regroup : (rest : List Laid) → with_last ls l ++ closed (spell t ++ comma ∷ spell_all (arguments u us)) ≡ with_last (with_last ls l ++ closed (spell t)) (close comma) ++ closed (spell_all (arguments u us))
    regroup rest =
        ap (λ ms. with_last ls l ++ ms) (map-append close (spell t) (comma ∷ spell_all (arguments u us)))
        ∙ sym (append_assoc (with_last ls l) (closed (spell t)) (close comma ∷ closed (spell_all (arguments u us))))
        ∙ sym (append_assoc (with_last ls l ++ closed (spell t)) (close comma ∷ []) (closed (spell_all (arguments u us))))

name-paren : (w : Text) → join (with_last (close (word w) ∷ []) (close left_paren)) ≡ beside w 40
unfolding join join_after needs_space
name-paren w = refl

-- an operator over written arguments is written as over their texts
pub over-text : (w : Text) (ts : List RawTerm) → AllByRecursion IsEnded ts → text_of (over w ts) ≡ over_texts w (map text_of ts)
over-text w [] fs = join-one (close (word w))
over-text w (t ∷ ts) fs =
    ap (λ ms. join (close (word w) ∷ close left_paren ∷ ms)) (map-append close (spell_all (arguments t ts)) (right_paren ∷ []))
    ∙ arguments-text (close (word w) ∷ []) (close left_paren) refl t ts fs.0 fs.1
    ∙ ap (λ text. beside (with_each 44 (text ++ text_of t) (map text_of ts)) 41) (name-paren w)

-- Bindings.

-- bindings, each after a comma and a space
abbrev with_further : Text → List (Text × Text) → Text
with_further text [] = text
with_further text (p ∷ ps) = with_further (beside text 44 ++ (32 ∷ pair_text p)) ps

with_further-pairs : (text : Text) (ps : List (Text × Text)) → with_further text ps ≡ with_pairs false text ps
with_further-pairs text [] = refl
with_further-pairs text (p ∷ ps) =
    with_further-pairs (beside text 44 ++ (32 ∷ pair_text p)) ps
    ∙ ap (λ t. with_pairs false t ps) (sym (append_assoc (beside text 44) (32 ∷ []) (pair_text p)))

-- the texts of the two sides
abbrev pub texts_of : RawPair → Text × Text
texts_of b = (text_of b.left, text_of b.right)

abbrev spaced_term : RawTerm → List Laid
spaced_term t = after_space (closed (spell t))

-- a term behind a space
spaced-behind : (ls : List Laid) (l : Laid) (t : RawTerm) → join (with_last ls l ++ spaced_term t) ≡ join (with_last ls l) ++ (32 ∷ text_of t)
spaced-behind ls l t =
    ap (λ ps. join (with_last ls l ++ after_space (closed ps))) (spell-first t)
    ∙ join-last ls l (record { spaced = true; piece = first_of t }) (closed (behind_first t))
    ∙ ap (λ text. join (with_last ls l) ++ (32 ∷ text)) (join-after_space (closed (first_of t ∷ behind_first t)))
    ∙ ap (λ ps. join (with_last ls l) ++ (32 ∷ join (closed ps))) (sym (spell-first t))

arrow-text : (t : RawTerm) → join (arrow ∷ spaced_term t) ≡ goes_to ++ (32 ∷ text_of t)
arrow-text t = spaced-behind [] arrow t ∙ ap (λ text. text ++ (32 ∷ text_of t)) (join-one arrow)

pair-text : (b : RawPair) → join (laid_pair b) ≡ pair_text (texts_of b)
pair-text b =
    ap (λ ms. join (ms ++ (arrow ∷ spaced_term b.right))) (closed-last b.left)
    ∙ join-last (closed (before_last b.left)) (close (last_of b.left)) arrow (spaced_term b.right)
    ∙ ap (λ text. join (with_last (closed (before_last b.left)) (close (last_of b.left))) ++ (32 ∷ text)) (arrow-text b.right)
    ∙ ap (λ ms. join ms ++ (32 ∷ (goes_to ++ (32 ∷ text_of b.right)))) (sym (closed-last b.left))

-- what is spaced, behind a piece
spaced-list-behind : (ls : List Laid) (l m : Laid) (ms : List Laid) →
    join (with_last ls l ++ after_space (m ∷ ms)) ≡ join (with_last ls l) ++ (32 ∷ join (m ∷ ms))
spaced-list-behind ls l m ms =
    join-last ls l (record { spaced = true; piece = m.piece }) ms
    ∙ ap (λ text. join (with_last ls l) ++ (32 ∷ text)) (join-after_space (m ∷ ms))

-- the pieces of a spaced term, the last one apart
abbrev spaced_before : RawTerm → List Laid
spaced_before (name w) = []
spaced_before (call w ts) = record { spaced = true; piece = word w } ∷ closed (left_paren ∷ spell_all ts)
spaced_before (round t) = record { spaced = true; piece = left_paren } ∷ closed (spell t)
spaced_before (kind_variable x s ss) = record { spaced = true; piece = word x } ∷ closed (left_bracket ∷ word s ∷ before_bracket ss)

abbrev spaced_last : RawTerm → Laid
spaced_last (name w) = record { spaced = true; piece = word w }
spaced_last (call w ts) = close right_paren
spaced_last (round t) = close right_paren
spaced_last (kind_variable x s ss) = close right_bracket

spaced-split : (t : RawTerm) → spaced_term t ≡ with_last (spaced_before t) (spaced_last t)
spaced-split (name w) = refl
spaced-split (call w ts) = ap (λ ms. record { spaced = true; piece = word w } ∷ close left_paren ∷ ms) (map-append close (spell_all ts) (right_paren ∷ []))
spaced-split (round t) = ap (λ ms. record { spaced = true; piece = left_paren } ∷ ms) (map-append close (spell t) (right_paren ∷ []))
spaced-split (kind_variable x s ss) =
    ap (λ ps. record { spaced = true; piece = word x } ∷ close left_bracket ∷ close (word s) ∷ closed ps) (others-last ss)
    ∙ ap (λ ms. record { spaced = true; piece = word x } ∷ close left_bracket ∷ close (word s) ∷ ms) (map-append close (before_bracket ss) (right_bracket ∷ []))

spaced-ended : (t : RawTerm) → IsEnded t → IsFilled (spaced_last t).piece.text
spaced-ended (name w) f = f
spaced-ended (call w ts) f = f
spaced-ended (round t) f = f
spaced-ended (kind_variable x s ss) f = f

spaced-needs : (t : RawTerm) (c : ℕ) → needs_space (spaced_last t).piece (special (c ∷ [])) ≡ is_quoted_after false (spaced_last t).piece.text
unfolding needs_space
spaced-needs (name w) c = refl
spaced-needs (call w ts) c = refl
spaced-needs (round t) c = refl
spaced-needs (kind_variable x s ss) c = refl

-- the pieces of a pair but for the last one, with a space before the first or without
abbrev pair_front : Bool → RawPair → List Laid
pair_front spaced b = record { spaced = spaced; piece = first_of b.left } ∷ (closed (behind_first b.left) ++ (arrow ∷ spaced_before b.right))

abbrev pair_last : RawPair → Laid
pair_last b = spaced_last b.right

pair-front : (spaced : Bool) (b : RawPair) →
    record { spaced = spaced; piece = first_of b.left } ∷ (closed (behind_first b.left) ++ (arrow ∷ spaced_term b.right)) ≡ with_last (pair_front spaced b) (pair_last b)
pair-front spaced b =
    ap (λ ms. record { spaced = spaced; piece = first_of b.left } ∷ (closed (behind_first b.left) ++ (arrow ∷ ms))) (spaced-split b.right)
    ∙ ap (λ ms. record { spaced = spaced; piece = first_of b.left } ∷ ms) (sym (append_assoc (closed (behind_first b.left)) (arrow ∷ spaced_before b.right) (spaced_last b.right ∷ [])))

pair-split : (b : RawPair) → laid_pair b ≡ with_last (pair_front false b) (pair_last b)
pair-split b = ap (λ ps. closed ps ++ (arrow ∷ spaced_term b.right)) (spell-first b.left) ∙ pair-front false b

spaced-pair-split : (b : RawPair) → after_space (laid_pair b) ≡ with_last (pair_front true b) (pair_last b)
spaced-pair-split b = ap (λ ps. after_space (closed ps ++ (arrow ∷ spaced_term b.right))) (spell-first b.left) ∙ pair-front true b

-- a comma, a space and a pair
comma-pair : (ls : List Laid) (l : Laid) → IsFilled l.piece.text → needs_space l.piece comma ≡ is_quoted_after false l.piece.text → (b : RawPair) →
    join (with_last (with_last ls l) (close comma) ++ after_space (laid_pair b)) ≡ beside (join (with_last ls l)) 44 ++ (32 ∷ pair_text (texts_of b))
comma-pair ls l f needs b =
    ap (λ ps. join (with_last (with_last ls l) (close comma) ++ after_space (closed ps ++ (arrow ∷ spaced_term b.right)))) (spell-first b.left)
    ∙ spaced-list-behind (with_last ls l) (close comma) (close (first_of b.left)) (closed (behind_first b.left) ++ (arrow ∷ spaced_term b.right))
    ∙ ap (λ ps. join (with_last (with_last ls l) (close comma)) ++ (32 ∷ join (closed ps ++ (arrow ∷ spaced_term b.right)))) (sym (spell-first b.left))
    ∙ ap (λ text. join (with_last (with_last ls l) (close comma)) ++ (32 ∷ text)) (pair-text b)
    ∙ ap (λ text. text ++ (32 ∷ pair_text (texts_of b))) (special-behind ls l 44 f needs)

-- the value of the pair does not end with an empty piece
abbrev pub IsEndedPair : RawPair → Type 0
IsEndedPair b = IsEnded b.right

regrouped : (p : List Laid) (c : Laid) (front : List Laid) (l : Laid) (rest : List Laid) →
    p ++ (c ∷ ((front ++ l ∷ []) ++ rest)) ≡ ((p ++ c ∷ front) ++ l ∷ []) ++ rest
regrouped p c front l rest =
    ap (λ ms. p ++ (c ∷ ms)) (append_assoc front (l ∷ []) rest)
    ∙ sym (append_assoc p (c ∷ front) (l ∷ rest))
    ∙ sym (append_assoc (p ++ c ∷ front) (l ∷ []) rest)

regrouped-two : (p : List Laid) (c : Laid) (front : List Laid) (l : Laid) → (p ++ c ∷ front) ++ l ∷ [] ≡ (p ++ c ∷ []) ++ (front ++ l ∷ [])
regrouped-two p c front l = append_assoc p (c ∷ front) (l ∷ []) ∙ sym (append_assoc p (c ∷ []) (front ++ l ∷ []))

further-text : (ls : List Laid) (l : Laid) → IsFilled l.piece.text → ((c : ℕ) → needs_space l.piece (special (c ∷ [])) ≡ is_quoted_after false l.piece.text) →
    (bs : List RawPair) → AllByRecursion IsEndedPair bs →
    join (with_last (with_last ls l ++ laid_further bs) (close right_brace)) ≡ beside (with_further (join (with_last ls l)) (map texts_of bs)) 125
further-text ls l f needs [] fs = ap (λ ms. join (with_last ms (close right_brace))) (append-nil (with_last ls l)) ∙ special-behind ls l 125 f (needs 125)
further-text ls l f needs (b ∷ bs) fs =
    let front = with_last ls l ++ (close comma ∷ pair_front true b) in
    ap (λ ms. join (with_last (with_last ls l ++ (close comma ∷ ms ++ laid_further bs)) (close right_brace))) (spaced-pair-split b)
    ∙ ap (λ ms. join (with_last ms (close right_brace))) (regrouped (with_last ls l) (close comma) (pair_front true b) (pair_last b) (laid_further bs))
    ∙ further-text front (pair_last b) (spaced-ended b.right fs.0) (spaced-needs b.right) bs fs.1
    ∙ ap (λ text. beside (with_further text (map texts_of bs)) 125)
    (ap join (regrouped-two (with_last ls l) (close comma) (pair_front true b) (pair_last b))
    ∙ ap (λ ms. join (with_last (with_last ls l) (close comma) ++ ms)) (sym (spaced-pair-split b))
    ∙ comma-pair ls l f (needs 44) b)

special-list-behind : (ls : List Laid) (l m : Laid) (ms : List Laid) → l.piece.class ≡ Special → m.spaced ≡ false →
    join (with_last ls l ++ m ∷ ms) ≡ join (with_last ls l) ++ join (m ∷ ms)
special-list-behind ls l m ms e h =
    join-last ls l m ms
    ∙ ap (λ b. join (with_last ls l) ++ (space (b || needs_space l.piece m.piece) ++ join (m ∷ ms))) h
    ∙ ap (λ b. join (with_last ls l) ++ (space b ++ join (m ∷ ms))) (special-needs l.piece e m.piece)

brace-pair : (b : RawPair) → join (close left_brace ∷ laid_pair b) ≡ codes "{" ++ pair_text (texts_of b)
brace-pair b =
    ap (λ ps. join (close left_brace ∷ (closed ps ++ (arrow ∷ spaced_term b.right)))) (spell-first b.left)
    ∙ special-list-behind [] (close left_brace) (close (first_of b.left)) (closed (behind_first b.left) ++ (arrow ∷ spaced_term b.right)) refl refl
    ∙ ap (λ ps. join (close left_brace ∷ []) ++ join (closed ps ++ (arrow ∷ spaced_term b.right))) (sym (spell-first b.left))
    ∙ ap (λ text. join (close left_brace ∷ []) ++ text) (pair-text b)
    ∙ ap (λ text. text ++ pair_text (texts_of b)) (join-one (close left_brace))

braces : join (close left_brace ∷ close right_brace ∷ []) ≡ codes "{}"
unfolding join join_after needs_space
braces = refl

-- the text of bindings
pub bindings-text : (bs : List RawPair) → AllByRecursion IsEndedPair bs → join (laid_bindings bs) ≡ beside (with_pairs true (codes "{") (map texts_of bs)) 125
bindings-text [] fs = braces
bindings-text (b ∷ bs) fs =
    ap (λ ms. join (with_last (close left_brace ∷ (ms ++ laid_further bs)) (close right_brace))) (pair-split b)
    ∙ further-text (close left_brace ∷ pair_front false b) (pair_last b) (spaced-ended b.right fs.0) (spaced-needs b.right) bs fs.1
    ∙ ap (λ ms. beside (with_further (join (close left_brace ∷ ms)) (map texts_of bs)) 125) (sym (pair-split b))
    ∙ ap (λ text. beside (with_further text (map texts_of bs)) 125) (brace-pair b)
    ∙ ap (λ text. beside text 125) (with_further-pairs (codes "{" ++ pair_text (texts_of b)) (map texts_of bs))

-- the text of a term and bindings behind it
pub variant-text : (t : RawTerm) (bs : List RawPair) → join (closed (spell t) ++ after_space (laid_bindings bs)) ≡ text_of t ++ (32 ∷ join (laid_bindings bs))
variant-text t bs =
    ap (λ ms. join (ms ++ after_space (laid_bindings bs))) (closed-last t)
    ∙ spaced-list-behind (closed (before_last t)) (close (last_of t)) (close left_brace) (laid_pairs bs ++ (close right_brace ∷ []))
    ∙ ap (λ ms. join ms ++ (32 ∷ join (laid_bindings bs))) (sym (closed-last t))
