-- The pieces of printed lines: what they spell, and that each is a token.
use Rattle.std.proofs.Common.{◌≡◌, ℕ, zero, suc, inl, inr, List, [], ◌∷◌, ◌++◌, Some, refl, sym, ap, ◌∙◌, subst, map, arith}
use Rattle.std.specs.Prelude.{IsTrue}
use Rattle.std.specs.List.{All, AllByRecursion}
use Rattle.fvn_lex.specs.Cut.{Piece}
use Rattle.fvn_lex.specs.Parts.{HasPieces}
use Rattle.fvn_lex.proofs.RowPieces.{has-pieces}
use Rattle.fvn_lex.specs.Join.{IsPiece, Laid, pieces, join}
use Rattle.fvn_lex.specs.Bytes.{is_special, is_printed, goes_on, begins_comment}
use Rattle.fvn_lex.proofs.JoinLemmas.{form-piece, join-read, pieces-append}
use Rattle.fvn_syntax.specs.Pieces.{word, special, comma, left_brace, right_brace}
use Rattle.fvn_syntax.specs.Raw.{RawTerm, spell}
use Rattle.fvn_problems.specs.Spelling.{RawPair, goes_to, spell_pair, spell_further, spell_pairs, spell_bindings}
use Rattle.fvn_answer.specs.Writing.{close}
use Rattle.fvn_answer.specs.Lines.{after_space, arrow, laid_pair, laid_further, laid_pairs, laid_bindings}

-- Layouts do not change the pieces.

pieces-closed : (ps : List Piece) → pieces (map close ps) ≡ ps
pieces-closed [] = refl
pieces-closed (p ∷ ps) = ap (λ qs. p ∷ qs) (pieces-closed ps)

pieces-spaced : (laid : List Laid) → pieces (after_space laid) ≡ pieces laid
pieces-spaced [] = refl
pieces-spaced (l ∷ laid) = refl

pieces-spaced_closed : (ps : List Piece) → pieces (after_space (map close ps)) ≡ ps
pieces-spaced_closed ps = pieces-spaced (map close ps) ∙ pieces-closed ps

pieces-pair : (b : RawPair) → pieces (laid_pair b) ≡ spell_pair goes_to b
pieces-pair b =
    pieces-append (map close (spell b.left)) (arrow ∷ after_space (map close (spell b.right)))
    ∙ ap (λ ps. ps ++ (word goes_to ∷ pieces (after_space (map close (spell b.right))))) (pieces-closed (spell b.left))
    ∙ ap (λ ps. spell b.left ++ (word goes_to ∷ ps)) (pieces-spaced_closed (spell b.right))

pieces-further : (bs : List RawPair) → pieces (laid_further bs) ≡ spell_further goes_to comma bs
pieces-further [] = refl
pieces-further (b ∷ bs) =
    ap (λ ps. comma ∷ ps) (
    pieces-append (after_space (laid_pair b)) (laid_further bs)
    ∙ ap (λ ps. ps ++ pieces (laid_further bs)) (pieces-spaced (laid_pair b) ∙ pieces-pair b)
    ∙ ap (λ ps. spell_pair goes_to b ++ ps) (pieces-further bs)
    )

pieces-pairs : (bs : List RawPair) → pieces (laid_pairs bs) ≡ spell_pairs goes_to comma bs
pieces-pairs [] = refl
pieces-pairs (b ∷ bs) =
    pieces-append (laid_pair b) (laid_further bs)
    ∙ ap (λ ps. ps ++ pieces (laid_further bs)) (pieces-pair b)
    ∙ ap (λ ps. spell_pair goes_to b ++ ps) (pieces-further bs)

pub pieces-bindings : (bs : List RawPair) → pieces (laid_bindings bs) ≡ spell_bindings bs
pieces-bindings bs =
    ap (λ ps. left_brace ∷ ps) (
    pieces-append (laid_pairs bs) (close right_brace ∷ [])
    ∙ ap (λ ps. ps ++ (right_brace ∷ [])) (pieces-pairs bs)
    )

pub pieces-variant : (t : RawTerm) (bs : List RawPair) → pieces (map close (spell t) ++ after_space (laid_bindings bs)) ≡ spell t ++ spell_bindings bs
pieces-variant t bs =
    pieces-append (map close (spell t)) (after_space (laid_bindings bs))
    ∙ ap (λ ps. ps ++ pieces (after_space (laid_bindings bs))) (pieces-closed (spell t))
    ∙ ap (λ ps. spell t ++ ps) (pieces-spaced (laid_bindings bs) ∙ pieces-bindings bs)

-- Each piece is a token.

abbrev pub Tokens : List Piece → Type 0
Tokens ps = AllByRecursion IsPiece ps

pub tokens-append : (ps qs : List Piece) → Tokens ps → Tokens qs → Tokens (ps ++ qs)
tokens-append [] qs p q = q
tokens-append (x ∷ ps) qs p q = (p.0, tokens-append ps qs p.1 q)

all-tokens : (ps : List Piece) → Tokens ps → All IsPiece ps
all-tokens [] h i d l = absurd (omega (arith, l))
all-tokens (p ∷ ps) h zero d l = h.0
all-tokens (p ∷ ps) h (suc i) d l = all-tokens ps h.1 i d (omega (arith, l))

pub joined-read : (laid : List Laid) (ps : List Piece) → pieces laid ≡ ps → Tokens ps → HasPieces (join laid) ps
joined-read laid ps e h = has-pieces (join laid) ps (join-read laid (subst (All IsPiece) (sym e) (all-tokens ps h)) ∙ ap Some e)

-- both sides are rows of tokens
abbrev pub PairTokens : RawPair → Type 0
PairTokens b = Tokens (spell b.left) × Tokens (spell b.right)

-- one of the special bytes
pub special-token : (b : ℕ) → IsTrue (is_special b) → IsPiece (special (b ∷ []))
special-token b h = form-piece (special (b ∷ [])) (inr (record { byte = b; text = refl; special = h; class = refl }))

comma-token : IsPiece comma
unfolding is_special
comma-token = special-token 44 refl

left_brace-token : IsPiece left_brace
unfolding is_special
left_brace-token = special-token 123 refl

right_brace-token : IsPiece right_brace
unfolding is_special
right_brace-token = special-token 125 refl

arrow-token : IsPiece (word goes_to)
unfolding goes_on is_printed is_special begins_comment
arrow-token = form-piece (word goes_to) (inl (record { some = λ e. (let f : 45 ∷ 45 ∷ 62 ∷ [] ≡ [] = e in cc); printed = refl; no_comment = refl; class = refl }))

pair-tokens : (b : RawPair) → PairTokens b → Tokens (spell_pair goes_to b)
pair-tokens b h = tokens-append (spell b.left) (word goes_to ∷ spell b.right) h.0 (arrow-token, h.1)

further-tokens : (bs : List RawPair) → AllByRecursion PairTokens bs → Tokens (spell_further goes_to comma bs)
further-tokens [] h = tt
further-tokens (b ∷ bs) h = (comma-token, tokens-append (spell_pair goes_to b) (spell_further goes_to comma bs) (pair-tokens b h.0) (further-tokens bs h.1))

pairs-tokens : (bs : List RawPair) → AllByRecursion PairTokens bs → Tokens (spell_pairs goes_to comma bs)
pairs-tokens [] h = tt
pairs-tokens (b ∷ bs) h = tokens-append (spell_pair goes_to b) (spell_further goes_to comma bs) (pair-tokens b h.0) (further-tokens bs h.1)

pub bindings-tokens : (bs : List RawPair) → AllByRecursion PairTokens bs → Tokens (spell_bindings bs)
bindings-tokens bs h =
    (left_brace-token, tokens-append (spell_pairs goes_to comma bs) (right_brace ∷ []) (pairs-tokens bs h) (right_brace-token, tt))
