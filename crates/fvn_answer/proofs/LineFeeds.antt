-- Joined pieces have no line feed.
use Rattle.std.proofs.Common.{◌≡◌, ◌≢◌, ℕ, Bool, true, false, inl, inr, List, [], ◌∷◌, ◌++◌, refl, sym, subst}
use Rattle.std.specs.Prelude.{◌&&◌, ◌||◌}
use Rattle.std.specs.List.{AllByRecursion}
use Rattle.fvn_base.proofs.Membership.{contains_cases, contains_none}
use Rattle.fvn_lex.specs.Cut.{Piece}
use Rattle.fvn_lex.specs.Bytes.{is_printed, is_special, is_backquote, goes_on}
use Rattle.fvn_lex.specs.Parts.{goes_through}
use Rattle.fvn_lex.specs.Join.{IsPiece, needs_space, Laid, pieces, space, join_after, join}
use Rattle.fvn_lex.proofs.JoinLemmas.{piece-form}
use Rattle.fvn_answer.specs.Lines.{HasNoLineFeed}

-- each byte is another one
abbrev pub Free : List ℕ → Type 0
Free text = AllByRecursion (λ b. b ≢ 10) text

pub free-plain : (text : List ℕ) → Free text → HasNoLineFeed text
free-plain [] h c = absurd (contains_none 10 c)
free-plain (b ∷ text) h c = elim (contains_cases b text 10 c) [ inl e ↦ h.0 e | inr k ↦ free-plain text h.1 k ]

pub free-append : (v w : List ℕ) → Free v → Free w → Free (v ++ w)
free-append [] w h k = k
free-append (b ∷ v) w h k = (h.0, free-append v w h.1 k)

both : (a b : Bool) → (a && b) ≡ true → (a ≡ true) × (b ≡ true)
both true true e = (refl, refl)
both true false e = cc
both false true e = cc
both false false e = cc

goes-free : (quoted : Bool) (b : ℕ) → goes_on quoted b ≡ true → b ≢ 10
unfolding goes_on is_printed
goes-free quoted b h e = let n : goes_on quoted 10 ≡ true = subst (λ c. goes_on quoted c ≡ true) e h in cc

special-free : (b : ℕ) → is_special b ≡ true → b ≢ 10
unfolding is_special
special-free b h e = let n : is_special 10 ≡ true = subst (λ c. is_special c ≡ true) e h in cc

word-free : (quoted : Bool) (text : List ℕ) → goes_through quoted text ≡ true → Free text
word-free quoted [] h = tt
word-free quoted (b ∷ text) h =
    let p = both (goes_on quoted b) (goes_through (is_backquote b) text) h in
    (goes-free quoted b p.0, word-free (is_backquote b) text p.1)

pub piece-free : (p : Piece) → IsPiece p → Free p.text
piece-free p is = elim (piece-form p is) [
  | inl form ↦ word-free false p.text form.printed
  | inr form ↦ subst Free (sym form.text) (special-free form.byte form.special, tt)
]

space-free : (b : Bool) → Free (space b)
space-free true = (λ e. cc, tt)
space-free false = tt

after-free : (p : Piece) (laid : List Laid) → AllByRecursion IsPiece (pieces laid) → Free (join_after p laid)
unfolding join_after
after-free p [] h = tt
after-free p (l ∷ laid) h =
    free-append (space (l.spaced || needs_space p l.piece)) (l.piece.text ++ join_after l.piece laid) (space-free (l.spaced || needs_space p l.piece))
    (free-append l.piece.text (join_after l.piece laid) (piece-free l.piece h.0) (after-free l.piece laid h.1))

pub joined-plain : (laid : List Laid) → AllByRecursion IsPiece (pieces laid) → HasNoLineFeed (join laid)
unfolding join
joined-plain [] h = free-plain [] tt
joined-plain (l ∷ laid) h =
    free-plain (l.piece.text ++ join_after l.piece laid) (free-append l.piece.text (join_after l.piece laid) (piece-free l.piece h.0) (after-free l.piece laid h.1))
