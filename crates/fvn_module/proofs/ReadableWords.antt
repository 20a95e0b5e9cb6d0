-- The tokens of an operator's name, joined, are a word.
use Rattle.std.proofs.Common.{◌≡◌, ◌≢◌, ℕ, ◌==◌, ◌⊎◌, inl, inr, Bool, true, false, not, ◌&&◌, List, [], ◌∷◌, ◌++◌, length, refl, sym, ap, subst, ◌∙◌, arith}
use Rattle.std.specs.Prelude.{codes, slice_index_or, if◌then◌else◌}
use Rattle.std.specs.List.{Contains}
use Rattle.std.specs.Str.{bytes_eq}
use Rattle.std.proofs.lemmas.Bool.{and_from, and_parts, eqb-true}
use Rattle.std.proofs.lemmas.Bool.Decides.{nat_tests}
use Rattle.std.proofs.lemmas.List.{append-nil}
use Rattle.fvn_base.proofs.Membership.{contains_here, contains_later}
use Rattle.fvn_lex.specs.declared.token.Class.{Class}
use Rattle.fvn_lex.specs.declared.token.Class.TheVariants.{Word, Special, Dot}
use Rattle.fvn_lex.specs.Bytes.{is_special, is_printed, is_backquote, goes_on, begins_comment}
use Rattle.fvn_lex.specs.Cut.{Piece}
use Rattle.fvn_lex.specs.Parts.{goes_through, is_quoted_after, class_of, IsWordPiece, IsSpecialPiece}
use Rattle.fvn_lex.specs.Join.{IsPiece}
use Rattle.fvn_lex.proofs.WordLemmas.{goes_through-append}
use Rattle.fvn_lex.proofs.JoinLemmas.{form-piece, piece-form}
use Rattle.fvn_syntax.specs.Pieces.{Text, word, is_word_class, is_word}
use Rattle.fvn_module_syntax.specs.Words.{begins_with_underscore, ends_with_underscore, are_apart, touch_after, touch}
use Rattle.fvn_module_syntax.specs.Written.{NotEmpty}
use Rattle.fvn_module_syntax.specs.Words.{is_stop}
use Rattle.fvn_module_names.specs.Names.{quoted, joined}

-- Bytes.

goes_on-quoted : (q : Bool) (b : ℕ) → goes_on false b ≡ true → goes_on q b ≡ true
unfolding goes_on
goes_on-quoted q b h = grind (arith, nat_tests)

goes_on-backquote : goes_on false 96 ≡ true
unfolding goes_on is_printed is_special
goes_on-backquote = refl

goes_on-special : (b : ℕ) → is_special b ≡ true → goes_on true b ≡ true
unfolding goes_on is_printed is_special
goes_on-special b h = grind (arith, nat_tests)

-- what goes on with no word before it goes on with any
goes_through-quoted : (q : Bool) (text : Text) → goes_through false text ≡ true → goes_through q text ≡ true
goes_through-quoted q [] h = refl
goes_through-quoted q (b ∷ text) h =
    let e = and_parts (goes_on false b) (goes_through (is_backquote b) text) h in
    and_from (goes_on q b) (goes_through (is_backquote b) text) (goes_on-quoted q b e.0) e.1

goes_through-both : (text more : Text) → goes_through false text ≡ true → goes_through false more ≡ true →
    goes_through false (text ++ more) ≡ true
goes_through-both text more h k =
    goes_through-append false text more
    ∙ and_from (goes_through false text) (goes_through (is_quoted_after false text) more) h (goes_through-quoted (is_quoted_after false text) more k)

-- Comments.

-- a byte that stands in no beginning of a comment
abbrev Breaks : ℕ → Type 0
Breaks b = (b == 95) ≡ true ⊎ (b == 96) ≡ true

comment-broken : (text : Text) (b : ℕ) (rest : Text) → Breaks b → begins_comment text ≡ false → begins_comment (text ++ (b ∷ rest)) ≡ false
unfolding begins_comment
comment-broken [] b rest h k = grind (arith, nat_tests)
comment-broken (x ∷ []) b rest h k = grind (arith, nat_tests)
comment-broken (x ∷ y ∷ []) b rest h k = grind (arith, nat_tests)
comment-broken (x ∷ y ∷ z ∷ text) b rest h k = k

comment-ended : (text rest : Text) → ends_with_underscore text ≡ true → begins_comment text ≡ false → begins_comment (text ++ rest) ≡ false
unfolding begins_comment
comment-ended [] rest h k = cc
comment-ended (x ∷ []) rest h k = grind (arith, nat_tests)
comment-ended (x ∷ y ∷ []) rest h k = grind (arith, nat_tests)
comment-ended (x ∷ y ∷ z ∷ text) rest h k = k

comment-quoted : (text : Text) → begins_comment (96 ∷ text) ≡ false
unfolding begins_comment
comment-quoted text = refl

-- Classes.

append-some : (text rest : Text) → text ≢ [] → text ++ rest ≢ []
append-some [] rest h = absurd (h refl)
append-some (b ∷ text) rest h = λ e. (let g = e in cc)

class-append : (text rest : Text) → text ≢ [] → class_of text ≡ Word → class_of (text ++ rest) ≡ Word
class-append [] rest h k = absurd (h refl)
class-append (b ∷ []) [] h k = k
class-append (b ∷ []) (c ∷ rest) h k = refl
class-append (b ∷ c ∷ text) rest h k = refl

-- The tokens of a name.

-- a token that is not the dot
pub record IsToken (p : Piece) : Type 0 where
  pub piece : IsPiece p
  pub no_stop : is_stop p ≡ false

-- a text that is a word, and no dot
record IsWordText (text : Text) : Type 0 where
  some : text ≢ []
  printed : goes_through false text ≡ true
  no_comment : begins_comment text ≡ false
  class : class_of text ≡ Word

-- how a token stands in a name, by its class
abbrev quoted_as : Class → Text → Text
quoted_as c u = if is_word_class c then u else codes "`" ++ u

class-dot : (u : Text) → Dot ≡ class_of u → bytes_eq u (codes ".") ≡ true
class-dot [] h = cc
class-dot (b ∷ c ∷ u) h = cc
class-dot (b ∷ []) h = go (b == 46) refl where
  go : (t : Bool) → (b == 46) ≡ t → bytes_eq (b ∷ []) (codes ".") ≡ true
  go true e = let n : b ≡ 46 = eqb-true b 46 e in subst (λ x. bytes_eq (x ∷ []) (codes ".") ≡ true) (sym n) refl
  go false e = let g = rw e at h in cc

class-special : (u : Text) → Special ≡ class_of u → ⊥
class-special [] h = cc
class-special (b ∷ c ∷ u) h = cc
class-special (b ∷ []) h = go (b == 46) refl where
  go : (t : Bool) → (b == 46) ≡ t → ⊥
  go true e = let g = rw e at h in cc
  go false e = let g = rw e at h in cc

special-part : (u : Text) (b : ℕ) → u ≡ b ∷ [] → is_special b ≡ true → IsWordText (96 ∷ u)
special-part u b e h = subst (λ x. IsWordText (96 ∷ x)) (sym e) (record {
  some = λ k. (let g = k in cc);
  printed = and_from (goes_on false 96) (goes_on true b && true) goes_on-backquote (and_from (goes_on true b) true (goes_on-special b h) refl);
  no_comment = comment-quoted (b ∷ []);
  class = refl;
})

part-of : (c : Class) (u : Text) → IsWordPiece (record { class = c; text = u }) ⊎ IsSpecialPiece (record { class = c; text = u }) →
    is_stop (record { class = c; text = u }) ≡ false → IsWordText (quoted_as c u)
part-of Word u (inl w) n = record { some = w.some; printed = w.printed; no_comment = w.no_comment; class = sym w.class }
part-of Word u (inr s) n = absurd (let e = s.class in cc)
part-of Special u (inl w) n = absurd (class-special u w.class)
part-of Special u (inr s) n = special-part u s.byte s.text s.special
part-of Dot u (inl w) n = absurd (let e = class-dot u w.class in let g : bytes_eq u (codes ".") ≡ false = n in cc)
part-of Dot u (inr s) n = absurd (let e = s.class in cc)

token-part : (p : Piece) → IsToken p → IsWordText (quoted p)
token-part p h = part-of p.class p.text (piece-form p h.piece) h.no_stop

-- Neighbours.

-- a piece that is no word stands behind a backquote
quoted-other : (c : Class) (u : Text) → is_word_class c ≡ false → quoted_as c u ≡ 96 ∷ u
quoted-other Word u h = cc
quoted-other Special u h = refl
quoted-other Dot u h = refl

quoted-word : (c : Class) (u : Text) → is_word_class c ≡ true → quoted_as c u ≡ u
quoted-word Word u h = refl
quoted-word Special u h = cc
quoted-word Dot u h = cc

begins-underscore : (u : Text) → begins_with_underscore u ≡ true → (t : Text) × (u ≡ 95 ∷ t)
begins-underscore [] h = absurd (let g = h in cc)
begins-underscore (b ∷ u) h =
    let e = (and_parts (not (length (b ∷ u) == 0)) (slice_index_or (b ∷ u) 0 0 == 95) h).1 in
    (u, ap (λ x. x ∷ u) (eqb-true b 95 e))

-- what stands before the next token begins no comment together with it
no-comment : (p q : Piece) (rest : Text) → are_apart p q ≡ false → IsWordText (quoted p) → begins_comment (quoted p ++ (quoted q ++ rest)) ≡ false
no-comment p q rest h part = go (is_word p) (is_word q) (ends_with_underscore p.text) (begins_with_underscore q.text) refl refl refl refl where
  go : (a b c d : Bool) → is_word p ≡ a → is_word q ≡ b → ends_with_underscore p.text ≡ c → begins_with_underscore q.text ≡ d →
      begins_comment (quoted p ++ (quoted q ++ rest)) ≡ false
  go false b c d e f g i =
      subst (λ x. begins_comment (x ++ (quoted q ++ rest)) ≡ false) (sym (quoted-other p.class p.text e)) (comment-quoted (p.text ++ (quoted q ++ rest)))
  go true false c d e f g i =
      subst (λ x. begins_comment (quoted p ++ (x ++ rest)) ≡ false) (sym (quoted-other q.class q.text f))
      (comment-broken (quoted p) 96 (q.text ++ rest) (inr refl) part.no_comment)
  go true true true d e f g i =
      let is = quoted-word p.class p.text e in
      subst (λ x. begins_comment (x ++ (quoted q ++ rest)) ≡ false) (sym is)
      (comment-ended p.text (quoted q ++ rest) g (subst (λ x. begins_comment x ≡ false) is part.no_comment))
  go true true false true e f g i =
      let t = begins-underscore q.text i in
      subst (λ x. begins_comment (quoted p ++ (x ++ rest)) ≡ false) (sym (quoted-word q.class q.text f ∙ t.1))
      (comment-broken (quoted p) 95 (t.0 ++ rest) (inl refl) part.no_comment)
  go true true false false e f g i = let k = rw (e, f, g, i) at h in cc

touch-cases : (p q : Piece) (ps : List Piece) → touch_after p (q ∷ ps) ≡ true → (are_apart p q ≡ false) × (touch_after q ps ≡ true)
touch-cases p q ps h = go (are_apart p q) refl where
  go : (b : Bool) → are_apart p q ≡ b → (are_apart p q ≡ false) × (touch_after q ps ≡ true)
  go true e = let g = rw e at h in cc
  go false e = (e, rw e at h)

joined-part : (p : Piece) (ps : List Piece) → ((q : Piece) → Contains (p ∷ ps) q → IsToken q) → touch_after p ps ≡ true → IsWordText (joined (p ∷ ps))
joined-part p [] h t = subst IsWordText (sym (append-nil (quoted p))) (token-part p (h p (contains_here p [])))
joined-part p (q ∷ ps) h t =
    let first = token-part p (h p (contains_here p (q ∷ ps))) in
    let two = touch-cases p q ps t in
    let rest = joined-part q ps (λ r c. h r (contains_later p (q ∷ ps) r c)) two.1 in
    record {
      some = append-some (quoted p) (joined (q ∷ ps)) first.some;
      printed = goes_through-both (quoted p) (joined (q ∷ ps)) first.printed rest.printed;
      no_comment = no-comment p q (joined ps) two.0 first;
      class = class-append (quoted p) (joined (q ∷ ps)) first.some first.class;
    }

-- The name that tokens make is a word, where any two words among them that stand side by side touch at an underscore.
pub joined-word : (ps : List Piece) → NotEmpty ps → ((p : Piece) → Contains ps p → IsToken p) → touch ps ≡ true → IsPiece (word (joined ps))
joined-word [] n h t = absurd n
joined-word (p ∷ ps) n h t =
    let part = joined-part p ps h t in
    form-piece (word (joined (p ∷ ps)))
    (inl (record { some = part.some; printed = part.printed; no_comment = part.no_comment; class = sym part.class }))
