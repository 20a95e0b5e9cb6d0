-- Single pieces that pass a test.
use Rattle.std.proofs.Common.{◌≡◌, Bool, true, false, ◌&&◌, refl, ap, ◌∙◌}
use Rattle.std.specs.Str.{bytes_eq}
use Rattle.std.proofs.lemmas.Slice.Eq.{bytes_eq-Decides}
use Rattle.fvn_lex.specs.declared.token.Class.{Class}
use Rattle.fvn_lex.specs.declared.token.Class.TheVariants.{Word, Special, Dot}
use Rattle.fvn_lex.specs.Cut.{Piece}
use Rattle.fvn_syntax.specs.Pieces.{Text, word, special, is_word_class, is_special_class, is_word, is_name, is_special}

abbrev piece : Class → Text → Piece
piece c u = record { class = c; text = u }

pub bytes_eq-refl : (t : Text) → bytes_eq t t ≡ true
bytes_eq-refl t = (bytes_eq-Decides t t).1 refl

pub bytes_eq-is : (t u : Text) → bytes_eq t u ≡ true → t ≡ u
bytes_eq-is t u = (bytes_eq-Decides t u).0

-- both of two tests
pub and-left : (a b : Bool) → a && b ≡ true → a ≡ true
and-left true b h = refl
and-left false b h = cc

pub and-right : (a b : Bool) → a && b ≡ true → b ≡ true
and-right true b h = h
and-right false b h = cc

-- not both of two tests, but the first
pub and-other : (a b : Bool) → a && b ≡ false → a ≡ true → b ≡ false
and-other true b h e = h
and-other false b h e = cc

word-class : (c : Class) (u : Text) → is_word_class c ≡ true → piece c u ≡ word u
word-class Word u h = refl
word-class Special u h = cc
word-class Dot u h = cc

special-class : (c : Class) (u : Text) → is_special_class c ≡ true → piece c u ≡ special u
special-class Word u h = cc
special-class Special u h = refl
special-class Dot u h = cc

pub word-is : (p : Piece) → is_word p ≡ true → p ≡ word p.text
word-is p h = word-class p.class p.text h

pub name-is : (t : Text) (p : Piece) → is_name t p ≡ true → p ≡ word t
name-is t p h =
    let e : p ≡ word p.text = word-class p.class p.text (and-left (is_word_class p.class) (bytes_eq p.text t) h) in
    let f : p.text ≡ t = bytes_eq-is p.text t (and-right (is_word_class p.class) (bytes_eq p.text t) h) in
    e ∙ ap word f

pub special-is : (t : Text) (p : Piece) → is_special t p ≡ true → p ≡ special t
special-is t p h =
    let e : p ≡ special p.text = special-class p.class p.text (and-left (is_special_class p.class) (bytes_eq p.text t) h) in
    let f : p.text ≡ t = bytes_eq-is p.text t (and-right (is_special_class p.class) (bytes_eq p.text t) h) in
    e ∙ ap special f

pub name-word : (t : Text) → is_name t (word t) ≡ true
name-word t = bytes_eq-refl t
