-- White space at the end of a text changes nothing.
use Rattle.std.proofs.Common.{◌≡◌, ℕ, ◌+◌, ◌==◌, Bool, true, false, if◌then◌else◌, List, [], ◌∷◌, ◌++◌, refl, ap, sym, ◌∙◌, Ok, arith}
use Rattle.std.proofs.lemmas.Bool.Decides.{nat_tests}
use Rattle.fvn_lex.specs.declared.cut.Place.{Place}
use Rattle.fvn_lex.specs.declared.cut.Place.TheVariants.{Between, Comment, Inside}
use Rattle.fvn_lex.specs.Bytes.{is_blank, goes_on, begins_comment, begins_block}
use Rattle.fvn_lex.specs.Spans.{Lexed}
use Rattle.fvn_lex.specs.inner.Machine.{Move, Go, Stop, prepend, begin, advance, follow, rest_of, lex_from}
use Rattle.fvn_lex.specs.Cut.{lex}
use Rattle.fvn_lex.proofs.ByteLemmas.{false_when, goes_on-printed, printed-not_blank}
use Rattle.fvn_lex.proofs.Reading.{lex_from-nil, lex_from-cons}

begins_comment-trail : (text : List ℕ) (b : ℕ) → is_blank b ≡ true →
    begins_comment (text ++ b ∷ []) ≡ begins_comment text
unfolding begins_comment is_blank
begins_comment-trail [] b h = grind (arith, nat_tests)
begins_comment-trail (x ∷ []) b h = grind (arith, nat_tests)
begins_comment-trail (x ∷ y ∷ []) b h = grind (arith, nat_tests)
begins_comment-trail (x ∷ y ∷ z ∷ text) b h = refl

begins_block-trail : (text : List ℕ) (b : ℕ) → is_blank b ≡ true →
    begins_block (text ++ b ∷ []) ≡ begins_block text
unfolding begins_block is_blank
begins_block-trail [] b h = grind (arith, nat_tests)
begins_block-trail (x ∷ []) b h = grind (arith, nat_tests)
begins_block-trail (x ∷ y ∷ []) b h = grind (arith, nat_tests)
begins_block-trail (x ∷ y ∷ z ∷ []) b h = grind (arith, nat_tests)
begins_block-trail (x ∷ y ∷ z ∷ w ∷ text) b h = refl

begin-trail : (n c : ℕ) (text : List ℕ) (b : ℕ) → is_blank b ≡ true →
    begin n c (text ++ b ∷ []) ≡ begin n c text
unfolding begin
begin-trail n c text b h = rw (begins_comment-trail text b h, begins_block-trail text b h) refl

advance-trail : (place : Place) (n c : ℕ) (text : List ℕ) (b : ℕ) → is_blank b ≡ true →
    advance place n c (text ++ b ∷ []) ≡ advance place n c text
unfolding advance
advance-trail Between n c text b h = begin-trail n c text b h
advance-trail Comment n c text b h = refl
advance-trail (Inside start kind quoted) n c text b h = rw (begin-trail n c text b h) refl

follow-same : (m : Move) (f g : Place → Lexed) → ((next : Place) → f next ≡ g next) → follow m f ≡ follow m g
follow-same (Go made next) f g same = ap (prepend made) (same next)
follow-same (Stop fault) f g same = refl

blank-stops : (q : Bool) (b : ℕ) → is_blank b ≡ true → goes_on q b ≡ false
blank-stops q b h =
    false_when _ (λ on. let k : is_blank b ≡ false = printed-not_blank b (goes_on-printed q b on) in cc)

rest_of-either : (feed : Bool) (n : ℕ) → rest_of (if feed then Between else Comment) n ≡ []
rest_of-either true n = refl
rest_of-either false n = refl

last-blank : (place : Place) (n b : ℕ) → is_blank b ≡ true → lex_from place n (b ∷ []) ≡ Ok (rest_of place n)
unfolding lex_from advance begin
last-blank Between n b h = rw h refl
last-blank Comment n b h = ap Ok (rest_of-either (b == 10) (n + 1))
last-blank (Inside start kind quoted) n b h = rw (blank-stops quoted b h, h) refl

lex_from-trail : (bytes : List ℕ) (place : Place) (n b : ℕ) → is_blank b ≡ true →
    lex_from place n (bytes ++ b ∷ []) ≡ lex_from place n bytes
lex_from-trail [] place n b h = last-blank place n b h ∙ sym (lex_from-nil place n)
lex_from-trail (c ∷ bytes) place n b h =
    lex_from-cons place n c (bytes ++ b ∷ [])
    ∙ ap (λ m. follow m (λ next. lex_from next (n + 1) (bytes ++ b ∷ []))) (advance-trail place n c (c ∷ bytes) b h)
    ∙ follow-same (advance place n c (c ∷ bytes)) _ _ (λ next. lex_from-trail bytes next (n + 1) b h)
    ∙ sym (lex_from-cons place n c bytes)

pub lex-trail : (bytes : List ℕ) (b : ℕ) → is_blank b ≡ true → lex (bytes ++ b ∷ []) ≡ lex bytes
unfolding lex
lex-trail bytes b h = lex_from-trail bytes Between 0 b h
