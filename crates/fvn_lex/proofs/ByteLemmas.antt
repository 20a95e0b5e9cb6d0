-- What follows of single bytes, and of the first bytes of a text.
use Rattle.std.proofs.Common.{◌≢◌, ◌≡◌, ℕ, ◌==◌, Bool, true, false, not, ◌&&◌, ◌||◌, List, [], ◌∷◌, ◌++◌, refl, arith}
use Rattle.std.proofs.lemmas.Bool.Decides.{nat_tests}
use Rattle.fvn_lex.specs.Bytes.{is_blank, is_special, is_printed, is_backquote, goes_on, begins_comment, begins_block}
use Rattle.fvn_lex.specs.Parts.{is_quoted_after, stops, ends_line}

pub printed-not_blank : (b : ℕ) → is_printed b ≡ true → is_blank b ≡ false
unfolding is_printed is_blank
printed-not_blank b h = grind (arith, nat_tests)

pub goes_on-printed : (q : Bool) (b : ℕ) → goes_on q b ≡ true → is_printed b ≡ true
unfolding goes_on
goes_on-printed q b h = grind (arith, nat_tests)

pub goes_on-not_special : (b : ℕ) → goes_on false b ≡ true → is_special b ≡ false
unfolding goes_on
goes_on-not_special b h = grind (arith, nat_tests)

pub goes_on-plain : (q : Bool) (b : ℕ) → is_printed b ≡ true → is_special b ≡ false → goes_on q b ≡ true
unfolding goes_on
goes_on-plain q b h k = grind (arith, nat_tests)

pub special-not_blank : (b : ℕ) → is_special b ≡ true → is_blank b ≡ false
unfolding is_special is_blank
special-not_blank b h = grind (arith, nat_tests)

pub dash-plain : (b : ℕ) → (b == 45 || b == 42) ≡ true → is_printed b && not (is_special b) ≡ true
unfolding is_special is_printed
dash-plain b h = grind (arith, nat_tests)

pub begins_comment-dash : (b : ℕ) (rest : List ℕ) → begins_comment (b ∷ rest) ≡ true → (b == 45 || b == 42) ≡ true
unfolding begins_comment
begins_comment-dash b [] h = grind (arith, nat_tests)
begins_comment-dash b (c ∷ []) h = grind (arith, nat_tests)
begins_comment-dash b (c ∷ d ∷ rest) h = grind (arith, nat_tests)

pub begins_comment-append : (text rest : List ℕ) → begins_comment text ≡ true → begins_comment (text ++ rest) ≡ true
unfolding begins_comment
begins_comment-append [] rest h = cc
begins_comment-append (a ∷ []) rest h = grind (arith, nat_tests)
begins_comment-append (a ∷ b ∷ []) rest h = grind (arith, nat_tests)
begins_comment-append (a ∷ b ∷ c ∷ text) rest h = h

pub begins_block-append : (text rest : List ℕ) → begins_block text ≡ true → begins_block (text ++ rest) ≡ true
unfolding begins_block
begins_block-append [] rest h = cc
begins_block-append (a ∷ []) rest h = grind (arith, nat_tests)
begins_block-append (a ∷ b ∷ []) rest h = grind (arith, nat_tests)
begins_block-append (a ∷ b ∷ c ∷ []) rest h = grind (arith, nat_tests)
begins_block-append (a ∷ b ∷ c ∷ d ∷ text) rest h = h

pub begins_block-comment : (text : List ℕ) → begins_block text ≡ true → begins_comment text ≡ true
unfolding begins_block begins_comment
begins_block-comment [] h = cc
begins_block-comment (a ∷ []) h = grind (arith, nat_tests)
begins_block-comment (a ∷ b ∷ []) h = grind (arith, nat_tests)
begins_block-comment (a ∷ b ∷ c ∷ []) h = grind (arith, nat_tests)
begins_block-comment (a ∷ b ∷ c ∷ d ∷ text) h = grind (arith, nat_tests)

begins_comment-second : (a b : ℕ) (rest : List ℕ) → begins_comment (a ∷ b ∷ rest) ≡ true →
    (b == 45 || b == 42) ≡ true
unfolding begins_comment
begins_comment-second a b [] h = grind (arith, nat_tests)
begins_comment-second a b (c ∷ rest) h = grind (arith, nat_tests)

begins_comment-third : (a b c : ℕ) (rest : List ℕ) → begins_comment (a ∷ b ∷ c ∷ rest) ≡ true →
    (c == 45 || c == 42) ≡ true
unfolding begins_comment
begins_comment-third a b c rest h = grind (arith, nat_tests)

dash-goes_on : (q : Bool) (b : ℕ) → (b == 45 || b == 42) ≡ true → goes_on q b ≡ true
unfolding goes_on is_special is_printed
dash-goes_on q b h = grind (arith, nat_tests)

pub dash-not_blank : (b : ℕ) → (b == 45 || b == 42) ≡ true → is_blank b ≡ false
unfolding is_blank
dash-not_blank b h = grind (arith, nat_tests)

pub dash-not_special : (b : ℕ) → (b == 45 || b == 42) ≡ true → is_special b ≡ false
unfolding is_special
dash-not_special b h = grind (arith, nat_tests)

pub false_when : (b : Bool) → (b ≡ true → ⊥) → b ≡ false
false_when true f = absurd (f refl)
false_when false f = refl

not_goes_on : (q : Bool) (b : ℕ) → not (goes_on q b) ≡ true → (b == 45 || b == 42) ≡ true → ⊥
not_goes_on q b stop dash = let h : goes_on q b ≡ true = dash-goes_on q b dash in cc

begins_comment-more : (a b c : ℕ) (text rest : List ℕ) → begins_comment (a ∷ b ∷ c ∷ text) ≡ false →
    begins_comment (a ∷ b ∷ c ∷ text ++ rest) ≡ false
unfolding begins_comment
begins_comment-more a b c text rest h = h

begins_comment-same : (a b c : ℕ) (text rest : List ℕ) →
    begins_comment (a ∷ b ∷ c ∷ (text ++ rest)) ≡ true → begins_comment (a ∷ b ∷ c ∷ text) ≡ true
unfolding begins_comment
begins_comment-same a b c text rest h = h

feed-dash : (b : ℕ) → (b == 10) ≡ true → (b == 45 || b == 42) ≡ true → ⊥
feed-dash b e h = grind (arith, nat_tests)

-- Where a word ends, no comment begins at its first byte that did not begin inside it.
pub begins_comment-word : (text rest : List ℕ) → text ≢ [] → begins_comment text ≡ false →
    stops (is_quoted_after false text) rest ≡ true → begins_comment (text ++ rest) ≡ false
begins_comment-word [] rest some plain stop = absurd (some refl)
begins_comment-word (a ∷ []) [] some plain stop = plain
begins_comment-word (a ∷ []) (b ∷ rest) some plain stop =
    false_when _ (λ h. not_goes_on (is_backquote a) b stop (begins_comment-second a b rest h))
begins_comment-word (a ∷ b ∷ []) [] some plain stop = plain
begins_comment-word (a ∷ b ∷ []) (c ∷ rest) some plain stop =
    false_when _ (λ h. not_goes_on (is_backquote b) c stop (begins_comment-third a b c rest h))
begins_comment-word (a ∷ b ∷ c ∷ text) rest some plain stop = begins_comment-more a b c text rest plain

-- Where a line ends, the bytes that begin a comment stand before its end.
pub begins_comment-line : (b : ℕ) (text rest : List ℕ) → ends_line rest ≡ true →
    begins_comment (b ∷ text ++ rest) ≡ true → begins_comment (b ∷ text) ≡ true
begins_comment-line a [] [] e h = h
begins_comment-line a [] (b ∷ rest) e h = absurd (feed-dash b e (begins_comment-second a b rest h))
begins_comment-line a (b ∷ []) [] e h = h
begins_comment-line a (b ∷ []) (c ∷ rest) e h = absurd (feed-dash c e (begins_comment-third a b c rest h))
begins_comment-line a (b ∷ c ∷ text) rest e h = begins_comment-same a b c text rest h

pub no_comment-no_block : (text : List ℕ) → begins_comment text ≡ false → begins_block text ≡ false
no_comment-no_block text plain =
    false_when _ (λ h. let k : begins_comment text ≡ true = begins_block-comment text h in cc)

pub feed-blank : (b : ℕ) → (b == 10) ≡ true → is_blank b ≡ true
unfolding is_blank
feed-blank b h = grind (arith, nat_tests)

pub begins_comment-nil : begins_comment [] ≡ true → ⊥
unfolding begins_comment
begins_comment-nil h = cc

-- Where a line ends, no parenthesis follows the bytes that begin a comment.
pub begins_block-line : (text rest : List ℕ) → begins_comment text ≡ true → begins_block text ≡ false →
    ends_line rest ≡ true → begins_block (text ++ rest) ≡ false
unfolding begins_comment begins_block
begins_block-line [] rest h k e = cc
begins_block-line (a ∷ []) rest h k e = grind (arith, nat_tests)
begins_block-line (a ∷ b ∷ []) rest h k e = grind (arith, nat_tests)
begins_block-line (a ∷ b ∷ c ∷ []) [] h k e = k
begins_block-line (a ∷ b ∷ c ∷ []) (d ∷ rest) h k e = grind (arith, nat_tests)
begins_block-line (a ∷ b ∷ c ∷ d ∷ text) rest h k e = k

pub special-printed : (b : ℕ) → is_special b ≡ true → is_printed b ≡ true
unfolding is_special is_printed
special-printed b h = grind (arith, nat_tests)

pub printed-goes_on : (b : ℕ) → is_printed b ≡ true → is_special b ≡ false → goes_on false b ≡ true
printed-goes_on b h k = goes_on-plain false b h k

pub not_blank-not_feed : (b : ℕ) → is_blank b ≡ false → (b == 10) ≡ false
unfolding is_blank
not_blank-not_feed b h = grind (arith, nat_tests)

pub dash-printed : (b : ℕ) → (b == 45 || b == 42) ≡ true → is_printed b ≡ true
unfolding is_printed
dash-printed b h = grind (arith, nat_tests)

pub begins_block-nil : begins_block [] ≡ true → ⊥
unfolding begins_block
begins_block-nil h = cc
