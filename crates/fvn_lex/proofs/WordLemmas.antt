-- Words, byte by byte: how they are put together.
use Rattle.std.proofs.Common.{◌≡◌, ℕ, Bool, ◌&&◌, List, [], ◌∷◌, ◌++◌, refl, ap, sym, ◌∙◌}
use Rattle.std.proofs.Math.Bool.{and_assoc}
use Rattle.fvn_lex.specs.Bytes.{is_backquote, goes_on}
use Rattle.fvn_lex.specs.Parts.{goes_through, is_quoted_after}

pub goes_through-append : (q : Bool) (text more : List ℕ) →
    goes_through q (text ++ more) ≡ (goes_through q text && goes_through (is_quoted_after q text) more)
goes_through-append q [] more = refl
goes_through-append q (b ∷ text) more =
    ap (λ r. goes_on q b && r) (goes_through-append (is_backquote b) text more)
    ∙ sym (and_assoc (goes_on q b) (goes_through (is_backquote b) text) _)

pub is_quoted_after-append : (q : Bool) (text more : List ℕ) →
    is_quoted_after q (text ++ more) ≡ is_quoted_after (is_quoted_after q text) more
is_quoted_after-append q [] more = refl
is_quoted_after-append q (b ∷ text) more = is_quoted_after-append (is_backquote b) text more
