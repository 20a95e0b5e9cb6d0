-- The reader of forms reads each term that is spelled, up to what is left behind it.
use Rattle.std.proofs.Common.{◌≡◌, Bool, true, false, ◌&&◌, List, [], ◌∷◌, ◌++◌, Some, None, refl, sym, ap, ◌∙◌, append_assoc}
use Rattle.std.specs.Prelude.{codes, if◌then◌else◌}
use Rattle.fvn_lex.specs.Cut.{Piece}
use Rattle.fvn_syntax.specs.declared.form.Mark.{Mark}
use Rattle.fvn_syntax.specs.declared.form.Mark.TheVariants.{Round, Call}
use Rattle.fvn_syntax.specs.declared.form.Spot.{Spot}
use Rattle.fvn_syntax.specs.declared.form.Spot.TheVariants.{Wanted, Named, SortWanted, SortNamed, Whole}
use Rattle.fvn_syntax.specs.Pieces.{Text, word, left_paren, right_paren, left_bracket, right_bracket, comma, is_special, is_colon_name}
use Rattle.fvn_syntax.specs.Raw.{RawTerm, RawTerms, name, call, round, kind_variable, last, and, spell, spell_all, spell_others, IsWritten, AreWritten, EndsBefore, IsTermBefore}
use Rattle.fvn_syntax.specs.inner.Form.{behind, step, follow, is_closed, is_whole, left_behind}

pub left_behind-nil : (ms : List Mark) (spot : Spot) → left_behind ms spot [] ≡ (if is_closed ms && is_whole spot then Some [] else None)
unfolding left_behind
left_behind-nil ms spot = refl

pub left_behind-cons : (ms : List Mark) (spot : Spot) (p : Piece) (ps : List Piece) →
    left_behind ms spot (p ∷ ps) ≡ follow (p ∷ ps) (step ms p spot) (λ next at. left_behind next at ps)
unfolding left_behind
left_behind-cons ms spot p ps = refl

step-named : (ms : List Mark) (p : Piece) (c : Bool) → is_special (codes "(") p ≡ false → (c ≡ true → is_special (codes "[") p ≡ false) →
    step ms p (Named c) ≡ behind p ms
step-named ms p true n k = rw (n, k refl) refl
step-named ms p false n k = rw n refl

named-whole : (ms : List Mark) (w : Text) (rest : List Piece) → EndsBefore rest (name w) →
    left_behind ms (Named (is_colon_name w)) rest ≡ left_behind ms Whole rest
named-whole ms w [] e = left_behind-nil ms (Named (is_colon_name w)) ∙ sym (left_behind-nil ms Whole)
named-whole ms w (p ∷ ps) e =
    left_behind-cons ms (Named (is_colon_name w)) p ps
    ∙ ap (λ s. follow (p ∷ ps) s (λ next at. left_behind next at ps)) (step-named ms p (is_colon_name w) e.0 e.1)
    ∙ sym (left_behind-cons ms Whole p ps)

pub ends-close : (t : RawTerm) (rest : List Piece) → EndsBefore (right_paren ∷ rest) t
ends-close (name w) rest = (refl, λ _. refl)
ends-close (call w ts) rest = tt
ends-close (round t) rest = tt
ends-close (kind_variable x s ss) rest = tt

pub ends-comma : (t : RawTerm) (rest : List Piece) → EndsBefore (comma ∷ rest) t
ends-comma (name w) rest = (refl, λ _. refl)
ends-comma (call w ts) rest = tt
ends-comma (round t) rest = tt
ends-comma (kind_variable x s ss) rest = tt

pub ends-nil : (t : RawTerm) → EndsBefore [] t
ends-nil (name w) = (tt, λ _. tt)
ends-nil (call w ts) = tt
ends-nil (round t) = tt
ends-nil (kind_variable x s ss) = tt

read-others : (ss : List Text) (ms : List Mark) (rest : List Piece) → left_behind ms SortNamed (spell_others ss ++ rest) ≡ left_behind ms Whole rest
read-others [] ms rest = left_behind-cons ms SortNamed right_bracket rest
read-others (s ∷ ss) ms rest =
    left_behind-cons ms SortNamed comma (word s ∷ (spell_others ss ++ rest))
    ∙ left_behind-cons ms SortWanted (word s) (spell_others ss ++ rest)
    ∙ read-others ss ms rest

bracketed : (x : Text) (ms : List Mark) (ps : List Piece) → is_colon_name x ≡ true →
    left_behind ms (Named (is_colon_name x)) (left_bracket ∷ ps) ≡ left_behind ms SortWanted ps
bracketed x ms ps h = left_behind-cons ms (Named (is_colon_name x)) left_bracket ps ∙ rw h refl

mutual
  pub read-term : (t : RawTerm) → IsWritten t → (ms : List Mark) (rest : List Piece) → EndsBefore rest t →
      left_behind ms Wanted (spell t ++ rest) ≡ left_behind ms Whole rest
  read-term (name w) h ms rest e = left_behind-cons ms Wanted (word w) rest ∙ named-whole ms w rest e
  read-term (round t) h ms rest e =
      left_behind-cons ms Wanted left_paren ((spell t ++ (right_paren ∷ [])) ++ rest)
      ∙ ap (left_behind (Round ∷ ms) Wanted) (append_assoc (spell t) (right_paren ∷ []) rest)
      ∙ read-term t h (Round ∷ ms) (right_paren ∷ rest) (ends-close t rest)
      ∙ left_behind-cons (Round ∷ ms) Whole right_paren rest
  read-term (kind_variable x s ss) h ms rest e =
      left_behind-cons ms Wanted (word x) (left_bracket ∷ word s ∷ (spell_others ss ++ rest))
      ∙ bracketed x ms (word s ∷ (spell_others ss ++ rest)) h
      ∙ left_behind-cons ms SortWanted (word s) (spell_others ss ++ rest)
      ∙ read-others ss ms rest
  read-term (call w ts) h ms rest e =
      left_behind-cons ms Wanted (word w) (left_paren ∷ ((spell_all ts ++ (right_paren ∷ [])) ++ rest))
      ∙ left_behind-cons ms (Named (is_colon_name w)) left_paren ((spell_all ts ++ (right_paren ∷ [])) ++ rest)
      ∙ ap (left_behind (Call ∷ ms) Wanted) (append_assoc (spell_all ts) (right_paren ∷ []) rest)
      ∙ read-all ts h ms rest

  pub read-all : (ts : RawTerms) → AreWritten ts → (ms : List Mark) (rest : List Piece) →
      left_behind (Call ∷ ms) Wanted (spell_all ts ++ (right_paren ∷ rest)) ≡ left_behind ms Whole rest
  read-all (last t) h ms rest =
      read-term t h (Call ∷ ms) (right_paren ∷ rest) (ends-close t rest)
      ∙ left_behind-cons (Call ∷ ms) Whole right_paren rest
  read-all (and t ts) h ms rest =
      ap (left_behind (Call ∷ ms) Wanted) (append_assoc (spell t) (comma ∷ spell_all ts) (right_paren ∷ rest))
      ∙ read-term t h.0 (Call ∷ ms) (comma ∷ (spell_all ts ++ (right_paren ∷ rest))) (ends-comma t (spell_all ts ++ (right_paren ∷ rest)))
      ∙ left_behind-cons (Call ∷ ms) Whole comma (spell_all ts ++ (right_paren ∷ rest))
      ∙ read-all ts h.1 ms rest

whole-end : (rest : List Piece) → left_behind [] Whole rest ≡ Some rest
whole-end [] = left_behind-nil [] Whole
whole-end (p ∷ ps) = left_behind-cons [] Whole p ps

-- a term with which the pieces begin is read
pub term-read : (rest ps : List Piece) → IsTermBefore rest ps → left_behind [] Wanted ps ≡ Some rest
term-read rest ps h = ap (left_behind [] Wanted) h.spelled ∙ read-term h.term h.written [] rest h.ends ∙ whole-end rest
