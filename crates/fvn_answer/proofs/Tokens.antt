-- The pieces of written values are tokens, and written values are written terms.
use Rattle.std.proofs.Common.{◌≡◌, ◌≢◌, ◌+◌, ◌-◌, ◌<◌, ◌≤◌, ◌^◌, inl, inr, Bool, true, false, List, [], ◌∷◌, ◌++◌, length, take, get_or, refl, sym, ap, ◌∙◌, arith}
use Rattle.std.specs.Prelude.{nat_lt, IsTrue}
use Rattle.std.specs.List.{AllByRecursion}
use Rattle.std.proofs.lemmas.Bool.{lt-ltb, ltb-true, cases_lt}
use Rattle.std.proofs.Math.Seq.{get_or-append_seam, take-append_seam}
use Rattle.std.proofs.lemmas.List.{length-append}
use Rattle.fvn_lex.specs.declared.token.Class.TheVariants.{Word, Special}
use Rattle.fvn_lex.specs.Bytes.{is_special}
use Rattle.fvn_lex.specs.Join.{IsPiece}
use Rattle.fvn_lex.specs.Parts.{goes_through}
use Rattle.fvn_lex.proofs.JoinLemmas.{piece-form}
use Rattle.fvn_terms.specs.declared.plain.Var.{Var}
use Rattle.fvn_terms.specs.declared.plain.OpId.{OpId}
use Rattle.fvn_terms.specs.declared.plain.SortId.{SortId}
use Rattle.fvn_terms.specs.declared.declarations.Declarations.{Declarations}
use Rattle.fvn_terms.specs.Signature.{IsSort, axioms}
use Rattle.fvn_signature.specs.Queries.{IsKind, IsMaximalOf}
use Rattle.fvn_forms.specs.Flat.{FlatTerm, FlatTerms, fvar, fapp, fnone, fmore}
use Rattle.fvn_syntax.specs.declared.names.Names.{Names}
use Rattle.fvn_syntax.specs.Pieces.{Text, word, left_paren, right_paren, left_bracket, right_bracket, comma, is_colon_name, without_last}
use Rattle.fvn_syntax.specs.Raw.{RawTerm, spell, spell_all, IsWritten, AreWritten}
use Rattle.fvn_problems.specs.Spelling.{IsAlone}
use Rattle.fvn_module.specs.Readable.{IsWord}
use Rattle.fvn_answer.specs.Numberings.{new_name}
use Rattle.fvn_answer.specs.Writing.{arguments, arranged, over, top, sort_text, op_text, sorted, written, written_all}
use Rattle.fvn_answer.specs.inner.Bytes.{IsPrintable, ArePrintable}
use Rattle.fvn_answer.specs.inner.Readable.{AreReadable}
use Rattle.fvn_answer.proofs.NewNames.{IsNaming, new_name-naming, new_name-some}
use Rattle.fvn_answer.proofs.Pieces.{Tokens, tokens-append, special-token}
use Rattle.fvn_answer.proofs.Printing.{each-arranged}

left_paren-token : IsPiece left_paren
unfolding is_special
left_paren-token = special-token 40 refl

right_paren-token : IsPiece right_paren
unfolding is_special
right_paren-token = special-token 41 refl

left_bracket-token : IsPiece left_bracket
unfolding is_special
left_bracket-token = special-token 91 refl

right_bracket-token : IsPiece right_bracket
unfolding is_special
right_bracket-token = special-token 93 refl

comma-token : IsPiece comma
unfolding is_special
comma-token = special-token 44 refl

-- a word goes on through words
word-goes : (w : Text) → IsWord w → IsTrue (goes_through false w)
word-goes w h = elim (piece-form (word w) h) [ inl f ↦ f.printed | inr s ↦ absurd (let e : Word ≡ Special = s.class in cc) ]

-- An operator over arguments.

abbrev AreTokens : RawTerm → Type 0
AreTokens t = Tokens (spell t)

arguments-tokens : (t : RawTerm) (ts : List RawTerm) → AreTokens t → AllByRecursion AreTokens ts → Tokens (spell_all (arguments t ts))
arguments-tokens t [] h hs = h
arguments-tokens t (u ∷ us) h hs = tokens-append (spell t) (comma ∷ spell_all (arguments u us)) h (comma-token, arguments-tokens u us hs.0 hs.1)

over-tokens : (w : Text) (ts : List RawTerm) → IsWord w → AllByRecursion AreTokens ts → AreTokens (over w ts)
over-tokens w [] h hs = (h, tt)
over-tokens w (t ∷ ts) h hs =
    (h, (left_paren-token, tokens-append (spell_all (arguments t ts)) (right_paren ∷ []) (arguments-tokens t ts hs.0 hs.1) (right_paren-token, tt)))

arguments-written : (t : RawTerm) (ts : List RawTerm) → IsWritten t → AllByRecursion IsWritten ts → AreWritten (arguments t ts)
arguments-written t [] h hs = h
arguments-written t (u ∷ us) h hs = (h, arguments-written u us hs.0 hs.1)

over-written : (w : Text) (ts : List RawTerm) → AllByRecursion IsWritten ts → IsWritten (over w ts)
over-written w [] hs = tt
over-written w (t ∷ ts) hs = arguments-written t ts hs.0 hs.1

-- A name with a colon behind it.

some-length : (x : Text) → x ≢ [] → 1 ≤ length x
some-length [] h = absurd (h refl)
some-length (b ∷ x) h = omega arith

pub colon_name-ends : (x : Text) → x ≢ [] → is_colon_name (x ++ 58 ∷ []) ≡ true
colon_name-ends x h =
    let long : length (x ++ 58 ∷ []) ≡ length x + 1 = length-append x (58 ∷ []) in
    let some : 1 ≤ length x = some-length x h in
    let first : nat_lt 1 (length (x ++ 58 ∷ [])) ≡ true = lt-ltb 1 (length (x ++ 58 ∷ [])) (omega (arith, long)) in
    let place : length (x ++ 58 ∷ []) - 1 ≡ length x = omega (arith, long) in
    let last : get_or (x ++ 58 ∷ []) (length (x ++ 58 ∷ []) - 1) 0 ≡ 58 = ap (λ i. get_or (x ++ 58 ∷ []) i 0) place ∙ get_or-append_seam x 58 [] 0 in
    rw (first, last) refl

pub without_last-colon : (x : Text) → without_last (x ++ 58 ∷ []) ≡ x
without_last-colon x =
    let long : length (x ++ 58 ∷ []) ≡ length x + 1 = length-append x (58 ∷ []) in
    let place : length (x ++ 58 ∷ []) - 1 ≡ length x = omega (arith, long) in
    ap (λ i. take i (x ++ 58 ∷ [])) place ∙ take-append_seam x (58 ∷ [])

module _ (d : Declarations) (names : Names) (readable : AreReadable d names) (tops : (k : SortId) → IsKind d k → IsMaximalOf d k (top d k)) where
  sort-word : (s : SortId) → s.0 < d.sorts → IsWord (sort_text d names s)
  sort-word s low = readable.sort_words s.0 [] (omega (arith, readable.sort_names))

  op-word : (f : OpId) → f.0 < length d.ops → IsWord (op_text d names f)
  op-word f low = readable.op_words f.0 [] (omega (arith, readable.op_names))

  pub is-kind : (s : SortId) → IsSort d s → nat_lt s.0 d.sorts ≡ false → IsKind d s
  is-kind s h e = record {
    after_sorts = elim (cases_lt s.0 d.sorts) [
      | inl low ↦ (let n : true ≡ false = sym (lt-ltb s.0 d.sorts low) ∙ e in cc)
      | inr high ↦ high
    ];
    listed = h;
  }

  pub sorted-tokens : (x : Text) → IsNaming x → (s : SortId) → IsSort d s → Tokens (spell (sorted d names x s))
  sorted-tokens x h s is = go (nat_lt s.0 d.sorts) refl
    where
      go : (b : Bool) → nat_lt s.0 d.sorts ≡ b → Tokens (spell (sorted d names x s))
      go true e = rw e (h (sort_text d names s) (word-goes (sort_text d names s) (sort-word s (ltb-true s.0 d.sorts e))), tt)
      go false e = rw e (h [] refl, (left_bracket-token, (sort-word (top d s) (tops s (is-kind s is e)).declared, (right_bracket-token, tt))))

  pub sorted-written : (x : Text) → x ≢ [] → (s : SortId) → IsWritten (sorted d names x s)
  sorted-written x some s = go (nat_lt s.0 d.sorts) refl
    where
      go : (b : Bool) → nat_lt s.0 d.sorts ≡ b → IsWritten (sorted d names x s)
      go true e = rw e tt
      go false e = rw e (colon_name-ends x some)

  -- it is a name alone, or a variable of a kind
  pub alone-sorted : (x : Text) (s : SortId) → IsAlone (sorted d names x s)
  alone-sorted x s = go (nat_lt s.0 d.sorts) refl
    where
      go : (b : Bool) → nat_lt s.0 d.sorts ≡ b → IsAlone (sorted d names x s)
      go true e = rw e tt
      go false e = rw e tt

  module _ (order : List Var) (few : length order < 2 ^ 64) where
    mutual
      pub written-tokens : (t : FlatTerm) → IsPrintable d t → Tokens (spell (written d names order t))
      written-tokens (fvar x) p = sorted-tokens (new_name order x) (new_name-naming order few x) x.sort p
      written-tokens (fapp f joined ts) p =
          over-tokens (op_text d names f) (arranged (axioms d f) (written_all d names order ts)) (op-word f p.0)
          (each-arranged AreTokens (axioms d f) (written_all d names order ts) (all-tokens ts p.1))

      all-tokens : (ts : FlatTerms) → ArePrintable d ts → AllByRecursion AreTokens (written_all d names order ts)
      all-tokens fnone p = tt
      all-tokens (fmore t ts) p = (written-tokens t p.0, all-tokens ts p.1)

    mutual
      pub written-written : (t : FlatTerm) → IsWritten (written d names order t)
      written-written (fvar x) = sorted-written (new_name order x) (new_name-some order x) x.sort
      written-written (fapp f joined ts) =
          over-written (op_text d names f) (arranged (axioms d f) (written_all d names order ts))
          (each-arranged IsWritten (axioms d f) (written_all d names order ts) (all-written ts))

      all-written : (ts : FlatTerms) → AllByRecursion IsWritten (written_all d names order ts)
      all-written fnone = tt
      all-written (fmore t ts) = (written-written t, all-written ts)
