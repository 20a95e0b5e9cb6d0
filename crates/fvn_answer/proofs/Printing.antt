-- The texts of written terms, byte by byte.
use Rattle.std.proofs.Common.{◌≡◌, ◌≢◌, inl, inr, ℕ, zero, suc, ◌<◌, ◌≤◌, Bool, true, false, List, [], ◌∷◌, ◌++◌, length, get_or, refl, sym, ap, ◌∙◌, subst, append_assoc, map, arith, Some}
use Rattle.std.specs.Prelude.{slice_get, slice_index_or, nat_lt}
use Rattle.std.specs.List.{All, AllByRecursion}
use Rattle.std.proofs.lemmas.List.Elements.{All-head, All-tail}
use Rattle.std.proofs.lemmas.List.{append-nil}
use Rattle.std.proofs.lemmas.Bool.{lt-ltb, ltb-true}
use Rattle.fvn_lex.proofs.JoinLemmas.{piece-form}
use Rattle.fvn_lex.specs.Parts.{is_quoted_after}
use Rattle.fvn_lex.specs.Join.{needs_space, space, join_after, join}
use Rattle.fvn_terms.specs.declared.plain.Var.{Var}
use Rattle.fvn_terms.specs.declared.plain.OpId.{OpId}
use Rattle.fvn_terms.specs.declared.plain.SortId.{SortId}
use Rattle.fvn_terms.specs.declared.declarations.Axioms.{Axioms}
use Rattle.fvn_terms.specs.declared.declarations.Declarations.{Declarations}
use Rattle.fvn_terms.specs.Signature.{axioms}
use Rattle.fvn_forms.specs.Flat.{FlatTerm, FlatTerms, fvar, fapp, fnone, fmore, funpack, fpack}
use Rattle.fvn_forms.proofs.Sums.{fpack-funpack}
use Rattle.fvn_flat.specs.Forms.{head_of, args_of}
use Rattle.fvn_syntax.specs.declared.names.Names.{Names}
use Rattle.fvn_syntax.specs.Pieces.{Text, word}
use Rattle.fvn_syntax.specs.Raw.{RawTerm}
use Rattle.fvn_answer.specs.Numberings.{new_name}
use Rattle.fvn_module.specs.Readable.{IsWord}
use Rattle.fvn_answer.specs.inner.Readable.{AreReadable}
use Rattle.fvn_terms.specs.Equality.{is_commutative}
use Rattle.fvn_answer.specs.Writing.{text_of, is_after, put, in_byte_order, arranged, over, top, sort_text, op_text, sorted, written, written_all}
use Rattle.fvn_answer.specs.inner.Bytes.{beside, over_texts, put_text, sorted_texts, arranged_texts, IsPrintable, ArePrintable}
use Rattle.fvn_answer.proofs.Joining.{over-text, quoted-append, quoted-behind, IsFilled, filled, IsEnded}

-- what stands at a place
pub got : {A : Type 0} (xs : List A) (i : ℕ) (x d : A) → slice_get xs i ≡ Some x → slice_index_or xs i d ≡ x
got [] i x d e = cc
got (y ∷ xs) zero x d e = cc
got (y ∷ xs) (suc i) x d e = got xs i x d e

-- Written terms in byte order have their texts in byte order.

text-put : (t : RawTerm) (us : List RawTerm) → map text_of (put t us) ≡ put_text (text_of t) (map text_of us)
text-put t [] = refl
text-put t (u ∷ us) = go (is_after (text_of t) (text_of u)) refl (text-put t us)
  where
    go : (b : Bool) → is_after (text_of t) (text_of u) ≡ b → map text_of (put t us) ≡ put_text (text_of t) (map text_of us) →
        map text_of (put t (u ∷ us)) ≡ put_text (text_of t) (text_of u ∷ map text_of us)
    go true e ih = rw e (ap (λ ts. text_of u ∷ ts) ih)
    go false e ih = rw e refl

text-in_byte_order : (ts : List RawTerm) → map text_of (in_byte_order ts) ≡ sorted_texts (map text_of ts)
text-in_byte_order [] = refl
text-in_byte_order (t ∷ ts) = text-put t (in_byte_order ts) ∙ ap (put_text (text_of t)) (text-in_byte_order ts)

text-arranged : (a : Axioms) (ts : List RawTerm) → map text_of (arranged a ts) ≡ arranged_texts a (map text_of ts)
text-arranged a ts = go (is_commutative a) refl
  where
    go : (b : Bool) → is_commutative a ≡ b → map text_of (arranged a ts) ≡ arranged_texts a (map text_of ts)
    go true e = rw e (text-in_byte_order ts)
    go false e = rw e refl

-- what holds of each argument holds of each in another order
module _ (P : RawTerm → Type 0) where
  each-put : (t : RawTerm) (us : List RawTerm) → P t → AllByRecursion P us → AllByRecursion P (put t us)
  each-put t [] p ps = (p, tt)
  each-put t (u ∷ us) p ps = go (is_after (text_of t) (text_of u)) refl (each-put t us p ps.1)
    where
      go : (b : Bool) → is_after (text_of t) (text_of u) ≡ b → AllByRecursion P (put t us) → AllByRecursion P (put t (u ∷ us))
      go true e ih = rw e (ps.0, ih)
      go false e ih = rw e (p, ps)

  each-in_byte_order : (ts : List RawTerm) → AllByRecursion P ts → AllByRecursion P (in_byte_order ts)
  each-in_byte_order [] ps = tt
  each-in_byte_order (t ∷ ts) ps = each-put t (in_byte_order ts) ps.0 (each-in_byte_order ts ps.1)

  pub each-arranged : (a : Axioms) (ts : List RawTerm) → AllByRecursion P ts → AllByRecursion P (arranged a ts)
  each-arranged a ts ps = go (is_commutative a) refl
    where
      go : (b : Bool) → is_commutative a ≡ b → AllByRecursion P (arranged a ts)
      go true e = rw e (each-in_byte_order ts ps)
      go false e = rw e ps

-- Texts are not empty.

filled-colon : (x s : Text) → IsFilled (x ++ 58 ∷ s)
filled-colon [] s = filled 58 s
filled-colon (b ∷ x) s = filled b (x ++ 58 ∷ s)

over-ended : (w : Text) (ts : List RawTerm) → IsFilled w → IsEnded (over w ts)
over-ended w [] f = f
over-ended w (t ∷ ts) f = filled 41 []

module _ (d : Declarations) (names : Names) (full : (f : OpId) → f.0 < length d.ops → IsFilled (op_text d names f)) where
  pub sorted-ended : (x : Text) (s : SortId) → IsEnded (sorted d names x s)
  sorted-ended x s = go (nat_lt s.0 d.sorts) refl
    where
      go : (b : Bool) → nat_lt s.0 d.sorts ≡ b → IsEnded (sorted d names x s)
      go true e = rw e (filled-colon x (sort_text d names s))
      go false e = rw e (filled 93 [])

  module _ (order : List Var) where
    mutual
      pub written-ended : (t : FlatTerm) → IsPrintable d t → IsEnded (written d names order t)
      written-ended (fvar x) p = sorted-ended (new_name order x) x.sort
      written-ended (fapp f joined ts) p = over-ended (op_text d names f) (arranged (axioms d f) (written_all d names order ts)) (full f p.0)

      pub all-ended : (ts : FlatTerms) → ArePrintable d ts → AllByRecursion IsEnded (written_all d names order ts)
      all-ended fnone p = tt
      all-ended (fmore t ts) p = (written-ended t p.0, all-ended ts p.1)

    abbrev shown_text : FlatTerm → Text
    shown_text t = text_of (written d names order t)

    texts-all : (ts : FlatTerms) → map text_of (written_all d names order ts) ≡ map shown_text (funpack ts)
    texts-all fnone = refl
    texts-all (fmore t ts) = ap (λ l. shown_text t ∷ l) (texts-all ts)

    -- an operator over the texts of the arguments
    pub application-text : (f : OpId) (t : FlatTerm) → head_of t ≡ Some f → IsPrintable d t → (w : Text) → slice_get names.ops f.0 ≡ Some w →
        over_texts w (arranged_texts (axioms d f) (map shown_text (args_of t))) ≡ shown_text t
    application-text f (fvar x) h p w e = cc
    application-text f (fapp g joined ts) h p w e =
        let same : f ≡ g = cc in
        subst (λ k. over_texts w (arranged_texts (axioms d k) (map shown_text (funpack ts))) ≡ shown_text (fapp g joined ts)) (sym same)
        (ap (λ l. over_texts w (arranged_texts (axioms d g) l)) (sym (texts-all ts))
        ∙ ap (over_texts w) (sym (text-arranged (axioms d g) (written_all d names order ts)))
        ∙ ap (λ v. over_texts v (map text_of (arranged (axioms d g) (written_all d names order ts)))) (sym (got names.ops g.0 w [] (subst (λ k. slice_get names.ops k.0 ≡ Some w) same e)))
        ∙ sym (over-text (op_text d names g) (arranged (axioms d g) (written_all d names order ts)) (each-arranged IsEnded (axioms d g) (written_all d names order ts) (all-ended ts p.1))))

-- an argument of a form that can be printed can be printed
all-at : (d : Declarations) (l : List FlatTerm) → ArePrintable d (fpack l) → (i : ℕ) (u : FlatTerm) → i < length l → u ≡ get_or l i u → IsPrintable d u
all-at d [] p i u within is = absurd (omega arith)
all-at d (t ∷ l) p zero u within is = subst (IsPrintable d) (sym is) p.0
all-at d (t ∷ l) p (suc i) u within is = all-at d l p.1 i u (omega arith) is

pub argument-printable : (d : Declarations) (t : FlatTerm) (l : List FlatTerm) (i : ℕ) (u : FlatTerm) → IsPrintable d t → l ≡ args_of t → i < length l → u ≡ get_or l i u → IsPrintable d u
argument-printable d (fvar x) l i u p e within is = let n = ap length e in absurd (omega arith)
argument-printable d (fapp f joined ts) l i u p e within is =
    all-at d l (subst (ArePrintable d) (sym (fpack-funpack ts) ∙ ap fpack (sym e)) p.1) i u within is

-- Variables.

not-below : (a b : ℕ) → b ≤ a → nat_lt a b ≡ false
not-below a b h = go (nat_lt a b) refl
  where
    go : (c : Bool) → nat_lt a b ≡ c → nat_lt a b ≡ false
    go true e = let low = ltb-true a b e in absurd (omega arith)
    go false e = e

-- NAME:SORT
pub declared-text : (d : Declarations) (names : Names) (text x st : Text) (s : SortId) → s.0 < d.sorts → slice_get names.sorts s.0 ≡ Some st →
    text ++ x ++ (58 ∷ []) ++ st ≡ text ++ text_of (sorted d names x s)
unfolding join join_after
declared-text d names text x st s low is =
    let e : nat_lt s.0 d.sorts ≡ true = lt-ltb s.0 d.sorts low in
    let it : sort_text d names s ≡ st = got names.sorts s.0 st [] is in
    append_assoc (text ++ x) (58 ∷ []) st ∙ append_assoc text x (58 ∷ st)
    ∙ rw (e, it) (ap (λ t. text ++ t) (sym (append-nil (x ++ 58 ∷ st))))

-- the sort of a variable stands behind its name
pub sorted-behind : (d : Declarations) (names : Names) (x : Text) (s : SortId) → x ++ text_of (sorted d names [] s) ≡ text_of (sorted d names x s)
unfolding join join_after needs_space
sorted-behind d names x s = go (nat_lt s.0 d.sorts) refl
  where
    go : (b : Bool) → nat_lt s.0 d.sorts ≡ b → x ++ text_of (sorted d names [] s) ≡ text_of (sorted d names x s)
    go true e = rw e (sym (append_assoc x (58 ∷ sort_text d names s) []))
    go false e =
        let r : is_quoted_after false (x ++ 58 ∷ []) ≡ false = quoted-append false x (58 ∷ []) in
        rw (e, r) (sym (append_assoc x (58 ∷ []) _))

-- NAME:[SORT]
pub kind-text : (d : Declarations) (names : Names) (text x st : Text) (s : SortId) → d.sorts ≤ s.0 → slice_get names.sorts (top d s).0 ≡ Some st → IsFilled st →
    beside (text ++ x ++ (58 ∷ []) ++ (91 ∷ []) ++ st) 93 ≡ text ++ text_of (sorted d names x s)
unfolding join join_after needs_space
kind-text d names text x st s high is f =
    let e : nat_lt s.0 d.sorts ≡ false = not-below s.0 d.sorts high in
    let it : sort_text d names (top d s) ≡ st = got names.sorts (top d s).0 st [] is in
    let q : is_quoted_after false (text ++ x ++ (58 ∷ []) ++ (91 ∷ []) ++ st) ≡ is_quoted_after false st = quoted-behind (text ++ x ++ (58 ∷ []) ++ (91 ∷ [])) st f in
    let r : is_quoted_after false (x ++ 58 ∷ []) ≡ false = quoted-append false x (58 ∷ []) in
    ap (λ b. (text ++ x ++ (58 ∷ []) ++ (91 ∷ []) ++ st) ++ (space b ++ 93 ∷ [])) q
    ∙ rw (e, it, r) (regroup (space (is_quoted_after false st) ++ 93 ∷ []))
  where
    regroup : (rest : Text) → (text ++ x ++ (58 ∷ []) ++ (91 ∷ []) ++ st) ++ rest ≡ text ++ ((x ++ 58 ∷ []) ++ (91 ∷ (st ++ rest)))
    regroup rest =
        append_assoc (text ++ x ++ (58 ∷ []) ++ (91 ∷ [])) st rest
        ∙ append_assoc (text ++ x ++ (58 ∷ [])) (91 ∷ []) (st ++ rest)
        ∙ ap (λ t. t ++ (91 ∷ (st ++ rest))) (append_assoc text x (58 ∷ []))
        ∙ append_assoc text (x ++ 58 ∷ []) (91 ∷ (st ++ rest))

-- a word is not empty
some-filled : (w : Text) → w ≢ [] → IsFilled w
some-filled [] some = absurd (some refl)
some-filled (b ∷ w) some = filled b w

piece-filled : (w : Text) → IsWord w → IsFilled w
piece-filled w is = elim (piece-form (word w) is) [
  | inl form ↦ some-filled w form.some
  | inr form ↦ some-filled w (λ e. let n : [] ≡ form.byte ∷ [] = sym e ∙ form.text in cc)
]

pub word-filled : (ws : List Text) → All IsWord ws → (i : ℕ) (w : Text) → slice_get ws i ≡ Some w → IsFilled w
word-filled [] all i w e = cc
word-filled (v ∷ ws) all zero w e = let same : v ≡ w = cc in subst IsFilled same (piece-filled v (All-head IsWord v ws all))
word-filled (v ∷ ws) all (suc i) w e = word-filled ws (All-tail IsWord v ws all) i w e

-- the names of operators are not empty
within : {A : Type 0} (xs : List A) (i : ℕ) → i < length xs → (x : A) × (slice_get xs i ≡ Some x)
within [] i h = absurd (omega arith)
within (x ∷ xs) zero h = (x, refl)
within (x ∷ xs) (suc i) h = within xs i (omega arith)

pub operator-filled : (d : Declarations) (names : Names) → AreReadable d names → (f : OpId) → f.0 < length d.ops → IsFilled (op_text d names f)
operator-filled d names r f h =
    let e = r.op_names in
    let at = within names.ops f.0 (omega arith) in
    subst IsFilled (sym (got names.ops f.0 at.0 [] at.1)) (word-filled names.ops r.op_words f.0 at.0 at.1)
