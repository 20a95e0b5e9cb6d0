-- The fronts of lines.
use Rattle.std.proofs.Common.{◌≡◌, ℕ, ◌+◌, ◌<◌, ◌≤◌, Bool, true, false, Some, List, [], ◌∷◌, ◌++◌, length, get_or, take, drop, refl, sym, ap, ◌∙◌, subst, append_assoc, map}
use Rattle.std.specs.Prelude.{slice_get}
use Rattle.std.proofs.lemmas.List.{append-nil, drop_more, take_more, take_all, get_or_default}
use Rattle.fvn_lex.specs.Parts.{is_quoted_after}
use Rattle.fvn_lex.specs.Join.{space}
use Rattle.fvn_terms.specs.declared.plain.Var.{Var}
use Rattle.fvn_terms.specs.declared.plain.OpId.{OpId}
use Rattle.fvn_terms.specs.declared.declarations.Declarations.{Declarations}
use Rattle.fvn_terms.specs.Signature.{axioms}
use Rattle.fvn_forms.specs.Flat.{FlatTerm}
use Rattle.fvn_flat.specs.Forms.{head_of, args_of}
use Rattle.fvn_syntax.specs.declared.names.Names.{Names}
use Rattle.fvn_syntax.specs.Pieces.{Text}
use Rattle.fvn_answer.specs.inner.Readable.{AreReadable}
use Rattle.fvn_terms.specs.Equality.{is_commutative}
use Rattle.fvn_answer.specs.Writing.{text_of, written}
use Rattle.fvn_answer.specs.inner.Bytes.{beside, between, pair_text, with_pairs, over_texts, IsPrintable}
use Rattle.fvn_answer.specs.declared.front.Front.{Front}
use Rattle.fvn_answer.specs.inner.Fronts.{AtLeast, NoneIsNext, AreTips, HasTips, IsUpTo, IsFrontOf, HaveMore, HaveTexts, AreGathered, arranged_if}
use Rattle.fvn_answer.proofs.Fronts.{at_least-append, at_least-behind, whole-front, front-after, cut-front, gather-behind}
use Rattle.fvn_answer.proofs.Printing.{application-text, operator-filled}

upto-behind : (tips : List Var) (p v w : Text) → IsUpTo tips v w → IsUpTo tips (p ++ v) (p ++ w)
upto-behind [] p v w h = ap (λ t. p ++ t) h
upto-behind (x ∷ tips) p v w h = at_least-behind p v w h

-- a front behind a text
pub front-behind : (known : ℕ) (other : List Var) (p w : Text) (front longer : Front) → longer.tips.items ≡ front.tips.items → longer.text.items ≡ p ++ front.text.items →
    longer.later.items ≡ p ++ front.later.items → IsFrontOf known other front w → IsFrontOf known other longer (p ++ w)
front-behind known other p w front longer t e l f = record {
  upto = subst (λ tips. IsUpTo tips longer.text.items (p ++ w)) (sym t) (subst (λ v. IsUpTo front.tips.items v (p ++ w)) (sym e) (upto-behind front.tips.items p front.text.items w f.upto));
  later = λ n. subst (λ v. AtLeast v (p ++ w)) (sym l) (at_least-behind p front.later.items w (f.later (subst (λ tips. NoneIsNext tips known other) t n)));
}

-- a text behind a front with tips
pub front-longer : (known : ℕ) (other : List Var) (w z : Text) (front : Front) → HasTips front → IsFrontOf known other front w → IsFrontOf known other front (w ++ z)
front-longer known other w z front t f = record {
  upto = cut-front front.tips.items front.text.items (w ++ z) t (at_least-append front.text.items w z (front-after front.tips.items front.text.items w f.upto));
  later = λ n. at_least-append front.later.items w z (f.later n);
}

-- Bindings.

-- a text with bindings behind it
pub pairs-front : (first : Bool) (acc : Text) (ps : List (Text × Text)) → (z : Text) × (with_pairs first acc ps ≡ acc ++ z)
pairs-front first acc [] = ([], sym (append-nil acc))
pairs-front first acc (p ∷ ps) = go first (λ longer. pairs-front false longer ps)
  where
    go : (b : Bool) → ((longer : Text) → (z : Text) × (with_pairs false longer ps ≡ longer ++ z)) → (z : Text) × (with_pairs false (between b acc ++ pair_text p) ps ≡ acc ++ z)
    go true rest = let more = rest (acc ++ pair_text p) in (pair_text p ++ more.0, more.1 ∙ append_assoc acc (pair_text p) more.0)
    go false rest =
        let base = beside acc 44 ++ 32 ∷ [] in
        let gap = space (is_quoted_after false acc) ++ 44 ∷ [] in
        let more = rest (base ++ pair_text p) in (
          gap ++ (32 ∷ (pair_text p ++ more.0)),
          more.1 ∙ append_assoc base (pair_text p) more.0 ∙ append_assoc (beside acc 44) (32 ∷ []) (pair_text p ++ more.0) ∙ append_assoc acc gap (32 ∷ (pair_text p ++ more.0)),
        )

module _ (each : Var → Text × Text) (vars : List Var) (i : ℕ) (x : Var) (within : i < length vars) (is : x ≡ get_or vars i x) where
  left : (first : Bool) (acc : Text) → with_pairs first acc (map each (drop i vars)) ≡ with_pairs false (between first acc ++ pair_text (each x)) (map each (drop (i + 1) vars))
  left first acc = ap (λ l. with_pairs first acc (map each l)) (drop_more vars i x within ∙ ap (λ y. y ∷ drop (i + 1) vars) (sym is))

  -- a binding that is known to its end
  pub binding-whole : (all : Text) (first : Bool) (acc line : Text) → all ≡ with_pairs first acc (map each (drop i vars)) →
      line ≡ between first acc ++ pair_text (each x) → all ≡ with_pairs false line (map each (drop (i + 1) vars))
  binding-whole all first acc line h e = h ∙ left first acc ∙ ap (λ t. with_pairs false t (map each (drop (i + 1) vars))) (sym e)

  -- one that ends at a tip
  pub binding-cut : (known : ℕ) (other : List Var) (front : Front) (all whole : Text) (first : Bool) (acc : Text) → HasTips front → beside all 125 ≡ whole →
      all ≡ with_pairs first acc (map each (drop i vars)) → IsFrontOf known other front (between first acc ++ pair_text (each x)) → IsFrontOf known other front whole
  binding-cut known other front all whole first acc t end h f =
      let base = between first acc ++ pair_text (each x) in
      let more = pairs-front false base (map each (drop (i + 1) vars)) in
      let gap = space (is_quoted_after false all) ++ 125 ∷ [] in
      let one : IsFrontOf known other front all = subst (IsFrontOf known other front) (sym (h ∙ left first acc ∙ more.1)) (front-longer known other base more.0 front t f) in
      subst (IsFrontOf known other front) end (front-longer known other all gap front t one)

-- the binding that a loop is at
module _ (each : Var → Text × Text) (vars : List Var) (i : ℕ) (within : i < length vars) (e : Var) (known : ℕ) (other : List Var) (front : Front) (all : Text) (first : Bool) (acc mid : Text)
    (is : mid ≡ between first acc) (h : all ≡ with_pairs first acc (map each (drop i vars))) (f : IsFrontOf known other front (mid ++ pair_text (each (get_or vars i e)))) where
  front-here : IsFrontOf known other front (between first acc ++ pair_text (each (get_or vars i e)))
  front-here = subst (λ t. IsFrontOf known other front (t ++ pair_text (each (get_or vars i e)))) is f

  pub whole-here : front.tips.items ≡ [] → all ≡ with_pairs false front.text.items (map each (drop (i + 1) vars))
  whole-here none =
      binding-whole each vars i (get_or vars i e) within (get_or_default vars i e (get_or vars i e) within) all first acc front.text.items h
      (whole-front front.tips.items front.text.items (between first acc ++ pair_text (each (get_or vars i e))) none front-here.upto)

  pub cut-here : (whole : Text) → beside all 125 ≡ whole → HasTips front → IsFrontOf known other front whole
  cut-here whole end some = binding-cut each vars i (get_or vars i e) within (get_or_default vars i e (get_or vars i e) within) known other front all whole first acc some end h front-here

-- Arguments.

module _ (d : Declarations) (names : Names) (other : List Var) where
  abbrev pub shown_text : FlatTerm → Text
  shown_text t = text_of (written d names other t)

  one-more : (items : List FlatTerm) (i : ℕ) (u : FlatTerm) → i < length items → u ≡ get_or items i u → map shown_text (take i items) ++ shown_text u ∷ [] ≡ map shown_text (take (i + 1) items)
  one-more items i u within is = sym (ap (map shown_text) (take_more items i u within ∙ ap (λ v. take i items ++ v ∷ []) (sym is)) ∙ map-snoc (take i items) u)
    where
      map-snoc : (l : List FlatTerm) (t : FlatTerm) → map shown_text (l ++ t ∷ []) ≡ map shown_text l ++ shown_text t ∷ []
      map-snoc [] t = refl
      map-snoc (v ∷ l) t = ap (λ m. shown_text v ∷ m) (map-snoc l t)

  module _ (known : ℕ) (exchange : Bool) (whole : List Text) (least : Front) where
    pub argument-gathered : (items : List FlatTerm) (i : ℕ) (u : FlatTerm) → i < length items → u ≡ get_or items i u →
        AreGathered known other exchange whole least (map shown_text (take i items) ++ shown_text u ∷ []) → AreGathered known other exchange whole least (map shown_text (take (i + 1) items))
    argument-gathered items i u within is h = subst (AreGathered known other exchange whole least) (one-more items i u within is) h

    have-passed : (all : List Text) (w : Text) (tips : List Var) (v : Text) → exchange ≡ false → AreTips tips → HaveTexts exchange whole tips v all → HaveTexts exchange whole tips v (all ++ w ∷ [])
    have-passed all w [] v e t h = absurd t
    have-passed all w (x ∷ tips) v e t h =
        subst (λ b. HaveMore b whole v (all ++ w ∷ [])) (sym e) (gather-behind whole all v w (subst (λ b. HaveMore b whole v all) e h))

    -- an argument that is not looked at
    pub argument-passed : (items : List FlatTerm) (i : ℕ) (u : FlatTerm) → i < length items → u ≡ get_or items i u → exchange ≡ false → HasTips least →
        AreGathered known other exchange whole least (map shown_text (take i items)) → AreGathered known other exchange whole least (map shown_text (take (i + 1) items))
    argument-passed items i u within is e t h = argument-gathered items i u within is (record {
      upto = have-passed (map shown_text (take i items)) (shown_text u) least.tips.items least.text.items e t h.upto;
      later = λ n. have-passed (map shown_text (take i items)) (shown_text u) least.tips.items least.later.items e t (h.later n);
    })

  -- all arguments
  pub application-front : AreReadable d names → (f : OpId) (t : FlatTerm) → head_of t ≡ Some f → IsPrintable d t → (w : Text) → slice_get names.ops f.0 ≡ Some w →
      (exchange : Bool) → exchange ≡ is_commutative (axioms d f) → (items : List FlatTerm) (i : ℕ) → items ≡ args_of t → length items ≤ i → (known : ℕ) (front : Front) →
      IsFrontOf known other front (over_texts w (arranged_if exchange (map shown_text (take i items)))) → IsFrontOf known other front (shown_text t)
  application-front readable f t h p w g exchange e items i is end known front it =
      let all : take i items ≡ args_of t = take_all i items end ∙ is in
      subst (IsFrontOf known other front)
      (ap (λ b. over_texts w (arranged_if b (map shown_text (take i items)))) e ∙ ap (λ l. over_texts w (arranged_if (is_commutative (axioms d f)) (map shown_text l))) all
      ∙ application-text d names (operator-filled d names readable) other f t h p w g)
      it
