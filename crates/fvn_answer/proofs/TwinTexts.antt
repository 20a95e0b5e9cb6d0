-- Texts with the numbers of twins exchanged.
use Rattle.std.proofs.Common.{◌≡◌, ◌≢◌, ◌⊎◌, inl, inr, ℕ, zero, suc, ◌+◌, ◌<◌, ◌≤◌, Bool, true, false, Option, Some, List, [], ◌∷◌, length, get_or, refl, sym, ap, ◌∙◌, subst, map, arith}
use Rattle.std.specs.Prelude.{if◌then◌else◌, not, decimal, slice_get, codes, Contains}
use Rattle.std.specs.Option.{is_some}
use Rattle.std.specs.List.{AllByRecursion}
use Rattle.std.proofs.lemmas.Bool.{cases_lt}
use Rattle.std.proofs.lemmas.List.{get_or_default}
use Rattle.std.proofs.lemmas.List.Elements.{All-contains}
use Rattle.fvn_base.proofs.Membership.{contains_here, contains_later}
use Rattle.fvn_terms.specs.declared.plain.Var.{Var}
use Rattle.fvn_terms.specs.declared.plain.OpId.{OpId}
use Rattle.fvn_terms.specs.declared.plain.SortId.{SortId}
use Rattle.fvn_terms.specs.declared.declarations.Axioms.{Axioms}
use Rattle.fvn_terms.specs.declared.declarations.Declarations.{Declarations}
use Rattle.fvn_terms.specs.Signature.{axioms}
use Rattle.fvn_terms.specs.Substitution.{same_var}
use Rattle.fvn_forms.specs.Flat.{FlatTerm, fvar, fapp}
use Rattle.fvn_flat.specs.Bindings.{Bindings, value}
use Rattle.fvn_flat.specs.Variables.{listed}
use Rattle.fvn_flat.specs.Forms.{variable_of, head_of, args_of}
use Rattle.fvn_terms.proofs.Variables.{same_var_is, same_var_itself}
use Rattle.fvn_syntax.specs.declared.names.Names.{Names}
use Rattle.fvn_syntax.specs.Pieces.{Text}
use Rattle.fvn_problems.specs.Variables.{IsNamed}
use Rattle.fvn_answer.specs.declared.printed.Printed.{Printed}
use Rattle.fvn_answer.specs.Numberings.{number, new_name}
use Rattle.fvn_answer.specs.Lines.{values, values_of, asked_name, text}
use Rattle.fvn_terms.specs.Equality.{is_commutative}
use Rattle.fvn_answer.specs.Writing.{text_of, sorted, written}
use Rattle.fvn_answer.specs.inner.Readable.{AreReadable}
use Rattle.fvn_answer.specs.inner.Bytes.{beside, with_pairs, over_texts, arranged_texts, IsPrintable}
use Rattle.fvn_answer.specs.inner.Shown.{value_texts, HavePrintable}
use Rattle.fvn_answer.specs.inner.Twins.{AreExchanged, is_here, times, KeepsText, KeepsArgument, KeepsTexts, GoesFirst, HasFirst, IsPassedOver, LeadsUpTo}
use Rattle.fvn_answer.proofs.Collecting.{not-listed}
use Rattle.fvn_answer.proofs.TextOrder.{same, one_if, count, same_counts}
use Rattle.fvn_answer.proofs.Printing.{application-text, operator-filled, argument-printable}
use Rattle.fvn_answer.proofs.ValueTexts.{values-text}

-- Counts.

-- n, or nothing
abbrev pub part : Bool → ℕ → ℕ
part true n = n
part false n = 0

part-one : (b : Bool) (n : ℕ) → part b (1 + n) ≡ one_if b + part b n
part-one true n = refl
part-one false n = refl

part-zero : (b : Bool) (n : ℕ) → part b (0 + n) ≡ part b n
part-zero true n = omega arith
part-zero false n = refl

part-none : (b : Bool) → part b 0 ≡ 0
part-none true = refl
part-none false = refl

pub differs : (z x : Var) → same_var z x ≡ false → z ≢ x
differs z x e is = let s : same_var z x ≡ true = subst (λ y. same_var z y ≡ true) is (same_var_itself z) in let n : true ≡ false = sym s ∙ e in cc

module _ (d : Declarations) (names : Names) (x y : Var) (order other : List Var) (e : AreExchanged x y order other) where
  abbrev pub old_text : FlatTerm → Text
  old_text t = text_of (written d names order t)

  abbrev pub new_text : FlatTerm → Text
  new_text t = text_of (written d names other t)

  pub variable-text : (z v : Var) → number other z ≡ number order v → z.sort ≡ v.sort → new_text (fvar z) ≡ old_text (fvar v)
  variable-text z v n s =
      ap (λ m. text_of (sorted d names (35 ∷ decimal m) z.sort)) n ∙ ap (λ (q : SortId). text_of (sorted d names (new_name order v) q)) s

  -- a variable that is neither of the two
  pub other-variable : (z : Var) → z ≢ x → z ≢ y → new_text (fvar z) ≡ old_text (fvar z)
  other-variable z n m = variable-text z z (e.same z n m) refl

  -- the argument's text stays, or it is a variable among arguments that may be exchanged
  abbrev pub Kept : Bool → FlatTerm → Type 0
  Kept exchange t = ((exchange ≡ true) × (is_some (variable_of t) ≡ true)) ⊎ (new_text t ≡ old_text t)

  module _ (q : Text) where
    abbrev pub a : Bool
    a = same q (old_text (fvar x))

    abbrev pub b : Bool
    b = same q (old_text (fvar y))

    abbrev pub Counts : List FlatTerm → Type 0
    Counts ts = count q (map new_text ts) + (part a (times x ts) + part b (times y ts)) ≡ count q (map old_text ts) + (part b (times x ts) + part a (times y ts))

    -- one argument more, of which it is known how often its texts are q, and whether it is one of the two variables
    count-more : (c e : ℕ) (i j : ℕ) (t : FlatTerm) (ts : List FlatTerm) → one_if (same q (new_text t)) ≡ c → one_if (same q (old_text t)) ≡ e →
        (if is_here x (variable_of t) then 1 else 0) ≡ i → (if is_here y (variable_of t) then 1 else 0) ≡ j →
        c + (part a (i + times x ts) + part b (j + times y ts)) + count q (map new_text ts) ≡ e + (part b (i + times x ts) + part a (j + times y ts)) + count q (map old_text ts) → Counts (t ∷ ts)
    count-more c f i j t ts p r u v h = rw (p, r, u, v) (omega (arith, h))

    count-variable : (z : Var) (ts : List FlatTerm) → Counts ts → Counts (fvar z ∷ ts)
    count-variable z ts ih = go (same_var z x) (same_var z y) refl refl
      where
        go : (s t : Bool) → same_var z x ≡ s → same_var z y ≡ t → Counts (fvar z ∷ ts)
        go true true p r =
            let zx = same_var_is z x p in
            let zy = same_var_is z y r in
            let ab : b ≡ a = ap (λ v. same q (old_text (fvar v))) (sym zy ∙ zx) in
            count-more (one_if b) (one_if a) 1 1 (fvar z) ts
            (ap (λ t. one_if (same q t)) (ap (λ v. new_text (fvar v)) zx ∙ variable-text x y e.first e.sort)) (ap (λ v. one_if (same q (old_text (fvar v)))) zx)
            (ap (λ s. if s then 1 else 0) p) (ap (λ s. if s then 1 else 0) r)
            (let m = part-one a (times x ts) in let n = part-one b (times y ts) in let k = part-one b (times x ts) in let l = part-one a (times y ts) in let same = ap one_if ab in omega (arith, m, n, k, l, same, ih))
        go true false p r =
            let zx = same_var_is z x p in
            count-more (one_if b) (one_if a) 1 0 (fvar z) ts
            (ap (λ t. one_if (same q t)) (ap (λ v. new_text (fvar v)) zx ∙ variable-text x y e.first e.sort)) (ap (λ v. one_if (same q (old_text (fvar v)))) zx)
            (ap (λ s. if s then 1 else 0) p) (ap (λ s. if s then 1 else 0) r)
            (let m = part-one a (times x ts) in let k = part-one b (times x ts) in let za = part-zero a (times x ts) in let zb = part-zero b (times x ts) in let zc = part-zero b (times y ts) in let zd = part-zero a (times y ts) in omega (arith, za, zb, zc, zd, m, k, ih))
        go false true p r =
            let zy = same_var_is z y r in
            count-more (one_if a) (one_if b) 0 1 (fvar z) ts
            (ap (λ t. one_if (same q t)) (ap (λ v. new_text (fvar v)) zy ∙ variable-text y x e.second (sym e.sort))) (ap (λ v. one_if (same q (old_text (fvar v)))) zy)
            (ap (λ s. if s then 1 else 0) p) (ap (λ s. if s then 1 else 0) r)
            (let n = part-one b (times y ts) in let l = part-one a (times y ts) in let za = part-zero a (times x ts) in let zb = part-zero b (times x ts) in let zc = part-zero b (times y ts) in let zd = part-zero a (times y ts) in omega (arith, za, zb, zc, zd, n, l, ih))
        go false false p r =
            count-more (one_if (same q (old_text (fvar z)))) (one_if (same q (old_text (fvar z)))) 0 0 (fvar z) ts
            (ap (λ t. one_if (same q t)) (other-variable z (differs z x p) (differs z y r))) refl
            (ap (λ s. if s then 1 else 0) p) (ap (λ s. if s then 1 else 0) r)
            (let za = part-zero a (times x ts) in let zb = part-zero b (times x ts) in let zc = part-zero b (times y ts) in let zd = part-zero a (times y ts) in omega (arith, za, zb, zc, zd, ih))

    pub counts : (ts : List FlatTerm) → AllByRecursion (Kept true) ts → Counts ts
    counts [] k = let m = part-none a in let n = part-none b in omega (arith, m, n)
    counts (fvar z ∷ ts) k = count-variable z ts (counts ts k.1)
    counts (fapp f joined us ∷ ts) k = elim k.0 [
      | inl v ↦ let n : false ≡ true = v.1 in cc
      | inr is ↦ let ih = counts ts k.1 in
          count-more (one_if (same q (old_text (fapp f joined us)))) (one_if (same q (old_text (fapp f joined us)))) 0 0 (fapp f joined us) ts
          (ap (λ t. one_if (same q t)) is) refl refl refl (let za = part-zero a (times x ts) in let zb = part-zero b (times x ts) in let zc = part-zero b (times y ts) in let zd = part-zero a (times y ts) in omega (arith, za, zb, zc, zd, ih))
    ]

    pub same-count : (ts : List FlatTerm) → AllByRecursion (Kept true) ts → times x ts ≡ times y ts → count q (map new_text ts) ≡ count q (map old_text ts)
    same-count ts k even =
        let h = subst (λ n. count q (map new_text ts) + (part a (times x ts) + part b n) ≡ count q (map old_text ts) + (part b (times x ts) + part a n)) (sym even) (counts ts k) in
        omega (arith, h)

  same-texts : (ts : List FlatTerm) → AllByRecursion (Kept false) ts → map new_text ts ≡ map old_text ts
  same-texts [] k = refl
  same-texts (t ∷ ts) k = elim k.0 [
    | inl v ↦ let n : false ≡ true = v.0 in cc
    | inr is ↦ (λ i. is i ∷ same-texts ts k.1 i)
  ]

  arranged-same : (axioms : Axioms) (ts : List FlatTerm) → AllByRecursion (Kept (is_commutative axioms)) ts → (is_commutative axioms ≡ true → times x ts ≡ times y ts) →
      arranged_texts axioms (map new_text ts) ≡ arranged_texts axioms (map old_text ts)
  arranged-same axioms ts k even = go (is_commutative axioms) refl k even
    where
      go : (b : Bool) → is_commutative axioms ≡ b → AllByRecursion (Kept b) ts → (b ≡ true → times x ts ≡ times y ts) →
          arranged_texts axioms (map new_text ts) ≡ arranged_texts axioms (map old_text ts)
      go true p k even = rw p (same_counts (map new_text ts) (map old_text ts) (λ q. same-count q ts k (even refl)))
      go false p k even = rw p (same-texts ts k)

pub not-false : (b : Bool) → not b ≡ false → b ≡ true
not-false true e = refl
not-false false e = cc

-- what stands at a place
pub some-at : {A : Type 0} (xs : List A) (i : ℕ) → i < length xs → (x : A) × (slice_get xs i ≡ Some x)
some-at [] i h = absurd (omega (arith, h))
some-at (y ∷ xs) zero h = (y, refl)
some-at (y ∷ xs) (suc i) h = some-at xs i (omega (arith, h))

each : (P : FlatTerm → Type 0) (l : List FlatTerm) → ((i : ℕ) (z : FlatTerm) → i < length l → P (get_or l i z)) → AllByRecursion P l
each P [] h = tt
each P (t ∷ l) h = (h 0 t (omega arith), each P l (λ i z low. h (suc i) z (omega (arith, low))))

module _ (d : Declarations) (x y : Var) where
  -- a variable that is neither of the two
  pub keeps-variable : (z : Var) → z ≢ x → z ≢ y → KeepsText d x y (fvar z)
  keeps-variable z n m names readable p order other e = other-variable d names x y order other e z n m

  -- an operator over arguments that keep their texts
  pub keeps-application : (f : OpId) (t : FlatTerm) → head_of t ≡ Some f → (exchange : Bool) → exchange ≡ is_commutative (axioms d f) → (items : List FlatTerm) → items ≡ args_of t →
      ((i : ℕ) (z : FlatTerm) → i < length items → KeepsArgument d x y exchange (get_or items i z)) → (exchange ≡ true → times x items ≡ times y items) → KeepsText d x y t
  keeps-application f (fvar z) h exchange is items all kept even names readable p order other e = cc
  keeps-application f (fapp g joined ts) h exchange is items all kept even names readable p order other e =
      let t = fapp g joined ts in
      let fg : f ≡ g = cc in
      let op = some-at names.ops f.0 (let l = readable.op_names in let m : f.0 < length d.ops = subst (λ (k : OpId). k.0 < length d.ops) (sym fg) p.0 in omega (arith, l, m)) in
      let full = operator-filled d names readable in
      let new = application-text d names full other f t h p op.0 op.1 in
      let old = application-text d names full order f t h p op.0 op.1 in
      let each-kept : AllByRecursion (Kept d names x y order other e (is_commutative (axioms d f))) (args_of t) =
      subst (λ b. AllByRecursion (Kept d names x y order other e b) (args_of t)) is
      (subst (AllByRecursion (Kept d names x y order other e exchange)) all
      (each (Kept d names x y order other e exchange) items (λ i z low. elim (kept i z low) [
        | inl v ↦ inl v
        | inr k ↦ inr (k names readable (argument-printable d t items i (get_or items i z) p all low (get_or_default items i z (get_or items i z) low)) order other e)
      ]))) in
      sym new
      ∙ ap (over_texts op.0) (arranged-same d names x y order other e (axioms d f) (args_of t) each-kept (λ b. subst (λ l. times x l ≡ times y l) all (even (is ∙ b))))
      ∙ old

  pairs-same : (names : Names) (texts : List Text) → AreReadable d names → (order other : List Var) → AreExchanged x y order other → (s : Bindings) (vars : List Var) →
      ((z : Var) → Contains vars z → IsPrintable d (value s z)) → KeepsTexts d x y s vars →
      map (value_texts d texts names other s) vars ≡ map (value_texts d texts names order s) vars
  pairs-same names texts readable order other e s [] p k = refl
  pairs-same names texts readable order other e s (z ∷ vars) p k =
      let one = k z (contains_here z vars) names readable (p z (contains_here z vars)) order other e in
      let more = pairs-same names texts readable order other e s vars (λ v c. p v (contains_later z vars v c)) (λ v c. k v (contains_later z vars v c)) in
      λ i. (text_of (sorted d names (asked_name d names texts z) z.sort), one i) ∷ more i

  pub values-same : (names : Names) (texts : List Text) → AreReadable d names → (order other : List Var) → AreExchanged x y order other → (s : Bindings) (vars : List Var) →
      HavePrintable d texts s vars → KeepsTexts d x y s vars → text d names texts other (values (values_of s vars)) ≡ text d names texts order (values (values_of s vars))
  values-same names texts readable order other e s vars p k =
      sym (values-text d names readable texts other s vars p)
      ∙ ap (λ l. beside (with_pairs true (codes "{") l) 125)
      (pairs-same names texts readable order other e s vars (λ z c. (All-contains (λ v. IsNamed d texts v × IsPrintable d (value s v)) vars z p c).1) k)
      ∙ values-text d names readable texts order s vars p

-- one more argument that is a variable
pub variable-more : (args : List FlatTerm) (i : ℕ) (u : FlatTerm) (v : Option Var) (none : Bool) → i < length args → u ≡ get_or args i u → v ≡ variable_of u → is_some v ≡ not none → none ≡ false →
    ((j : ℕ) (z : FlatTerm) → j < i → is_some (variable_of (get_or args j z)) ≡ true) → (j : ℕ) (z : FlatTerm) → j < i + 1 → is_some (variable_of (get_or args j z)) ≡ true
variable-more args i u v none within is variable e f before j z low = elim (cases_lt j i) [
  | inl l ↦ before j z l
  | inr high ↦
      let at : i ≡ j = omega arith in
      let here : is_some (variable_of u) ≡ true = subst (λ o. is_some o ≡ true) variable (e ∙ ap not f) in
      subst (λ p. is_some (variable_of (get_or args p z)) ≡ true) at (subst (λ w. is_some (variable_of w) ≡ true) (is ∙ get_or_default args i u z within) here)
]

-- one more argument that keeps its text
pub text-kept : (d : Declarations) (x y : Var) (args : List FlatTerm) (i : ℕ) (u : FlatTerm) → i < length args → u ≡ get_or args i u → KeepsText d x y u →
    ((j : ℕ) (z : FlatTerm) → j < i → KeepsText d x y (get_or args j z)) → (j : ℕ) (z : FlatTerm) → j < i + 1 → KeepsText d x y (get_or args j z)
text-kept d x y args i u within is k before j z low = elim (cases_lt j i) [
  | inl l ↦ before j z l
  | inr high ↦
      let at : i ≡ j = omega arith in
      subst (λ p. KeepsText d x y (get_or args p z)) at (subst (KeepsText d x y) (is ∙ get_or_default args i u z within) k)
]

-- all values keep their texts
pub all-kept-texts : (d : Declarations) (x y : Var) (s : Bindings) (vars : List Var) (i : ℕ) → length vars ≤ i → ((j : ℕ) (v : Var) → j < i → KeepsText d x y (value s (get_or vars j v))) →
    KeepsTexts d x y s vars
all-kept-texts d x y s vars i end kept z c =
    let low = c.1 in
    subst (λ v. KeepsText d x y (value s v)) c.2 (kept c.0 z (omega (arith, low, end)))

-- one more value
pub value-kept : (d : Declarations) (x y : Var) (s : Bindings) (vars : List Var) (i : ℕ) (e : Var) → i < length vars → KeepsText d x y (value s (get_or vars i e)) →
    ((j : ℕ) (v : Var) → j < i → KeepsText d x y (value s (get_or vars j v))) → (j : ℕ) (v : Var) → j < i + 1 → KeepsText d x y (value s (get_or vars j v))
value-kept d x y s vars i e within k before j v low = elim (cases_lt j i) [
  | inl l ↦ before j v l
  | inr high ↦
      let at : i ≡ j = omega arith in
      subst (λ p. KeepsText d x y (value s (get_or vars p v))) at (subst (λ z. KeepsText d x y (value s z)) (get_or_default vars i e v within) k)
]

module _ (d : Declarations) (printed : Printed) (order : List Var) (k j : ℕ) (tips : List Var) where
  pub first-at : (x : Var) (i : ℕ) (e : Var) → k ≤ i → i < j → i < length order → Contains tips (get_or order i e) × GoesFirst d printed (get_or order i e) x → HasFirst d printed order k j tips x
  first-at x i e from upto within t = record {
    place = i;
    from = from;
    upto = upto;
    tip = λ y. subst (Contains tips) (get_or_default order i e y within) t.0;
    first = λ y. subst (λ z. GoesFirst d printed z x) (get_or_default order i e y within) t.1;
  }

  pub passed-other : (e : Var) → j < length order → listed tips (get_or order j e) ≡ false → IsPassedOver d printed order k j tips
  passed-other e within other x c = absurd (not-listed tips (get_or order j e) other (subst (Contains tips) (get_or_default order j x e within) c))

  pub passed-first : (e : Var) → j < length order → HasFirst d printed order k j tips (get_or order j e) → IsPassedOver d printed order k j tips
  passed-first e within t x c = subst (HasFirst d printed order k j tips) (get_or_default order j e x within) t

-- one variable more that another one goes before
pub leads-further : (d : Declarations) (printed : Printed) (order : List Var) (k i : ℕ) (e : Var) → k < length order → i < length order → GoesFirst d printed (get_or order k e) (get_or order i e) →
    LeadsUpTo d printed order k i → LeadsUpTo d printed order k (i + 1)
leads-further d printed order k i e inside within first before j x y low high = elim (cases_lt j i) [
  | inl l ↦ before j x y low l
  | inr up ↦
      let at : i ≡ j = omega arith in
      subst (λ m. GoesFirst d printed (get_or order k x) (get_or order m y)) at
      (subst (λ z. GoesFirst d printed z (get_or order i y)) (get_or_default order k e x inside) (subst (GoesFirst d printed (get_or order k e)) (get_or_default order i e y within) first))
]
