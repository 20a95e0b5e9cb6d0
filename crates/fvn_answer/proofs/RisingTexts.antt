-- Texts of forms and of what is printed, where the numbers of two variables are exchanged.
use Rattle.std.proofs.Common.{◌≡◌, ◌⊎◌, inl, inr, ℕ, zero, suc, ◌+◌, ◌<◌, Bool, true, false, None, Some, List, [], ◌∷◌, ◌++◌, length, get_or, refl, sym, ap, ◌∙◌, subst, map, arith}
use Rattle.std.specs.Prelude.{decimal, codes, Contains}
use Rattle.std.specs.Option.{is_some}
use Rattle.std.specs.List.{AllByRecursion}
use Rattle.std.proofs.lemmas.Fmt.{decimal_digit}
use Rattle.std.proofs.lemmas.Bool.{cases_order}
use Rattle.std.proofs.lemmas.List.{get_or_default}
use Rattle.std.proofs.lemmas.List.Elements.{All-contains}
use Rattle.fvn_base.specs.Order.{IsBefore}
use Rattle.fvn_base.proofs.Membership.{contains_here, contains_later}
use Rattle.fvn_base.proofs.Order.{before_irrefl}
use Rattle.fvn_terms.specs.declared.plain.Var.{Var}
use Rattle.fvn_terms.specs.declared.plain.OpId.{OpId}
use Rattle.fvn_terms.specs.declared.plain.SortId.{SortId}
use Rattle.fvn_terms.specs.declared.declarations.Declarations.{Declarations}
use Rattle.fvn_terms.specs.Signature.{axioms}
use Rattle.fvn_terms.specs.Equality.{is_commutative}
use Rattle.fvn_forms.specs.Flat.{FlatTerm, fvar, fapp}
use Rattle.fvn_flat.specs.Bindings.{Bindings, bound, form_or, value}
use Rattle.fvn_flat.specs.Forms.{variable_of, head_of, args_of}
use Rattle.fvn_syntax.specs.declared.names.Names.{Names}
use Rattle.fvn_syntax.specs.Pieces.{Text}
use Rattle.fvn_problems.specs.Variables.{IsNamed}
use Rattle.fvn_answer.specs.declared.printed.Printed.{Printed}
use Rattle.fvn_answer.specs.declared.printed.Printed.TheVariants.{Alone, Values, Variant}
use Rattle.fvn_answer.specs.Numberings.{number}
use Rattle.fvn_answer.specs.Lines.{values, values_of, asked_name, text}
use Rattle.fvn_answer.specs.Writing.{text_of, sorted, written}
use Rattle.fvn_answer.specs.inner.Readable.{AreReadable}
use Rattle.fvn_answer.specs.inner.Bytes.{beside, with_pairs, over_texts, sorted_texts, arranged_texts, IsPrintable}
use Rattle.fvn_answer.specs.inner.Shown.{shown, value_texts, HavePrintable, CanPrint}
use Rattle.fvn_answer.specs.inner.Twins.{AreRaised, Rises, times, KeepsText, RaisesText, RaisesFirst, LowersNone, LowersNoPrinted, GoesFirst}
use Rattle.fvn_answer.proofs.Fronts.{all-sorted}
use Rattle.fvn_answer.proofs.NewFronts.{sorted-front}
use Rattle.fvn_answer.proofs.Numbers.{nobody, stands-numbered}
use Rattle.fvn_answer.proofs.TextOrder.{same, same_is, same_itself, count}
use Rattle.fvn_answer.proofs.Printing.{application-text, operator-filled, argument-printable}
use Rattle.fvn_answer.proofs.ValueTexts.{values-text, whole-text}
use Rattle.fvn_answer.proofs.TwinTexts.{old_text, new_text, variable-text, Kept, part, counts, some-at, values-same}
use Rattle.fvn_answer.proofs.Rising.{rises-append, rises-at_least, rises-not, Stays, stays-at_least, stays-behind, RisesAmong, over-rises, RisesAmongPairs, pairs-rise, length_sorted, count_sorted, sorted_ascending, IsApart, among-rises}

-- Variables.

-- a variable with a later number
pub number-rises : (d : Declarations) (names : Names) (n m : ℕ) (s q : SortId) → n < m → m < 10 → Rises (text_of (sorted d names (35 ∷ decimal n) s)) (text_of (sorted d names (35 ∷ decimal m) q))
number-rises d names n m s q h few =
    let f = sorted-front d names (35 ∷ decimal n) s in
    let g = sorted-front d names (35 ∷ decimal m) q in
    let digit : Rises ((48 + n) ∷ []) ((48 + m) ∷ []) = inl (omega arith) in
    let digits : Rises (decimal n) (decimal m) = subst (λ v. Rises v (decimal m)) (sym (decimal_digit n (omega arith))) (subst (Rises ((48 + n) ∷ [])) (sym (decimal_digit m few)) digit) in
    subst (λ v. Rises v (text_of (sorted d names (35 ∷ decimal m) q))) (sym f.1)
    (subst (Rises ((35 ∷ decimal n) ++ f.0)) (sym g.1) (rises-append (35 ∷ decimal n) (35 ∷ decimal m) f.0 g.0 (inr (refl, digits))))

-- variables with one number are one
same-number : (order : List Var) (x y : Var) → 0 < number order x → number order x ≡ number order y → x ≡ y
same-number order x y some e =
    let s = stands-numbered order x some in
    let t = stands-numbered order y (omega (arith, e)) in
    let sn = s.number_is in
    let tn = t.number_is in
    let at : s.at ≡ t.at = omega (arith, e, sn, tn) in
    sym s.is ∙ ap (λ i. get_or order i nobody) at ∙ t.is

-- Lists, of which the first texts are one.

module _ {A : Type 0} (f g : A → Text) where
  among : (l : List A) (i : ℕ) → i < length l → ((j : ℕ) (z : A) → j < i → g (get_or l j z) ≡ f (get_or l j z)) → ((z : A) → Rises (f (get_or l i z)) (g (get_or l i z))) →
      RisesAmong (map f l) (map g l)
  among [] i within kept raised = absurd (omega (arith, within))
  among (t ∷ l) zero within kept raised = inl (raised t)
  among (t ∷ l) (suc i) within kept raised =
      inr (sym (kept 0 t (omega arith)), among l i (omega (arith, within)) (λ j z low. kept (suc j) z (omega (arith, low))) (λ z. raised z))

-- Counts.

count-less : (a b : Bool) (new old n m : ℕ) → a ≡ true → b ≡ false → new + (part a n + part b m) ≡ old + (part b n + part a m) → m < n → new < old
count-less true false new old n m p q h l = omega (arith, h)
count-less true true new old n m p q h l = cc
count-less false b new old n m p q h l = cc

count-kept : (a b : Bool) (new old n m : ℕ) → a ≡ false → b ≡ false → new + (part a n + part b m) ≡ old + (part b n + part a m) → new ≡ old
count-kept false false new old n m p q h = omega (arith, h)
count-kept false true new old n m p q h = cc
count-kept true b new old n m p q h = cc

not-same : (q t : Text) → (q ≡ t → ⊥) → same q t ≡ false
not-same q t n = go (same q t) refl
  where
    go : (b : Bool) → same q t ≡ b → same q t ≡ false
    go true e = absurd (n (same_is q t e))
    go false e = e

module _ (d : Declarations) (names : Names) (x y : Var) (order other : List Var) (r : AreRaised x y order other) where
  abbrev pub old : FlatTerm → Text
  old = old_text d names x y order other r.exchanged

  abbrev pub new : FlatTerm → Text
  new = new_text d names x y order other r.exchanged

  -- x itself
  pub variable-rises : Rises (old (fvar x)) (new (fvar x))
  variable-rises =
      let e = r.exchanged.first in
      let l = r.lesser in
      number-rises d names (number order x) (number other x) x.sort x.sort (omega (arith, e, l)) (r.few x)

  second-rises : Rises (old (fvar x)) (old (fvar y))
  second-rises =
      let e = r.exchanged.first in
      let f = r.few x in
      number-rises d names (number order x) (number order y) x.sort y.sort r.lesser (omega (arith, e, f))

  -- Arguments that are variables and may be exchanged.

  apart : (z : Var) → IsApart (old (fvar x)) (new (fvar z))
  apart z differs before = elim (cases_order (number order x) (number other z)) [
    | inl e ↦
        let second = r.exchanged.second in
        let some = r.some in
        let zy : y ≡ z = same-number other y z (omega (arith, second, some)) (second ∙ e) in
        absurd (differs (ap (λ v. new (fvar v)) (sym zy) ∙ variable-text d names x y order other r.exchanged y x r.exchanged.second (sym r.exchanged.sort)))
    | inr n ↦ elim n [
      | inl l ↦ number-rises d names (number order x) (number other z) x.sort z.sort l (r.few z)
      | inr l ↦
          let e = r.exchanged.first in
          let f = r.few x in
          let k = r.lesser in
          absurd (rises-at_least (new (fvar z)) (old (fvar x)) (number-rises d names (number other z) (number order x) z.sort x.sort l (omega (arith, e, f, k))) before)
    ]
  ]

  abbrev pub AreVariables : List FlatTerm → Type 0
  AreVariables ts = (i : ℕ) (z : FlatTerm) → i < length ts → is_some (variable_of (get_or ts i z)) ≡ true

  all-apart : (ts : List FlatTerm) → AreVariables ts → AllByRecursion (IsApart (old (fvar x))) (map new ts)
  all-apart [] vs = tt
  all-apart (fvar z ∷ ts) vs = (apart z, all-apart ts (λ i z low. vs (suc i) z (omega (arith, low))))
  all-apart (fapp f joined us ∷ ts) vs = let n : false ≡ true = vs 0 (fapp f joined us) (omega arith) in cc

  all-kept : (ts : List FlatTerm) → AreVariables ts → AllByRecursion (Kept d names x y order other r.exchanged true) ts
  all-kept [] vs = tt
  all-kept (t ∷ ts) vs = (inl (refl, vs 0 t (omega arith)), all-kept ts (λ i z low. vs (suc i) z (omega (arith, low))))

  all-counts : (q : Text) (ts : List FlatTerm) → AreVariables ts →
      count q (map new ts) + (part (same q (old (fvar x))) (times x ts) + part (same q (old (fvar y))) (times y ts))
      ≡ count q (map old ts) + (part (same q (old (fvar y))) (times x ts) + part (same q (old (fvar x))) (times y ts))
  all-counts q ts vs = counts d names x y order other r.exchanged q ts (all-kept ts vs)

  pub sums-rise : (ts : List FlatTerm) → AreVariables ts → times y ts < times x ts → RisesAmong (sorted_texts (map old ts)) (sorted_texts (map new ts))
  sums-rise ts vs more =
      among-rises (old (fvar x)) (sorted_texts (map old ts)) (sorted_texts (map new ts)) (sorted_ascending (map old ts)) (sorted_ascending (map new ts)) long
      (all-sorted (IsApart (old (fvar x))) (map new ts) (all-apart ts vs))
      (λ q before. count_sorted q (map new ts) ∙ kept q before ∙ sym (count_sorted q (map old ts))) often
    where
      lengths : (f g : FlatTerm → Text) (ts : List FlatTerm) → length (map f ts) ≡ length (map g ts)
      lengths f g [] = refl
      lengths f g (t ∷ ts) = let a = lengths f g ts in omega (arith, a)

      long : length (sorted_texts (map old ts)) ≡ length (sorted_texts (map new ts))
      long = length_sorted (map old ts) ∙ lengths old new ts ∙ sym (length_sorted (map new ts))

      kept : (q : Text) → IsBefore q (old (fvar x)) → count q (map new ts) ≡ count q (map old ts)
      kept q before =
          count-kept (same q (old (fvar x))) (same q (old (fvar y))) (count q (map new ts)) (count q (map old ts)) (times x ts) (times y ts)
          (not-same q (old (fvar x)) (λ e. rises-not-before q before e))
          (not-same q (old (fvar y)) (λ e. rises-at_least (old (fvar x)) (old (fvar y)) second-rises (subst (λ v. IsBefore v (old (fvar x))) e before)))
          (all-counts q ts vs)
        where
          rises-not-before : (q : Text) → IsBefore q (old (fvar x)) → q ≡ old (fvar x) → ⊥
          rises-not-before q before e = before_irrefl (old (fvar x)) (subst (λ v. IsBefore v (old (fvar x))) e before)

      often : count (old (fvar x)) (sorted_texts (map new ts)) < count (old (fvar x)) (sorted_texts (map old ts))
      often =
          let s = old (fvar x) in
          let a = count_sorted s (map new ts) in
          let b = count_sorted s (map old ts) in
          let l = count-less (same s (old (fvar x))) (same s (old (fvar y))) (count s (map new ts)) (count s (map old ts)) (times x ts) (times y ts) (same_itself s)
          (not-same s (old (fvar y)) (λ e. rises-not s (subst (Rises s) (sym e) second-rises))) (all-counts s ts vs) more in
          omega (arith, a, b, l)

-- Forms.

module _ (d : Declarations) (x y : Var) where
  pub raises-variable : (t : FlatTerm) (z : Var) → variable_of t ≡ Some z → z ≡ x → RaisesText d x y t
  raises-variable (fvar v) z e is names readable p order other r =
      let vx : v ≡ x = cc in
      subst (λ u. Rises (text_of (written d names order (fvar u))) (text_of (written d names other (fvar u)))) (sym vx) (variable-rises d names x y order other r)
  raises-variable (fapp f joined ts) z e is names readable p order other r = cc

  -- a variable without a value
  pub raises-unbound : (s : Bindings) (z : Var) → bound s z ≡ None → z ≡ x → RaisesText d x y (value s z)
  raises-unbound s z e is = subst (λ o. RaisesText d x y (form_or z o)) (sym e) (raises-variable (fvar z) z refl is)

  -- a name over arguments
  raises-over : (f : OpId) (t : FlatTerm) → head_of t ≡ Some f → (names : Names) (readable : AreReadable d names) → IsPrintable d t → (order other : List Var) →
      RisesAmong (arranged_texts (axioms d f) (map (λ u. text_of (written d names order u)) (args_of t))) (arranged_texts (axioms d f) (map (λ u. text_of (written d names other u)) (args_of t))) →
      Rises (text_of (written d names order t)) (text_of (written d names other t))
  raises-over f (fvar v) h names readable p order other r = cc
  raises-over f (fapp g joined ts) h names readable p order other r =
      let t = fapp g joined ts in
      let fg : f ≡ g = cc in
      let op = some-at names.ops f.0 (let l = readable.op_names in let m : f.0 < length d.ops = subst (λ (k : OpId). k.0 < length d.ops) (sym fg) p.0 in omega (arith, l, m)) in
      let full = operator-filled d names readable in
      let before = arranged_texts (axioms d f) (map (λ u. text_of (written d names order u)) (args_of t)) in
      let after = arranged_texts (axioms d f) (map (λ u. text_of (written d names other u)) (args_of t)) in
      subst (Rises (text_of (written d names order t))) (application-text d names full other f t h p op.0 op.1)
      (subst (λ v. Rises v (over_texts op.0 after)) (application-text d names full order f t h p op.0 op.1) (over-rises op.0 before after r))

  -- the first argument that does not keep its text
  pub raises-application : (f : OpId) (t : FlatTerm) → head_of t ≡ Some f → is_commutative (axioms d f) ≡ false → (items : List FlatTerm) → items ≡ args_of t → (i : ℕ) → i < length items →
      ((j : ℕ) (z : FlatTerm) → j < i → KeepsText d x y (get_or items j z)) → (u : FlatTerm) → u ≡ get_or items i u → RaisesText d x y u → RaisesText d x y t
  raises-application f t h free items all i within kept u is raised names readable p order other r =
      raises-over f t h names readable p order other
      (rw free
      (subst (λ l. RisesAmong (map (λ u. text_of (written d names order u)) l) (map (λ u. text_of (written d names other u)) l)) all
      (among (λ u. text_of (written d names order u)) (λ u. text_of (written d names other u)) items i within
      (λ j z low. kept j z low names readable
      (argument-printable d t items j (get_or items j z) p all (omega (arith, low, within)) (get_or_default items j z (get_or items j z) (omega (arith, low, within)))) order other r.exchanged)
      (λ z. subst (λ v. Rises (text_of (written d names order v)) (text_of (written d names other v))) (is ∙ get_or_default items i u z within)
      (raised names readable (argument-printable d t items i u p all within is) order other r)))))

  -- arguments that are variables and may be exchanged
  pub raises-sum : (f : OpId) (t : FlatTerm) → head_of t ≡ Some f → is_commutative (axioms d f) ≡ true →
      ((i : ℕ) (z : FlatTerm) → i < length (args_of t) → is_some (variable_of (get_or (args_of t) i z)) ≡ true) → times y (args_of t) < times x (args_of t) → RaisesText d x y t
  raises-sum f t h exchange vs more names readable p order other r =
      raises-over f t h names readable p order other (rw exchange (sums-rise d names x y order other r (args_of t) vs more))

  -- What is printed.

  module _ (names : Names) (texts : List Text) (readable : AreReadable d names) (order other : List Var) (r : AreRaised x y order other) where
    pairs-raised : (s : Bindings) (vars : List Var) → ((z : Var) → Contains vars z → IsPrintable d (value s z)) → (i : ℕ) → i < length vars →
        ((j : ℕ) (v : Var) → j < i → KeepsText d x y (value s (get_or vars j v))) → ((v : Var) → RaisesText d x y (value s (get_or vars i v))) →
        RisesAmongPairs (map (value_texts d texts names order s) vars) (map (value_texts d texts names other s) vars)
    pairs-raised s [] p i within kept raised = absurd (omega (arith, within))
    pairs-raised s (z ∷ vars) p zero within kept raised = inl (refl, raised z names readable (p z (contains_here z vars)) order other r)
    pairs-raised s (z ∷ vars) p (suc i) within kept raised =
        let one = sym (kept 0 z (omega arith) names readable (p z (contains_here z vars)) order other r.exchanged) in
        inr (
          ap (λ t. (text_of (sorted d names (asked_name d names texts z) z.sort), t)) one,
          pairs-raised s vars (λ v c. p v (contains_later z vars v c)) i (omega (arith, within)) (λ j v low. kept (suc j) v (omega (arith, low))) (λ v. raised v),
        )

    values-stay : (s : Bindings) (vars : List Var) → HavePrintable d texts s vars → LowersNone d x y s vars →
        Stays (text d names texts order (values (values_of s vars))) (text d names texts other (values (values_of s vars)))
    values-stay s vars p (inl k) = inl (values-same d x y names texts readable order other r.exchanged s vars p k)
    values-stay s vars p (inr f) =
        let old = with_pairs true (codes "{") (map (value_texts d texts names order s) vars) in
        let new = with_pairs true (codes "{") (map (value_texts d texts names other s) vars) in
        let printable : (z : Var) → Contains vars z → IsPrintable d (value s z) = λ z c. (All-contains (λ v. IsNamed d texts v × IsPrintable d (value s v)) vars z p c).1 in
        let raised : Rises old new = pairs-rise true (codes "{") (map (value_texts d texts names order s) vars) (map (value_texts d texts names other s) vars)
        (pairs-raised s vars printable f.place f.within f.kept f.raised) in
        let ended : Rises (beside old 125) (beside new 125) = rises-append old new _ _ raised in
        inr (subst (Rises (text d names texts order (values (values_of s vars)))) (values-text d names readable texts other s vars p)
        (subst (λ v. Rises v (beside new 125)) (values-text d names readable texts order s vars p) ended))

    printed-stays : (printed : Printed) → CanPrint d texts printed → LowersNoPrinted d x y printed → Stays (text d names texts order (shown printed)) (text d names texts other (shown printed))
    printed-stays (Alone t) p (inl k) = inl (k names readable p order other r.exchanged)
    printed-stays (Alone t) p (inr k) = inr (k names readable p order other r)
    printed-stays (Values s vars) p h = values-stay s.now vars.now p h
    printed-stays (Variant t s vars) p h =
        let space : Text = 32 ∷ [] in
        let old = text_of (written d names order t.now) ++ space ++ text d names texts order (values (values_of s.now vars.now)) in
        let new = text_of (written d names other t.now) ++ space ++ text d names texts other (values (values_of s.now vars.now)) in
        let stays : Stays old new = go h in
        subst (Stays (text d names texts order (shown (Variant t s vars)))) (whole-text d names readable texts other s.now t.now vars.now)
        (subst (λ v. Stays v new) (whole-text d names readable texts order s.now t.now vars.now) stays)
      where
        go : RaisesText d x y t.now ⊎ (KeepsText d x y t.now × LowersNone d x y s.now vars.now) →
            Stays (text_of (written d names order t.now) ++ (32 ∷ []) ++ text d names texts order (values (values_of s.now vars.now)))
            (text_of (written d names other t.now) ++ (32 ∷ []) ++ text d names texts other (values (values_of s.now vars.now)))
        go (inl k) =
            inr (rises-append (text_of (written d names order t.now) ++ (32 ∷ [])) (text_of (written d names other t.now) ++ (32 ∷ [])) _ _
            (rises-append (text_of (written d names order t.now)) (text_of (written d names other t.now)) (32 ∷ []) (32 ∷ []) (k names readable p.0 order other r)))
        go (inr k) =
            let same = sym (k.0 names readable p.0 order other r.exchanged) in
            subst (λ v. Stays (text_of (written d names order t.now) ++ (32 ∷ []) ++ text d names texts order (values (values_of s.now vars.now)))
            (v ++ (32 ∷ []) ++ text d names texts other (values (values_of s.now vars.now)))) same
            (stays-behind (text_of (written d names order t.now) ++ (32 ∷ [])) _ _ (values-stay s.now vars.now p.1 k.1))

  pub first-by : (printed : Printed) → x.sort ≡ y.sort → LowersNoPrinted d x y printed → GoesFirst d printed x y
  first-by printed e h = record {
    sort = e;
    least = λ names texts readable p order other r.
        stays-at_least (text d names texts order (shown printed)) (text d names texts other (shown printed)) (printed-stays names texts readable order other r printed p h);
  }

-- the first value that does not keep its text
pub first-raised : (d : Declarations) (x y : Var) (s : Bindings) (vars : List Var) (i : ℕ) (e : Var) → i < length vars → RaisesText d x y (value s (get_or vars i e)) →
    ((j : ℕ) (v : Var) → j < i → KeepsText d x y (value s (get_or vars j v))) → RaisesFirst d x y s vars
first-raised d x y s vars i e within raised kept = record {
  place = i;
  within = within;
  kept = kept;
  raised = λ v. subst (λ z. RaisesText d x y (value s z)) (get_or_default vars i e v within) raised;
}
