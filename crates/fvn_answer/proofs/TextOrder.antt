-- Texts in byte order: what a sort gives.
use Rattle.std.proofs.Common.{◌≡◌, ◌≢◌, suc, ◌+◌, ◌≤◌, ℕ, Bool, true, false, List, [], ◌∷◌, refl, sym, ap, ◌∙◌, arith}
use native.Mathlib.Numerals.{unary_clauses}
use Rattle.std.specs.Prelude.{if◌then◌else◌, map, sum_by}
use Rattle.std.specs.declared.cmp.Ordering.{Ordering}
use Rattle.std.specs.declared.cmp.Ordering.TheVariants.{Less, Equal, Greater}
use Rattle.std.specs.Ordering.{ordering_reverse, is_gt, is_lt, is_eq, nat_cmp}
use Rattle.std.specs.Cmp.Lexicographic.{slice_cmp, bytes_decides, texts_ties, nat_list_cmp_total}
use Rattle.std.specs.List.Sorted.{IsPermutation, IsSorted}
use Rattle.std.proofs.lemmas.Cmp.{upto}
use Rattle.std.proofs.lemmas.List.Sums.{sum_by-cons}
use Rattle.std.proofs.lemmas.List.Sorted.{sum_by-IsPermutation}
use Rattle.fvn_base.specs.Order.{IsBefore}
use Rattle.fvn_syntax.specs.Pieces.{Text}
use Rattle.fvn_terms.specs.declared.declarations.Axioms.{Axioms}
use Rattle.fvn_terms.specs.Equality.{is_commutative}
use Rattle.fvn_answer.specs.Writing.{is_after}
use Rattle.fvn_answer.specs.inner.Bytes.{put_text, sorted_texts, arranged_texts}
use Rattle.fvn_answer.proofs.Least.{before-lt}

abbrev text_cmp : Text → Text → Ordering
text_cmp = slice_cmp nat_cmp

turned : (r : Ordering) → is_gt r ≡ true → is_gt (ordering_reverse r) ≡ false
turned Less e = cc
turned Equal e = cc
turned Greater e = refl

between : (r : Ordering) → is_gt r ≡ false → is_gt (ordering_reverse r) ≡ false → is_eq r ≡ true
between Less e h = cc
between Equal e h = refl
between Greater e h = cc

-- whether the two texts are one
abbrev pub same : Text → Text → Bool
same s t = is_eq (text_cmp s t)

pub same_is : (s t : Text) → same s t ≡ true → s ≡ t
same_is s t e = (bytes_decides s t).0 (texts_ties s t ∙ e)

pub same_itself : (s : Text) → same s s ≡ true
same_itself s = sym (texts_ties s s) ∙ (bytes_decides s s).1 refl

pub not_after : (t u : Text) → is_after t u ≡ true → is_after u t ≡ false
not_after t u e = rw (nat_list_cmp_total.antisymm u t) (turned (text_cmp t u) e)

pub neither_after : (t u : Text) → is_after t u ≡ false → is_after u t ≡ false → t ≡ u
neither_after t u e h = same_is t u (between (text_cmp t u) e (rw (nat_list_cmp_total.antisymm u t) at h))

pub after_trans : (t u v : Text) → is_after t u ≡ false → is_after u v ≡ false → is_after t v ≡ false
after_trans t u v = upto nat_list_cmp_total t u v

two_turned : (t u : Text) (l : List Text) (c e : Bool) → is_after t u ≡ c → is_after u t ≡ e → (if c then u ∷ t ∷ l else t ∷ u ∷ l) ≡ (if e then t ∷ u ∷ l else u ∷ t ∷ l)
two_turned t u l true true p q = cc (not_after t u p)
two_turned t u l true false p q = refl
two_turned t u l false true p q = refl
two_turned t u l false false p q = let e = neither_after t u p q in λ i. e i ∷ sym e i ∷ l

pub put-put : (t u : Text) (l : List Text) → put_text t (put_text u l) ≡ put_text u (put_text t l)
put-put t u [] = two_turned t u [] (is_after t u) (is_after u t) refl refl
put-put t u (v ∷ l) = go (is_after t v) (is_after u v) (is_after t u) (is_after u t) refl refl refl refl (put-put t u l)
  where
    go : (a b c e : Bool) → is_after t v ≡ a → is_after u v ≡ b → is_after t u ≡ c → is_after u t ≡ e → put_text t (put_text u l) ≡ put_text u (put_text t l) → put_text t (put_text u (v ∷ l)) ≡ put_text u (put_text t (v ∷ l))
    go true true c e pa pb pc pe ih = simp (pa, pb) (ap (λ m. v ∷ m) ih)
    go true false true e pa pb pc pe ih = simp (pa, pb, pc)
    go true false false e pa pb pc pe ih = cc (after_trans t u v pc pb)
    go false true c true pa pb pc pe ih = simp (pa, pb, pe)
    go false true c false pa pb pc pe ih = cc (after_trans u t v pe pa)
    go false false c e pa pb pc pe ih = simp (pa, pb, pc, pe) (two_turned t u (v ∷ l) c e pc pe)

-- 1 where it is true, else 0
abbrev pub one_if : Bool → ℕ
one_if true = 1
one_if false = 0

-- how often q stands in the list
abbrev pub count : Text → List Text → ℕ
count q [] = 0
count q (t ∷ l) = one_if (same q t) + count q l

pub count_itself : (q : Text) (l : List Text) → count q (q ∷ l) ≡ 1 + count q l
count_itself q l = ap (λ b. one_if b + count q l) (same_itself q)

-- without the first that is q
abbrev remove : Text → List Text → List Text
remove q [] = []
remove q (t ∷ l) = if same q t then l else t ∷ remove q l

count_remove : (q p : Text) (l : List Text) → 1 ≤ count q l → one_if (same p q) + count p (remove q l) ≡ count p l
count_remove q p [] h = absurd (omega arith)
count_remove q p (t ∷ l) h = go (same q t) refl (λ k. count_remove q p l k)
  where
    go : (b : Bool) → same q t ≡ b → (1 ≤ count q l → one_if (same p q) + count p (remove q l) ≡ count p l) →
        one_if (same p q) + count p (remove q (t ∷ l)) ≡ one_if (same p t) + count p l
    go true e ih = rw e (ap (λ u. one_if (same p u) + count p l) (same_is q t e))
    go false e ih =
        let below : 1 ≤ 0 + count q l = rw e at h in
        let rest = ih (omega arith) in
        rw e (omega arith)

put_remove : (q : Text) (l : List Text) → 1 ≤ count q l → put_text q (sorted_texts (remove q l)) ≡ sorted_texts l
put_remove q [] h = absurd (omega arith)
put_remove q (t ∷ l) h = go (same q t) refl (λ k. put_remove q l k)
  where
    go : (b : Bool) → same q t ≡ b → (1 ≤ count q l → put_text q (sorted_texts (remove q l)) ≡ sorted_texts l) → put_text q (sorted_texts (remove q (t ∷ l))) ≡ put_text t (sorted_texts l)
    go true e ih = rw e (ap (λ u. put_text u (sorted_texts l)) (same_is q t e))
    go false e ih =
        let below : 1 ≤ 0 + count q l = rw e at h in
        rw e (put-put q t (sorted_texts (remove q l)) ∙ ap (put_text t) (ih (omega arith)))

pub same_counts : (l m : List Text) → ((q : Text) → count q l ≡ count q m) → sorted_texts l ≡ sorted_texts m
same_counts [] [] h = refl
same_counts [] (u ∷ m) h = let e : 0 ≡ 1 + count u m = h u ∙ count_itself u m in absurd (omega arith)
same_counts (t ∷ l) m h =
    let e : 1 + count t l ≡ count t m = sym (count_itself t l) ∙ h t in
    let within : 1 ≤ count t m = omega arith in
    let rest : (q : Text) → count q l ≡ count q (remove t m) = λ q. let a = count_remove t q m within in let b = h q in omega arith in
    ap (put_text t) (same_counts l (remove t m) rest) ∙ put_remove t m within

-- each text stands after none of those behind it
abbrev pub InOrder : List Text → Type 0
InOrder [] = Unit {0}
InOrder (t ∷ []) = Unit {0}
InOrder (t ∷ u ∷ l) = (is_after t u ≡ false) × InOrder (u ∷ l)

sorted_in_order : (l : List Text) → InOrder l → sorted_texts l ≡ l
sorted_in_order [] h = refl
sorted_in_order (t ∷ []) h = refl
sorted_in_order (t ∷ u ∷ l) h = ap (put_text t) (sorted_in_order (u ∷ l) h.1) ∙ rw h.0 refl

-- what a sort ensures of lists that stand for texts
module _ {V : Type 0} (f : V → Text) where
  count_is_sum : (q : Text) (l : List V) → count q (map f l) ≡ sum_by (λ v. one_if (same q (f v))) l
  count_is_sum q [] = refl
  count_is_sum q (v ∷ l) = ap (λ n. one_if (same q (f v)) + n) (count_is_sum q l) ∙ sym (sum_by-cons (λ u. one_if (same q (f u))) v l)

  permutation_counts : (l m : List V) → IsPermutation l m → (q : Text) → count q (map f l) ≡ count q (map f m)
  permutation_counts l m h q = count_is_sum q l ∙ sym (sum_by-IsPermutation (λ v. one_if (same q (f v))) l m h) ∙ sym (count_is_sum q m)

  reversed : (r : Ordering) → is_lt (ordering_reverse r) ≡ is_gt r
  reversed Less = refl
  reversed Equal = refl
  reversed Greater = refl

  pub in_order : (l : List V) → IsSorted (λ v w. text_cmp (f v) (f w)) l → InOrder (map f l)
  in_order [] h = tt
  in_order (t ∷ []) h = tt
  in_order (t ∷ u ∷ l) h = (
    sym (reversed (text_cmp (f t) (f u))) ∙ ap is_lt (sym (nat_list_cmp_total.antisymm (f u) (f t))) ∙ h 0 t (omega arith) (omega arith),
    in_order (u ∷ l) (λ k d low high. simp unary_clauses (simp unary_clauses at (h (suc k) d (omega arith) (omega arith)))),
  )

  pub sorted_is : (l m : List V) → IsPermutation l m → IsSorted (λ v w. text_cmp (f v) (f w)) m → map f m ≡ sorted_texts (map f l)
  sorted_is l m p s = sym (sorted_in_order (map f m) (in_order m s)) ∙ sym (same_counts (map f l) (map f m) (permutation_counts l m p))

-- arguments that may be exchanged are put in byte order
pub arranged-sorted : (a : Axioms) → is_commutative a ≡ true → (ts : List Text) → arranged_texts a ts ≡ sorted_texts ts
arranged-sorted a e ts = rw e refl

-- a text that does not stand after another one stands before it, where the two differ
pub not-after-before : (s t : Text) → is_after s t ≡ false → s ≢ t → IsBefore s t
not-after-before s t e n = go (text_cmp s t) refl
  where
    go : (r : Ordering) → text_cmp s t ≡ r → IsBefore s t
    go Less h = before-lt s t (ap is_lt h)
    go Equal h = absurd (n (same_is s t (ap is_eq h)))
    go Greater h = let q : true ≡ false = ap is_gt (sym h) ∙ e in cc
