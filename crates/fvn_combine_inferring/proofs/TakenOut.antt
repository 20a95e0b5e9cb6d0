-- Lists of which something is taken out.
use Rattle.std.proofs.Common.{◌≡◌, ℕ, ◌+◌, ◌<◌, suc, true, List, [], ◌∷◌, ◌++◌, length, take, drop, get_or, refl, sym, ap, ◌∙◌, subst, arith, All, Option, Some}
use Rattle.std.specs.Prelude.{IfSome, sum_by}
use Rattle.std.specs.List.{remove}
use Rattle.std.proofs.lemmas.List.{take-take, get_or-take, length-take-le}
use Rattle.std.proofs.lemmas.List.Elements.{All-nil, All-append, All-take, All-drop, All-push}
use Rattle.std.proofs.lemmas.List.Sums.{sum_by-remove, sum_by_more, sum_by_push}
use Rattle.fvn_combine_inferring.specs.inner.Lists.{IsTakenOut, IsCancelled, IsWithout}

-- one number is removed
pub removed : (xs : List ℕ) (j x : ℕ) → j < length xs → get_or xs j 0 ≡ x → IsTakenOut xs (remove xs j) x true
removed xs j x l e = (
  λ w. ap (λ y. sum_by w (remove xs j) + w y) (sym e) ∙ sum_by-remove w xs j 0 l,
  λ n h. All-append (λ k. k < n) (take j xs) (drop (suc j) xs) (All-take (λ k. k < n) j xs h) (All-drop (λ k. k < n) (suc j) xs h),
)

-- what holds of a longer front holds of a shorter one
shorter : (P : ℕ → Type 0) (xs : List ℕ) (i : ℕ) → All P (take (i + 1) xs) → All P (take i xs)
shorter P xs i h = subst (All P) (take-take i (i + 1) xs (omega arith)) (All-take P i (take (i + 1) xs) h)

last_of : (P : ℕ → Type 0) (xs : List ℕ) (i : ℕ) → i < length xs → All P (take (i + 1) xs) → P (get_or xs i 0)
last_of P xs i l h = subst P (get_or-take (i + 1) xs i 0 (omega arith)) (h i 0 (let n = length-take-le (i + 1) xs (omega (arith, l)) in omega (arith, n)))

pub cancelled_none : (left right : List ℕ) → IsCancelled left (take 0 right) left []
cancelled_none left right = record { balance = λ w. refl; below_left = λ n h. h; below_right = λ n h. All-nil (λ k. k < n) }

-- one more is taken out of both, or kept
pub cancelled_more : (left right now rest after : List ℕ) (i x : ℕ) → i < length right → x ≡ get_or right i 0 → IsCancelled left (take i right) now rest → IsTakenOut now after x true → IsCancelled left (take (i + 1) right) after rest
cancelled_more left right now rest after i x l e h out = record {
  balance = λ w.
      let a = h.balance w in
      let b = out.0 w in
      let c = sum_by_more w right i 0 l in
      let d = ap w e in
      omega (arith, a, b, c, d);
  below_left = λ n m. out.1 n (h.below_left n m);
  below_right = λ n m. h.below_right n (shorter (λ k. k < n) right i m);
}

pub kept_more : (left right now rest after : List ℕ) (i x : ℕ) → i < length right → x ≡ get_or right i 0 → IsCancelled left (take i right) now rest → after ≡ now → IsCancelled left (take (i + 1) right) after (rest ++ x ∷ [])
kept_more left right now rest after i x l e h same = subst (λ n. IsCancelled left (take (i + 1) right) n (rest ++ x ∷ [])) (sym same) (record {
  balance = λ w.
      let a = h.balance w in
      let b = sum_by_push w rest x in
      let c = sum_by_more w right i 0 l in
      let d = ap w e in
      omega (arith, a, b, c, d);
  below_left = h.below_left;
  below_right = λ n m. All-push (λ k. k < n) rest x (h.below_right n (shorter (λ k. k < n) right i m)) (subst (λ k. k < n) (sym e) (last_of (λ k. k < n) right i l m));
})

-- nothing is left out yet
pub without_none : (given : Option ℕ) (list : List ℕ) → IsWithout given (take 0 list) []
without_none given list = record { balance = λ w z. refl; below = λ n h. All-nil (λ k. k < n) }

weightless : (given : Option ℕ) (x : ℕ) (w : ℕ → ℕ) → given ≡ Some x → IfSome given (λ e. w e ≡ 0) → w x ≡ 0
weightless given x w e h = subst (λ o. IfSome o (λ e. w e ≡ 0)) e h

pub without_more : (given : Option ℕ) (list kept : List ℕ) (i x : ℕ) → i < length list → x ≡ get_or list i 0 → IsWithout given (take i list) kept → given ≡ Some x → IsWithout given (take (i + 1) list) kept
without_more given list kept i x l e h is = record {
  balance = λ w z.
      let a = h.balance w z in
      let b = weightless given x w is z in
      let c = sum_by_more w list i 0 l in
      let d = ap w e in
      omega (arith, a, b, c, d);
  below = λ n m. h.below n (shorter (λ k. k < n) list i m);
}

pub with_more : (given : Option ℕ) (list kept : List ℕ) (i x : ℕ) → i < length list → x ≡ get_or list i 0 → IsWithout given (take i list) kept → IsWithout given (take (i + 1) list) (kept ++ x ∷ [])
with_more given list kept i x l e h = record {
  balance = λ w z.
      let a = h.balance w z in
      let b = sum_by_push w kept x in
      let c = sum_by_more w list i 0 l in
      let d = ap w e in
      omega (arith, a, b, c, d);
  below = λ n m. All-push (λ k. k < n) kept x (h.below n (shorter (λ k. k < n) list i m)) (subst (λ k. k < n) (sym e) (last_of (λ k. k < n) list i l m));
}
