-- What the cursors of wheels tell of the wheels.
use Rattle.std.proofs.Common.{◌≡◌, ℕ, ◌+◌, ◌<◌, ◌≤◌, ◌≢◌, ◌⊎◌, List, length, get_or, set, map, inl, inr, sym, ◌∙◌, ap, subst, arith, Option, Some, None}
use Rattle.std.specs.Prelude.{IfSome}
use Rattle.std.proofs.lemmas.Bool.{cases_order}
use Rattle.std.proofs.lemmas.List.{get_or-map, get_or-set_same, get_or-set_other, length-map}
use Rattle.fvn_acunify.specs.Cursor.{Cursor, Pending}
use Rattle.fvn_acunify_product.specs.Wheels.{Wheel, IsChoice, wheel_of}
use Rattle.fvn_acunify_product.specs.inner.Steps.{IsLast, IsMoved, Stand}

pub wheel_at : (ws : List Cursor) (i : ℕ) (x e : Cursor) → i < length ws → x ≡ get_or ws i e → (d : Wheel) → get_or (map wheel_of ws) i d ≡ wheel_of x
wheel_at ws i x e l is d = get_or-map wheel_of ws i e d l ∙ ap wheel_of (sym is)

pub stand_more : (ws : List Cursor) (numbers : List ℕ) (from p : ℕ) (v : Cursor) (n : ℕ) → p < length ws → p < length numbers → v.below ≡ n → Stand ws numbers from p → Stand (set ws p v) (set numbers p n) from (p + 1)
stand_more ws numbers from p v n l m e stand k c f h = go (cases_order k p)
  where
    go : (k ≡ p) ⊎ ((k < p) ⊎ (p < k)) → (get_or (set ws p v) k c).below ≡ get_or (set numbers p n) k 0
    go (inl g) =
        subst (λ j. (get_or (set ws p v) j c).below ≡ get_or (set numbers p n) j 0) (sym g)
        (ap (λ w. w.below) (get_or-set_same ws p v c l) ∙ e ∙ sym (get_or-set_same numbers p n 0 m))
    go (inr (inl b)) =
        let other : k ≢ p = omega arith in
        ap (λ w. w.below) (get_or-set_other ws p k v c other) ∙ stand k c f b ∙ sym (get_or-set_other numbers p k n 0 other)
    go (inr (inr a)) = absurd (omega arith)

-- a wheel without a next choice has given its last
pub last_here : (ws : List Cursor) (numbers : List ℕ) (i : ℕ) (x e : Cursor) → i < length ws → x ≡ get_or ws i e → Stand ws numbers 0 (length ws) → ((a : ℕ) → Pending x a → ⊥) → IsLast IsChoice (map wheel_of ws) numbers i
last_here ws numbers i x e l is stand none d a may = go (cases_order a x.below)
  where
    at : x.below ≡ get_or numbers i 0
    at = ap (λ w. w.below) is ∙ stand i e (omega arith) l

    valid : IsChoice (wheel_of x) a
    valid = subst (λ w. IsChoice w a) (wheel_at ws i x e l is d) may

    go : (a ≡ x.below) ⊎ ((a < x.below) ⊎ (x.below < a)) → get_or numbers i 0 ≤ a
    go (inl f) = omega (arith, at, f)
    go (inr (inl b)) = absurd (none a (b, valid))
    go (inr (inr m)) = omega (arith, at)

-- a wheel that gives its next choice moves, where those after it have given their last
pub moved_here : (ws : List Cursor) (numbers : List ℕ) (i : ℕ) (x e : Cursor) (n : ℕ) → i < length ws → length numbers ≡ length ws → x ≡ get_or ws i e → Stand ws numbers 0 (length ws) → Pending x n × ((a : ℕ) → Pending x a → a ≤ n) → ((k : ℕ) → i < k → k < length ws → IsLast IsChoice (map wheel_of ws) numbers k) → IsMoved IsChoice (map wheel_of ws) i numbers (set numbers i n)
moved_here ws numbers i x e n l s is stand greatest last =
    let at : x.below ≡ get_or numbers i 0 = ap (λ w. w.below) is ∙ stand i e (omega arith) l in
    let here : get_or (set numbers i n) i 0 ≡ n = get_or-set_same numbers i n 0 (omega (arith, s, l)) in
    let low : n < x.below = greatest.0.0 in
    record {
      within = omega (arith, l, length-map ws wheel_of);
      front = λ k h. (let other : k ≢ i = omega arith in get_or-set_other numbers i k n 0 other);
      falls = omega (arith, here, at, low);
      may = λ d. subst (λ m. IsChoice (get_or (map wheel_of ws) i d) m) (sym here) (subst (λ w. IsChoice w n) (sym (wheel_at ws i x e l is d)) greatest.0.1);
      next = λ d a may h. (let most : a ≤ n = greatest.1 a (omega (arith, at, h), subst (λ w. IsChoice w a) (wheel_at ws i x e l is d) may) in omega (arith, here, most));
      last = λ k h w. last k h (omega (arith, w, length-map ws wheel_of));
    }

-- the greatest choice of a cursor that has gone back is the wheel's greatest
pub greatest_of : (w : Wheel) (x : Cursor) (found : Option ℕ) → wheel_of x ≡ w → ((b : ℕ) → IsChoice (wheel_of x) b → Pending x b) → IfSome found (λ b. Pending x b × ((a : ℕ) → Pending x a → a ≤ b)) → IfSome found (λ b. (a : ℕ) → IsChoice w a → a ≤ b)
greatest_of w x None e all h = tt
greatest_of w x (Some b) e all h = λ a may. h.1 a (all a (subst (λ v. IsChoice v a) (sym e) may))
