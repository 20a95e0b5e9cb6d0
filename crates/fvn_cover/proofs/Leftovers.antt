-- What is left of a list without some of its members.
use Rattle.std.proofs.Common.{◌≡◌, ℕ, zero, suc, ◌+◌, ◌<◌, ◌≤◌, ◌⊎◌, inl, inr, List, [], ◌∷◌, ◌++◌, length, get_or, take, refl, sym, ap, ◌∙◌, subst, arith}
use Rattle.std.specs.Prelude.{All, AllPairs, Any, Contains}
use Rattle.std.proofs.lemmas.List.{take_more, get_or_default}
use Rattle.std.proofs.lemmas.List.Elements.{All-nil, All-cons, All-head, All-tail, All-push}
use Rattle.std.proofs.lemmas.List.Kept.{AllPairs-cons}
use Rattle.fvn_base.proofs.Membership.{contains_here, contains_later, contains_cases, contains_none}
use Rattle.fvn_base.proofs.Pigeonhole.{AllPairs-tail}
use Rattle.fvn_cover.specs.Adding.{IsLeft}

module _ {A : Type 0} where
  -- of one of a list
  pub all_at : (P : A → Type 0) (xs : List A) (i : ℕ) (x : A) → All P xs → i < length xs → x ≡ get_or xs i x → P x
  all_at P xs i x h l e = subst P (sym e) (h i x l)

  pub all_more : (P : A → Type 0) (xs : List A) (i : ℕ) (x : A) → i < length xs → x ≡ get_or xs i x → All P (take i xs) → P x → All P (take (i + 1) xs)
  all_more P xs i x l e h p = subst (All P) (sym (take_more xs i x l ∙ ap (λ y. take i xs ++ y ∷ []) (sym e))) (All-push P (take i xs) x h p)

  pub any_at : (P : A → Type 0) (xs : List A) (i : ℕ) (x : A) → i < length xs → x ≡ get_or xs i x → P x → Any P xs
  any_at P xs i x l e p = (i, x, l, sym e, p)

  pub none_any : (P : A → Type 0) (xs : List A) → All (λ x. P x → ⊥) xs → Any P xs → ⊥
  none_any P xs h (k, x, l, e, p) = all_at (λ y. P y → ⊥) xs k x h l (sym e) p

  pub any_none : (P : A → Type 0) (xs : List A) → (Any P xs → ⊥) → All (λ x. P x → ⊥) xs
  any_none P xs n k d l p = n (k, get_or xs k d, l, get_or_default xs k (get_or xs k d) d l, p)

  pub any_of : (P : A → Type 0) (xs : List A) (x : A) → Contains xs x → P x → Any P xs
  any_of P xs x m p = (m.0, x, m.1, m.2, p)

  pub any_contains : (P : A → Type 0) (xs : List A) → Any P xs → (x : A) × (Contains xs x × P x)
  any_contains P xs (k, x, l, e, p) = (x, ((k, l, e), p))

  AllPairs-head : (R : A → A → Type 0) (x : A) (xs : List A) → AllPairs R (x ∷ xs) → All (R x) xs
  AllPairs-head R x xs h k d l = h zero (suc k) d (omega arith) (omega (arith, l))

module _ {A : Type 0} (P : A → Type 0) where
  -- one more member goes or stays
  pub left_gone : (xs left : List A) (x : A) → IsLeft P xs left → P x → IsLeft P (xs ++ x ∷ []) left
  left_gone [] left x h p = inl (p, h)
  left_gone (y ∷ xs) left x (inl h) p = inl (h.0, left_gone xs left x h.1 p)
  left_gone (y ∷ xs) left x (inr h) p = inr (h.0, (h.1.0, h.1.1, left_gone xs h.1.0 x h.1.2 p))

  pub left_stays : (xs left : List A) (x : A) → IsLeft P xs left → (P x → ⊥) → IsLeft P (xs ++ x ∷ []) (left ++ x ∷ [])
  left_stays [] left x h n = inr (n, ([], ap (λ l. l ++ x ∷ []) h, refl))
  left_stays (y ∷ xs) left x (inl h) n = inl (h.0, left_stays xs left x h.1 n)
  left_stays (y ∷ xs) left x (inr h) n = inr (h.0, (h.1.0 ++ x ∷ [], ap (λ l. l ++ x ∷ []) h.1.1, left_stays xs h.1.0 x h.1.2 n))

  -- where it holds of none, all are left
  pub left_whole : (xs : List A) → (Any P xs → ⊥) → IsLeft P xs xs
  left_whole [] n = refl
  left_whole (x ∷ xs) n = inr (λ p. n (0, x, omega arith, refl, p), (xs, refl, left_whole xs (λ k. n (suc k.0, k.1, (let l = k.2 in omega (arith, l)), k.3, k.4))))

  -- no more are left than were there
  pub left_length : (xs left : List A) → IsLeft P xs left → length left ≤ length xs
  left_length [] left h = let e = ap length h in omega (arith, e)
  left_length (x ∷ xs) left (inl h) = let l = left_length xs left h.1 in omega (arith, l)
  left_length (x ∷ xs) left (inr h) = let l = left_length xs h.1.0 h.1.2 in let e = ap length h.1.1 in omega (arith, l, e)

  -- what held of all holds of those that are left
  pub all_left : (Q : A → Type 0) (xs left : List A) → IsLeft P xs left → All Q xs → All Q left
  all_left Q [] left h q = subst (All Q) (sym h) (All-nil Q)
  all_left Q (x ∷ xs) left (inl h) q = all_left Q xs left h.1 (All-tail Q x xs q)
  all_left Q (x ∷ xs) left (inr h) q = subst (All Q) (sym h.1.1) (All-cons Q x h.1.0 (All-head Q x xs q) (all_left Q xs h.1.0 h.1.2 (All-tail Q x xs q)))

  pub pairs_left : (R : A → A → Type 0) (xs left : List A) → IsLeft P xs left → AllPairs R xs → AllPairs R left
  pairs_left R [] left h q = subst (AllPairs R) (sym h) q
  pairs_left R (x ∷ xs) left (inl h) q = pairs_left R xs left h.1 (AllPairs-tail R x xs q)
  pairs_left R (x ∷ xs) left (inr h) q =
      subst (AllPairs R) (sym h.1.1)
      (AllPairs-cons R x h.1.0 (all_left (R x) xs h.1.0 h.1.2 (AllPairs-head R x xs q)) (pairs_left R xs h.1.0 h.1.2 (AllPairs-tail R x xs q)))

  pub left_never : (xs left : List A) → IsLeft P xs left → All (λ x. P x → ⊥) left
  left_never [] left h = subst (All (λ x. P x → ⊥)) (sym h) (All-nil (λ x. P x → ⊥))
  left_never (x ∷ xs) left (inl h) = left_never xs left h.1
  left_never (x ∷ xs) left (inr h) = subst (All (λ y. P y → ⊥)) (sym h.1.1) (All-cons (λ y. P y → ⊥) x h.1.0 h.0 (left_never xs h.1.0 h.1.2))

  -- a member went, or is left
  pub went_or_left : (xs left : List A) (x : A) → IsLeft P xs left → Contains xs x → P x ⊎ Contains left x
  went_or_left [] left x h m = absurd (contains_none x m)
  went_or_left (y ∷ xs) left x (inl h) m = elim (contains_cases y xs x m) [ inl e ↦ inl (subst P e h.0) | inr n ↦ went_or_left xs left x h.1 n ]
  went_or_left (y ∷ xs) left x (inr h) m =
      subst (λ l. P x ⊎ Contains l x) (sym h.1.1)
      (elim (contains_cases y xs x m) [ inl e ↦ inr (subst (Contains (y ∷ h.1.0)) e (contains_here y h.1.0)) | inr n ↦ later h.1.0 (went_or_left xs h.1.0 x h.1.2 n) ])
    where
      later : (rest : List A) → P x ⊎ Contains rest x → P x ⊎ Contains (y ∷ rest) x
      later rest (inl p) = inl p
      later rest (inr n) = inr (contains_later y rest x n)
