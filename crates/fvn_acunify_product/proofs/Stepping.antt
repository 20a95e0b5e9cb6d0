-- The next list of an odometer is the greatest before the one that stood there.
use Rattle.std.proofs.Common.{◌≡◌, ℕ, suc, zero, ◌+◌, ◌<◌, ◌≤◌, ◌≢◌, ◌⊎◌, List, [], ◌∷◌, length, get_or, set, inl, inr, refl, sym, ◌∙◌, subst, arith}
use Rattle.std.proofs.lemmas.List.{get_or-set_same, get_or-set_other}
use Rattle.std.specs.List.{AllZip}
use Rattle.std.proofs.lemmas.Bool.{cases_order}
use Rattle.std.proofs.lemmas.Slice.Zip.{AllZip-long}
use Rattle.fvn_base.specs.Order.{IsBefore}
use Rattle.fvn_acunify_product.specs.ToCome.{IsGreatest}
use Rattle.fvn_acunify_product.specs.inner.Steps.{IsBare, IsTop, IsLast, IsRestarted, IsMoved, IsNext}

module _ {A : Type 0} (May : A → ℕ → Type 0) where
  -- what stands at a place may stand there
  pub AllZip-at : (ps : List A) (x : List ℕ) → AllZip May ps x → (k : ℕ) → k < length ps → (d : A) → May (get_or ps k d) (get_or x k 0)
  AllZip-at [] x h k l d = absurd (omega (arith, l))
  AllZip-at (p ∷ ps) [] h k l d = absurd h
  AllZip-at (p ∷ ps) (n ∷ x) h zero l d = h.0
  AllZip-at (p ∷ ps) (n ∷ x) h (suc k) l d = AllZip-at ps x h.1 k (omega arith) d

  pub AllZip-from_each : (ps : List A) (x : List ℕ) → length x ≡ length ps → ((k : ℕ) → k < length ps → (d : A) → May (get_or ps k d) (get_or x k 0)) → AllZip May ps x
  AllZip-from_each [] [] s h = tt
  AllZip-from_each [] (n ∷ x) s h = absurd (omega (arith, s))
  AllZip-from_each (p ∷ ps) [] s h = absurd (omega (arith, s))
  AllZip-from_each (p ∷ ps) (n ∷ x) s h = (h 0 (omega arith) p, AllZip-from_each ps x (omega (arith, s)) (λ k l d. h (suc k) (omega (arith, l)) d))

  pub tops_are_greatest : (ps : List A) (new x : List ℕ) → length new ≡ length ps → ((k : ℕ) → k < length ps → IsTop May ps new k) → AllZip May ps x → (x ≡ new) ⊎ IsBefore x new
  tops_are_greatest [] [] [] s t h = inl refl
  tops_are_greatest [] [] (a ∷ x) s t h = absurd h
  tops_are_greatest [] (n ∷ new) x s t h = absurd (omega (arith, s))
  tops_are_greatest (p ∷ ps) [] x s t h = absurd (omega (arith, s))
  tops_are_greatest (p ∷ ps) (n ∷ new) [] s t h = absurd h
  tops_are_greatest (p ∷ ps) (n ∷ new) (a ∷ x) s t h =
      let most : a ≤ n = (t 0 (omega arith) p).1 a h.0 in
      go (cases_order a n) most (tops_are_greatest ps new x (omega (arith, s)) (λ k l. t (suc k) (omega (arith, l))) h.1)
    where
      go : (a ≡ n) ⊎ ((a < n) ⊎ (n < a)) → a ≤ n → (x ≡ new) ⊎ IsBefore x new → ((a ∷ x) ≡ (n ∷ new)) ⊎ ((a < n) ⊎ ((a ≡ n) × IsBefore x new))
      go (inr (inl l)) most rest = inr (inl l)
      go (inr (inr l)) most rest = absurd (omega arith)
      go (inl e) most (inl f) = inl (cc)
      go (inl e) most (inr b) = inr (inr (e, b))

  pub lasts_are_an_end : (ps : List A) (old x : List ℕ) → length old ≡ length ps → ((k : ℕ) → k < length ps → IsLast May ps old k) → AllZip May ps x → IsBefore x old → ⊥
  lasts_are_an_end [] [] [] s t h b = b
  lasts_are_an_end [] [] (a ∷ x) s t h b = h
  lasts_are_an_end [] (n ∷ old) x s t h b = absurd (omega (arith, s))
  lasts_are_an_end (p ∷ ps) [] x s t h b = absurd (omega (arith, s))
  lasts_are_an_end (p ∷ ps) (n ∷ old) [] s t h b = h
  lasts_are_an_end (p ∷ ps) (n ∷ old) (a ∷ x) s t h (inl l) =
      let least : n ≤ a = t 0 (omega arith) p a h.0 in absurd (omega arith)
  lasts_are_an_end (p ∷ ps) (n ∷ old) (a ∷ x) s t h (inr e) =
      lasts_are_an_end ps old x (omega (arith, s)) (λ k l. t (suc k) (omega (arith, l))) h.1 e.1

  pub lower_is_before : (p : ℕ) (old new : List ℕ) → length new ≡ length old → p < length old → ((k : ℕ) → k < p → get_or new k 0 ≡ get_or old k 0) → get_or new p 0 < get_or old p 0 → IsBefore new old
  lower_is_before p [] new s w f l = absurd (omega (arith, w))
  lower_is_before p (o ∷ old) [] s w f l = absurd (omega (arith, s))
  lower_is_before zero (o ∷ old) (n ∷ new) s w f l = inl l
  lower_is_before (suc p) (o ∷ old) (n ∷ new) s w f l =
      inr (f 0 (omega arith), lower_is_before p old new (omega (arith, s)) (omega (arith, w)) (λ k h. f (suc k) (omega (arith, h))) l)

  pub next_is_greatest : (ps : List A) (p : ℕ) (old new x : List ℕ) → length old ≡ length ps → length new ≡ length ps → p < length ps
      → ((k : ℕ) → k < p → get_or new k 0 ≡ get_or old k 0)
      → ((d : A) (a : ℕ) → May (get_or ps p d) a → a < get_or old p 0 → a ≤ get_or new p 0)
      → ((k : ℕ) → p < k → k < length ps → IsLast May ps old k)
      → ((k : ℕ) → p < k → k < length ps → IsTop May ps new k)
      → AllZip May ps x → IsBefore x old → (x ≡ new) ⊎ IsBefore x new
  next_is_greatest [] p old new x s r w front next last tops h b = absurd (omega (arith, w))
  next_is_greatest (q ∷ ps) p [] new x s r w front next last tops h b = absurd (omega (arith, s))
  next_is_greatest (q ∷ ps) p (o ∷ old) [] x s r w front next last tops h b = absurd (omega (arith, r))
  next_is_greatest (q ∷ ps) p (o ∷ old) (n ∷ new) [] s r w front next last tops h b = absurd h
  next_is_greatest (q ∷ ps) zero (o ∷ old) (n ∷ new) (a ∷ x) s r w front next last tops h (inl l) =
      go (cases_order a n) (next q a h.0 l) (tops_are_greatest ps new x (omega (arith, r)) (λ k m. tops (suc k) (omega arith) (omega (arith, m))) h.1)
    where
      go : (a ≡ n) ⊎ ((a < n) ⊎ (n < a)) → a ≤ n → (x ≡ new) ⊎ IsBefore x new → ((a ∷ x) ≡ (n ∷ new)) ⊎ ((a < n) ⊎ ((a ≡ n) × IsBefore x new))
      go (inr (inl l)) most rest = inr (inl l)
      go (inr (inr l)) most rest = absurd (omega arith)
      go (inl e) most (inl f) = inl (cc)
      go (inl e) most (inr b) = inr (inr (e, b))
  next_is_greatest (q ∷ ps) zero (o ∷ old) (n ∷ new) (a ∷ x) s r w front next last tops h (inr e) =
      absurd (lasts_are_an_end ps old x (omega (arith, s)) (λ k m. last (suc k) (omega arith) (omega (arith, m))) h.1 e.1)
  next_is_greatest (q ∷ ps) (suc p) (o ∷ old) (n ∷ new) (a ∷ x) s r w front next last tops h (inl l) =
      let e : n ≡ o = front 0 (omega arith) in inr (inl (omega (arith, l, e)))
  next_is_greatest (q ∷ ps) (suc p) (o ∷ old) (n ∷ new) (a ∷ x) s r w front next last tops h (inr e) =
      go (front 0 (omega arith)) (next_is_greatest ps p old new x (omega (arith, s)) (omega (arith, r)) (omega (arith, w)) (λ k m. front (suc k) (omega (arith, m))) next (λ k m l. last (suc k) (omega (arith, m)) (omega (arith, l))) (λ k m l. tops (suc k) (omega (arith, m)) (omega (arith, l))) h.1 e.1)
    where
      go : n ≡ o → (x ≡ new) ⊎ IsBefore x new → ((a ∷ x) ≡ (n ∷ new)) ⊎ ((a < n) ⊎ ((a ≡ n) × IsBefore x new))
      go f (inl g) = let same : a ≡ o = e.0 in inl (cc)
      go f (inr b) = let same : a ≡ o = e.0 in inr (inr (cc, b))

  -- what stands after a move and a new start may stand there
  next_may : (ps : List A) (p : ℕ) (old moved new : List ℕ) → AllZip May ps old → IsMoved May ps p old moved → IsRestarted May ps (p + 1) moved new → (k : ℕ) → k < length ps → (d : A) → May (get_or ps k d) (get_or new k 0)
  next_may ps p old moved new h m r k l d = go (cases_order k p)
    where
      go : (k ≡ p) ⊎ ((k < p) ⊎ (p < k)) → May (get_or ps k d) (get_or new k 0)
      go (inl e) =
          let le : p < p + 1 = omega arith in
          subst (λ j. May (get_or ps j d) (get_or new j 0)) (sym e) (subst (λ n. May (get_or ps p d) n) (sym (r.front p le)) (m.may d))
      go (inr (inl b)) =
          let le : k < p + 1 = omega arith in
          subst (λ n. May (get_or ps k d) n) (sym (r.front k le ∙ m.front k b)) (AllZip-at ps old h k l d)
      go (inr (inr a)) = (r.tops k (omega arith) l d).0

  pub moved_is_next : (ps : List A) (p : ℕ) (old moved new : List ℕ) → length new ≡ length ps → AllZip May ps old → IsMoved May ps p old moved → IsRestarted May ps (p + 1) moved new → IsNext May ps old new
  moved_is_next ps p old moved new s h m r =
      let long : length old ≡ length ps = AllZip-long May ps old h in
      let here : get_or new p 0 ≡ get_or moved p 0 = r.front p (omega arith) in
      let front : (k : ℕ) → k < p → get_or new k 0 ≡ get_or old k 0 = λ k l. r.front k (omega arith) ∙ m.front k l in
      let lower : get_or new p 0 < get_or old p 0 = omega (arith, here, m.falls) in
      let before : IsBefore new old = lower_is_before p old new (s ∙ sym long) (omega (arith, long, m.within)) front lower in
      let next : (d : A) (a : ℕ) → May (get_or ps p d) a → a < get_or old p 0 → a ≤ get_or new p 0 = λ d a may l. (let most : a ≤ get_or moved p 0 = m.next d a may l in omega (arith, here, most)) in (
        (AllZip-from_each ps new s (next_may ps p old moved new h m r), before),
        λ x g. next_is_greatest ps p old new x long s m.within front next m.last (λ k l w. r.tops k (omega (arith, l)) w) g.0 g.1,
      )

  pub restarted_is_greatest : (ps : List A) (old new : List ℕ) → length new ≡ length ps → IsRestarted May ps 0 old new → IsGreatest (AllZip May ps) new
  restarted_is_greatest ps old new s r =
      (AllZip-from_each ps new s (λ k l d. (r.tops k (omega arith) l d).0), λ x h. tops_are_greatest ps new x s (λ k l. r.tops k (omega arith) l) h)

  -- where no number may stand at some place, there is no list
  pub bare_has_none : (ps : List A) (k : ℕ) → k < length ps → IsBare May ps k → (x : List ℕ) → AllZip May ps x → ⊥
  bare_has_none [] k l bare x h = absurd (omega (arith, l))
  bare_has_none (p ∷ ps) k l bare x h = bare p (get_or x k 0) (AllZip-at (p ∷ ps) x h k l p)

  -- one more place has its greatest number
  pub tops_more : (ps : List A) (x : List ℕ) (from p n : ℕ) → p < length x → ((k : ℕ) → from ≤ k → k < p → IsTop May ps x k) → ((d : A) → May (get_or ps p d) n × ((a : ℕ) → May (get_or ps p d) a → a ≤ n)) → (k : ℕ) → from ≤ k → k < p + 1 → IsTop May ps (set x p n) k
  tops_more ps x from p n l tops top k f h d = go (cases_order k p)
    where
      go : (k ≡ p) ⊎ ((k < p) ⊎ (p < k)) → May (get_or ps k d) (get_or (set x p n) k 0) × ((a : ℕ) → May (get_or ps k d) a → a ≤ get_or (set x p n) k 0)
      go (inl e) =
          subst (λ j. May (get_or ps j d) (get_or (set x p n) j 0) × ((a : ℕ) → May (get_or ps j d) a → a ≤ get_or (set x p n) j 0)) (sym e)
          (subst (λ m. May (get_or ps p d) m × ((a : ℕ) → May (get_or ps p d) a → a ≤ m)) (sym (get_or-set_same x p n 0 l)) (top d))
      go (inr (inl b)) =
          let other : k ≢ p = omega arith in
          subst (λ m. May (get_or ps k d) m × ((a : ℕ) → May (get_or ps k d) a → a ≤ m)) (sym (get_or-set_other x p k n 0 other)) (tops k f b d)
      go (inr (inr a)) = absurd (omega arith)

  -- one more place has its last number
  pub lasts_more : (ps : List A) (x : List ℕ) (i p : ℕ) → p ≡ i + 1 → IsLast May ps x i → ((k : ℕ) → p ≤ k → k < length ps → IsLast May ps x k) → (k : ℕ) → i ≤ k → k < length ps → IsLast May ps x k
  lasts_more ps x i p e here lasts k l w = go (cases_order k i)
    where
      go : (k ≡ i) ⊎ ((k < i) ⊎ (i < k)) → IsLast May ps x k
      go (inl f) = subst (λ j. IsLast May ps x j) (sym f) here
      go (inr (inl b)) = absurd (omega arith)
      go (inr (inr a)) = lasts k (omega (arith, e)) w
