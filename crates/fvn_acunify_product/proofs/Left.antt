-- What is to come after a step, and how much is left then and at the start.
use Rattle.std.proofs.Common.{◌≡◌, ℕ, ◌^◌, ◌<◌, ◌≤◌, ◌⊎◌, Bool, true, false, not, if◌then◌else◌, List, [], ◌∷◌, Option, Some, None, IsTrue, inl, inr, refl, sym, ◌∙◌, subst, ap, arith}
use Rattle.std.specs.Prelude.{◌↔◌}
use Rattle.std.specs.List.{AllZip}
use Rattle.std.proofs.lemmas.List.{length-map}
use Rattle.fvn_base.specs.Order.{IsBefore}
use Rattle.fvn_base.proofs.Order.{before_trans, before_irrefl}
use Rattle.fvn_acunify_product.specs.ToCome.{IsToCome}
use Rattle.fvn_acunify_product.specs.Weight.{product, rank, weight}
use Rattle.fvn_acunify_product.specs.Wheels.{Wheel, IsChoice, counts_of}
use Rattle.fvn_acunify_product.specs.inner.Steps.{IsNext, IsEnd}
use Rattle.fvn_acunify_product.proofs.Ranks.{rank_bounded, rank_less}

some_is_one : (x y : List ℕ) → Some x ≡ Some y → x ≡ y
some_is_one x y e = cc

some_is_not_none : (x : List ℕ) → Some x ≡ None → ⊥
some_is_not_none x e = cc

-- where it is not over, the list that stands there is shown
pub shown_is : (now : Option (List ℕ)) (items : List ℕ) (over : Bool) → now ≡ (if over then None else Some items) → over ≡ false → now ≡ Some items
shown_is now items true e f = cc
shown_is now items false e f = e

module _ {A : Type 0} (May : A → ℕ → Type 0) where
  taken_at_next : (ps : List A) (old new : List ℕ) → AllZip May ps old → IsNext May ps old new → (x : List ℕ) → IsToCome May ps (Some old) x ↔ ((Some old ≡ Some x) ⊎ IsToCome May ps (Some new) x)
  taken_at_next ps old new h n x = (onto, back)
    where
      onto : IsToCome May ps (Some old) x → (Some old ≡ Some x) ⊎ IsToCome May ps (Some new) x
      onto (may, inl e) = inl (ap Some (sym e))
      onto (may, inr b) = inr (may, n.1 x (may, b))

      back : (Some old ≡ Some x) ⊎ IsToCome May ps (Some new) x → IsToCome May ps (Some old) x
      back (inl e) = (subst (λ y. AllZip May ps y) (some_is_one old x e) h, inl (sym (some_is_one old x e)))
      back (inr (may, inl e)) = (may, inr (subst (λ y. IsBefore y old) (sym e) n.0.1))
      back (inr (may, inr b)) = (may, inr (before_trans x new old b n.0.1))

  taken_at_end : (ps : List A) (old : List ℕ) → AllZip May ps old → IsEnd May ps old → (x : List ℕ) → IsToCome May ps (Some old) x ↔ ((Some old ≡ Some x) ⊎ IsToCome May ps None x)
  taken_at_end ps old h n x = (onto, back)
    where
      onto : IsToCome May ps (Some old) x → (Some old ≡ Some x) ⊎ IsToCome May ps None x
      onto (may, inl e) = inl (ap Some (sym e))
      onto (may, inr b) = absurd (n x may b)

      back : (Some old ≡ Some x) ⊎ IsToCome May ps None x → IsToCome May ps (Some old) x
      back (inl e) = (subst (λ y. AllZip May ps y) (some_is_one old x e) h, inl (sym (some_is_one old x e)))
      back (inr none) = absurd none.1

  taken : (ps : List A) (old new : List ℕ) (found : Bool) → AllZip May ps old → (IsTrue found → IsNext May ps old new) → (found ≡ false → IsEnd May ps old) → (x : List ℕ) → IsToCome May ps (Some old) x ↔ ((Some old ≡ Some x) ⊎ IsToCome May ps (if not found then None else Some new) x)
  taken ps old new true h next end x = taken_at_next ps old new h (next refl) x
  taken ps old new false h next end x = taken_at_end ps old h (end refl) x

  -- after a step everything but the list that stood there is still to come
  pub taken_by_step : (ps kept qs : List A) (now : Option (List ℕ)) (before old new items : List ℕ) (found : Bool) → ps ≡ kept → kept ≡ qs → now ≡ Some before → before ≡ old → items ≡ new → AllZip May kept before → (IsTrue found → IsNext May qs old new) → (found ≡ false → IsEnd May qs old) → (x : List ℕ) → IsToCome May ps now x ↔ ((now ≡ Some x) ⊎ IsToCome May kept (if not found then None else Some items) x)
  taken_by_step ps kept qs now before old new items found e k f b g h next end x =
      rw (e, f, k, b, g) (taken qs old new found (subst (λ y. AllZip May qs y) b (subst (λ l. AllZip May l before) k h)) next end x)

  given_once : (ps : List A) (old new : List ℕ) (found : Bool) → (IsTrue found → IsNext May ps old new) → (x : List ℕ) → IsToCome May ps (if not found then None else Some new) x → Some old ≡ Some x → ⊥
  given_once ps old new false next x h e = h.1
  given_once ps old new true next x (may, inl f) e = before_irrefl old (subst (λ y. IsBefore y old) (sym f ∙ sym (some_is_one old x e)) (next refl).0.1)
  given_once ps old new true next x (may, inr b) e = before_irrefl old (subst (λ y. IsBefore y old) (sym (some_is_one old x e)) (before_trans x new old b (next refl).0.1))

  -- the list that stood there before a step is not to come again
  pub given_by_step : (kept qs : List A) (now : Option (List ℕ)) (before old new items : List ℕ) (found : Bool) → kept ≡ qs → now ≡ Some before → before ≡ old → items ≡ new → (IsTrue found → IsNext May qs old new) → (x : List ℕ) → IsToCome May kept (if not found then None else Some items) x → now ≡ Some x → ⊥
  given_by_step kept qs now before old new items found k f b g next = rw (k, f, b, g) (given_once qs old new found next)

  -- the numbers that a step found may stand there, and come before those that stood there
  pub found_by_step : (kept qs : List A) (before old new : List ℕ) (found : Bool) → kept ≡ qs → before ≡ old → (IsTrue found → IsNext May qs old new) → IsTrue found → AllZip May kept new × IsBefore new before
  found_by_step kept qs before old new found k b next = rw (k, b) (λ t. (next t).0)

falls : (counts old new : List ℕ) (found : Bool) → AllZip (λ c n. n < c) counts old → (IsTrue found → AllZip (λ c n. n < c) counts new × IsBefore new old) → weight counts (if not found then None else Some new) < weight counts (Some old)
falls counts old new false h next = omega arith
falls counts old new true h next = let less : rank counts new < rank counts old = rank_less counts new old (next refl).0 h (next refl).1 in omega (arith, less)

-- fewer lists are left after a step
pub falls_by_step : (counts kept : List ℕ) (now : Option (List ℕ)) (old new items : List ℕ) (found : Bool) → kept ≡ counts → now ≡ Some old → items ≡ new → AllZip (λ c n. n < c) counts old → (IsTrue found → AllZip (λ c n. n < c) counts new × IsBefore new old) → weight counts (if not found then None else Some items) < weight kept now
falls_by_step counts kept now old new items found e f g h next = rw (e, f, g) (falls counts old new found h next)

bounded : (counts new : List ℕ) (found : Bool) → (IsTrue found → AllZip (λ c n. n < c) counts new) → weight counts (if not found then None else Some new) ≤ product counts
bounded counts new false h = omega arith
bounded counts new true h = let less : rank counts new < product counts = rank_bounded counts new (h refl) in omega (arith, less)

-- no more lists are left at the start than there are
pub bounded_at_start : (counts new items : List ℕ) (found : Bool) → items ≡ new → (IsTrue found → AllZip (λ c n. n < c) counts new) → weight counts (if not found then None else Some items) ≤ product counts
bounded_at_start counts new items found g h = rw g (bounded counts new found h)

-- a valid choice of so many solutions is below this power of two
pub choices_are_below : (ws : List Wheel) (x : List ℕ) → AllZip IsChoice ws x → AllZip (λ c n. n < c) (counts_of ws) x
choices_are_below [] [] h = tt
choices_are_below [] (n ∷ x) h = h
choices_are_below (w ∷ ws) [] h = h
choices_are_below (w ∷ ws) (n ∷ x) h = (subst (λ m. n < 2 ^ m) (length-map w.basis (λ v. v.parts)) h.0.valid.within, choices_are_below ws x h.1)
