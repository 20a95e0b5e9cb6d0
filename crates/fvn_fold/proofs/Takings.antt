-- One more candidate, marked or taken.
use Rattle.std.proofs.Common.{◌≡◌, ◌⊎◌, ℕ, zero, suc, ◌<◌, Bool, true, false, List, [], ◌∷◌, ◌++◌, length, get_or, take, refl, sym, subst, inl, inr, arith}
use Rattle.std.specs.Prelude.{◌↔◌, All, Contains, IsTrue}
use Rattle.std.specs.List.{AllZip}
use Rattle.std.proofs.lemmas.Bool.{false≢true}
use Rattle.std.proofs.lemmas.List.Elements.{All-nil, All-push, All-contains, All-take, Contains-append_left, Contains-push}
use Rattle.fvn_terms.specs.declared.declarations.Declarations.{Declarations}
use Rattle.fvn_terms.specs.CompleteSets.{IsApart}
use Rattle.fvn_cover.specs.declared.variant.Variant.{Variant}
use Rattle.fvn_cover.specs.Covering.{CoversVariant, AreAlike, IsFlatVariant}
use Rattle.fvn_cover.specs.Pruning.{IsCoveredBySome}
use Rattle.fvn_cover.specs.Adding.{IsAdded}
use Rattle.fvn_cover.specs.Laws.{CoveringIsAPreorder}
use Rattle.fvn_cover.proofs.Additions.{added_all, added_apart, added_new, added_still}
use Rattle.fvn_cover.proofs.Leftovers.{all_at}
use Rattle.fvn_fold.specs.inner.Gathering.{IsCoveredByEither, IsMarkedOrAdded, AreTaken}
use Rattle.fvn_fold.proofs.Gathers.{all_members}
use Rattle.fvn_fold.proofs.Nexts.{like_back}

module _ (d : Declarations) (kept before : List Variant) where
  abbrev Uncovered : Variant → Type 0
  Uncovered w = IsCoveredBySome d kept w → ⊥

  abbrev IsOneOf : List Variant → Variant → Type 0
  IsOneOf seen w = Contains before w ⊎ (Contains seen w × Uncovered w)

  -- before the first
  pub none_taken : IsApart (CoversVariant d) before → AreTaken d kept before [] before
  none_taken apart = record {
    each = all_members (IsOneOf []) before (λ w m. inl m);
    apart = apart;
    still = λ v c. c;
    covered = All-nil (IsCoveredByEither d kept before);
  }

  wider : (seen : List Variant) (c w : Variant) → IsOneOf seen w → IsOneOf (seen ++ c ∷ []) w
  wider seen c w (inl m) = inl m
  wider seen c w (inr m) = inr (Contains-append_left seen (c ∷ []) w m.0, m.1)

  -- one that a kept variant covers
  pub marked_more : (seen after : List Variant) (c : Variant) → AreTaken d kept before seen after → IsCoveredBySome d kept c → AreTaken d kept before (seen ++ c ∷ []) after
  marked_more seen after c h covered = record {
    each = all_members (IsOneOf (seen ++ c ∷ [])) after (λ w m. wider seen c w (All-contains (IsOneOf seen) after w h.each m));
    apart = h.apart;
    still = h.still;
    covered = All-push (IsCoveredByEither d kept after) seen c h.covered (inl covered);
  }

  -- one that none covers
  module _ (order : CoveringIsAPreorder d) where
    pub taken_more : (seen after : List Variant) (c : Variant) (more : List Variant) → AreTaken d kept before seen after → (IsCoveredBySome d kept c → ⊥) → All (AreAlike c) after → IsAdded d after c more → AreTaken d kept before (seen ++ c ∷ []) more
    taken_more seen after c more h free alike added = record {
      each = added_all d (IsOneOf (seen ++ c ∷ [])) after c more added
          (all_members (IsOneOf (seen ++ c ∷ [])) after (λ w m. wider seen c w (All-contains (IsOneOf seen) after w h.each m)))
          (inr (Contains-push seen c, free));
      apart = added_apart d after c more added h.apart;
      still = λ v m. on v (h.still v m);
      covered = All-push (IsCoveredByEither d kept more) seen c
          (all_members (IsCoveredByEither d kept more) seen (λ v m. either v (All-contains (IsCoveredByEither d kept after) seen v h.covered m)))
          (inr (added_new d order after c more added));
    } where
      on : (v : Variant) → IsCoveredBySome d after v → IsCoveredBySome d more v
      on v = added_still d order after c alike more added v

      either : (v : Variant) → IsCoveredByEither d kept after v → IsCoveredByEither d kept more v
      either v (inl m) = inl m
      either v (inr m) = inr (on v m)

  -- what holds of what was there and of the candidates holds of what is taken
  pub taken_each : (P : Variant → Type 0) (seen after : List Variant) → AreTaken d kept before seen after → All P before → ((v : Variant) → Contains seen v → P v) → All P after
  taken_each P seen after h old new = all_members P after (λ w m. go w (All-contains (IsOneOf seen) after w h.each m)) where
    go : (w : Variant) → IsOneOf seen w → P w
    go w (inl m) = All-contains P before w old m
    go w (inr m) = new w m.0

  -- the next candidate, marked or not
  module _ (order : CoveringIsAPreorder d) where
    pub taken_one : (seen after : List Variant) (c : Variant) (more : List Variant) (mark : Bool) → (IsTrue mark ↔ IsCoveredBySome d kept c) → IsMarkedOrAdded d mark after c more → All (AreAlike c) after → AreTaken d kept before seen after → AreTaken d kept before (seen ++ c ∷ []) more
    taken_one seen after c more true exact is alike h = subst (AreTaken d kept before (seen ++ c ∷ [])) (sym is) (marked_more seen after c h (exact.0 refl))
    taken_one seen after c more false exact is alike h = taken_more order seen after c more h (λ w. false≢true (exact.1 w)) alike is

-- members of lists side by side, at one place
module _ {A B : Type 0} (R : A → B → Type 0) where
  pub zip_at : (xs : List A) (ys : List B) → AllZip R xs ys → (i : ℕ) (x : A) (y : B) → i < length xs → x ≡ get_or xs i x → R x (get_or ys i y)
  zip_at [] ys h i x y l is = absurd (omega (arith, l))
  zip_at (z ∷ xs) [] h i x y l is = absurd h
  zip_at (z ∷ xs) (w ∷ ys) h zero x y l is = subst (λ a. R a w) (sym is) h.0
  zip_at (z ∷ xs) (w ∷ ys) h (suc i) x y l is = zip_at xs ys h.1 i x y (omega (arith, l)) is

  pub zip_length : (xs : List A) (ys : List B) → AllZip R xs ys → length xs ≡ length ys
  zip_length [] [] h = refl
  zip_length [] (y ∷ ys) h = absurd h
  zip_length (x ∷ xs) [] h = absurd h
  zip_length (x ∷ xs) (y ∷ ys) h = let l = zip_length xs ys h.1 in omega (arith, l)

module _ (d : Declarations) (kept before all seen after : List Variant) (c : Variant) where
  -- what is asked where the next candidate is taken
  pub record TakingFacts : Type 0 where
    pub flat : IsFlatVariant d c × All (IsFlatVariant d) after
    pub alike : All (λ k. AreAlike k c) after
    pub like : All (AreAlike c) after

  pub taking_facts : AreTaken d kept before seen after → seen ≡ take (length seen) all → length seen < length all → c ≡ get_or all (length seen) c →
      All (IsFlatVariant d) all → All (IsFlatVariant d) before → All (λ a. All (AreAlike a) before) all → All (λ a. All (AreAlike a) all) all → TakingFacts
  taking_facts h so_far l is flat_all flat_before alike_before alike_all = record {
    flat = (all_at (IsFlatVariant d) all (length seen) c flat_all l is, taken_each d kept before (IsFlatVariant d) seen after h flat_before (seen_each (IsFlatVariant d) flat_all));
    alike = all_members (λ k. AreAlike k c) after (λ k m. like_back c k (All-contains (AreAlike c) after k like m));
    like = like;
  } where
    seen_each : (P : Variant → Type 0) → All P all → (v : Variant) → Contains seen v → P v
    seen_each P f v m = All-contains P seen v (subst (All P) (sym so_far) (All-take P (length seen) all f)) m

    mine : All (AreAlike c) all
    mine = all_at (λ a. All (AreAlike a) all) all (length seen) c alike_all l is

    like : All (AreAlike c) after
    like = taken_each d kept before (AreAlike c) seen after h (all_at (λ a. All (AreAlike a) before) all (length seen) c alike_before l is) (seen_each (AreAlike c) mine)
