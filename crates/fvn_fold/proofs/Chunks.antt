-- What is asked and got where some members of a level are expanded.
use Rattle.std.proofs.Common.{◌≡◌, ℕ, zero, suc, ◌+◌, ◌-◌, ◌≤◌, List, [], ◌∷◌, ◌++◌, length, take, drop, refl, sym, ap, ◌∙◌, subst, arith}
use Rattle.std.specs.Prelude.{All, Any, Contains}
use Rattle.std.proofs.lemmas.List.{take_all, take-append-drop}
use Rattle.std.proofs.lemmas.List.Elements.{All-contains, All-take}
use Rattle.fvn_terms.specs.declared.declarations.Declarations.{Declarations}
use Rattle.fvn_terms.specs.Substitution.{Substitution}
use Rattle.fvn_terms.specs.Unifiers.{Problem}
use Rattle.fvn_terms.specs.CompleteSets.{IsApart}
use Rattle.fvn_cover.specs.declared.variant.Variant.{Variant}
use Rattle.fvn_cover.specs.Covering.{CoversVariant, AreAlike, IsFlatVariant}
use Rattle.fvn_cover.specs.Marks.{AreComparable}
use Rattle.fvn_exploring.specs.declared.ends.ExpandEnd.{ExpandEnd}
use Rattle.fvn_exploring.specs.declared.ends.ExpandEnd.TheVariants.{Whole}
use Rattle.fvn_exploring.specs.Setting.{Setting}
use Rattle.fvn_exploring.specs.Children.{IsChild}
use Rattle.fvn_fold.specs.inner.Gathering.{AreReady, AreGathered, AreTaken, AreNext, IsMoreOfLevel, IsNextLevel}
use Rattle.fvn_fold.proofs.Gathers.{all_members, any_member, member_of_any}
use Rattle.fvn_fold.proofs.Nexts.{child_member, child_like, all_alike, comparable, more_taken, more_next, cut_next}

-- a list in two parts
module _ {A : Type 0} where
  abbrev none_of : List A
  none_of = []

  take_none : (n : ℕ) → take n none_of ≡ none_of
  take_none zero = refl
  take_none (suc n) = refl

  take_on : (i n : ℕ) (xs : List A) → take i xs ++ take n (drop i xs) ≡ take (i + n) xs
  take_on zero n xs = let e : n ≡ 0 + n = omega arith in ap (λ k. take k xs) e
  take_on (suc i) n [] = take_none n ∙ sym (take_none (suc i + n))
  take_on (suc i) n (x ∷ xs) = let e : suc (i + n) ≡ suc i + n = omega arith in ap (λ l. x ∷ l) (take_on i n xs) ∙ ap (λ k. take k (x ∷ xs)) e

module _ (g : Setting) (drawn : Problem → Substitution → Type 0) (kept : List Variant) (ready : AreReady g kept) where
  abbrev ChildOf : List Variant → Variant → Type 0
  ChildOf members w = Any (λ m. IsChild g drawn m w) members

  abbrev Like : Variant → Type 0
  Like v = AreAlike ready.first v

  module _ (members : List Variant) (listed : All (Contains kept) members) (before : List Variant) (is_next : AreNext g drawn kept kept before) (candidates : List Variant) (end : ExpandEnd) (gathered : AreGathered g drawn members candidates end) where
    -- what the calls ask, in a signature
    pub record ChunkFacts (d : Declarations) : Type 0 where
      pub compared : AreComparable d kept candidates
      pub flat : All (IsFlatVariant d) before
      pub apart : IsApart (CoversVariant d) before
      pub alike : All (λ a. All (AreAlike a) before) candidates
      pub each : All (λ a. All (AreAlike a) candidates) candidates
      pub more : (after : List Variant) → AreTaken d kept before candidates after → IsMoreOfLevel g drawn kept members before after end

    within : (v : Variant) → Contains members v → Contains kept v
    within v m = All-contains (Contains kept) members v listed m

    child : (c : Variant) → Contains candidates c → ChildOf members c
    child c m = All-contains (ChildOf members) candidates c gathered.children m

    old_child : (c : Variant) → Contains before c → ChildOf kept c
    old_child c m = All-contains (ChildOf kept) before c is_next.children m

    candidate_like : (c : Variant) → Contains candidates c → Like c
    candidate_like c m = child_like g kept ready drawn members within c (child c m)

    before_like : (c : Variant) → Contains before c → Like c
    before_like c m = child_like g kept ready drawn kept (λ v i. i) c (old_child c m)

    pub chunk_facts : (d : Declarations) → g.declarations ≡ d → ChunkFacts d
    chunk_facts d e = subst ChunkFacts e record {
      compared = comparable g kept ready candidates candidate_like (λ c m. child_member g kept ready drawn members c (child c m));
      flat = all_members (IsFlatVariant g.declarations) before (λ c m. (child_member g kept ready drawn kept c (old_child c m)).flat);
      apart = is_next.apart;
      alike = all_alike g kept ready candidates before candidate_like before_like;
      each = all_alike g kept ready candidates candidates candidate_like candidate_like;
      more = λ after t. more_taken g drawn kept members candidates before after end gathered t;
    }

  -- all members so far, and the next ones
  module _ (members : List Variant) (listed : All (Contains kept) members) where
    pub next_of_kept : (i : ℕ) (next : List Variant) (end : ExpandEnd) → IsNextLevel g drawn kept (take i members) next end → AreNext g drawn kept kept next
    next_of_kept i next end h = record {
      children = all_members (ChildOf kept) next (λ w m. widened w (All-contains (ChildOf (take i members)) next w (h.is_next).children m));
      uncovered = (h.is_next).uncovered;
      apart = (h.is_next).apart;
    } where
      widened : (w : Variant) → ChildOf (take i members) w → ChildOf kept w
      widened w c =
          let m = member_of_any (λ m. IsChild g drawn m w) (take i members) c in
          any_member (λ m. IsChild g drawn m w) kept m.0 (All-contains (Contains kept) (take i members) m.0 (All-take (Contains kept) i members listed) m.1.0) m.1.1

    slice_joined : (i j : ℕ) → i ≤ j → take i members ++ take (j - i) (drop i members) ≡ take j members
    slice_joined i j l = let e : i + (j - i) ≡ j = omega (arith, l) in take_on i (j - i) members ∙ ap (λ n. take n members) e

    pub next_joined : (i j : ℕ) (chunk before after : List Variant) (end : ExpandEnd) → i ≤ j → chunk ≡ take (j - i) (drop i members) → IsNextLevel g drawn kept (take i members) before Whole → IsMoreOfLevel g drawn kept chunk before after end → IsNextLevel g drawn kept (take j members) after end
    next_joined i j chunk before after end l is h k =
        subst (λ ms. IsNextLevel g drawn kept ms after end) (ap (λ c. take i members ++ c) is ∙ slice_joined i j l) (more_next g drawn kept (take i members) chunk before after end h k)

    pub next_cut : (j : ℕ) (next : List Variant) (end : ExpandEnd) → (end ≡ Whole → ⊥) → IsNextLevel g drawn kept (take j members) next end → IsNextLevel g drawn kept members next end
    next_cut j next end not h = subst (λ ms. IsNextLevel g drawn kept ms next end) (take-append-drop j members) (cut_next g drawn kept (take j members) (drop j members) next end not h)

    -- all members
    pub next_all : (j : ℕ) (next : List Variant) (end : ExpandEnd) → length members ≤ j → IsNextLevel g drawn kept (take j members) next end → IsNextLevel g drawn kept members next end
    next_all j next end l h = subst (λ ms. IsNextLevel g drawn kept ms next end) (take_all j members l) h
