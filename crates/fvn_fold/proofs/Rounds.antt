-- What the calls of one round ask of a run and of its next level.
use Rattle.std.proofs.Common.{◌≡◌, ℕ, zero, suc, ◌+◌, ◌<◌, ◌≤◌, List, [], ◌∷◌, ◌++◌, length, get_or, take, drop, refl, sym, ap, ◌∙◌, subst, inl, inr, arith}
use Rattle.std.specs.Prelude.{◌↔◌, ◌==◌, Bool, true, false, not, IsTrue, Vec, vec_len, All, AllPairs, Any, Contains}
use Rattle.std.proofs.lemmas.Bool.{false≢true}
use Rattle.std.proofs.lemmas.Bool.Decides.{nat_tests}
use Rattle.std.proofs.lemmas.List.{append_assoc, length-append, take-append-drop, drop_more, length-take-le, nil_from_length}
use Rattle.std.proofs.lemmas.List.Elements.{All-contains, Contains-append_left, Contains-append_right, Contains-append_cases}
use Rattle.fvn_terms.specs.declared.declarations.Declarations.{Declarations}
use Rattle.fvn_terms.specs.Substitution.{Substitution}
use Rattle.fvn_terms.specs.Unifiers.{Problem}
use Rattle.fvn_forms.specs.Flat.{FlatTerm}
use Rattle.fvn_cover.specs.declared.variant.Variant.{Variant}
use Rattle.fvn_cover.specs.Covering.{CoversVariant, AreAlike, IsFlatVariant}
use Rattle.fvn_exploring.specs.declared.limits.Limits.{Limits}
use Rattle.fvn_exploring.specs.declared.ends.ExpandEnd.{ExpandEnd}
use Rattle.fvn_exploring.specs.declared.ends.ExpandEnd.TheVariants.{Whole}
use Rattle.fvn_exploring.specs.Setting.{Setting}
use Rattle.fvn_exploring.specs.Children.{IsMember, IsChild}
use Rattle.fvn_closure.specs.Laws.{CoveringsCarryLiftings}
use Rattle.fvn_fold.specs.inner.Gathering.{IsNextLevel}
use Rattle.fvn_fold.specs.inner.Running.{at_depth, LevelLists, IsExploredTo, AreKept, IsOverOrWhole, GoesOn}
use Rattle.fvn_fold.proofs.Gathers.{all_members}
use Rattle.fvn_fold.proofs.Nexts.{kept_member, kept_like, child_member, child_like, all_alike}
use Rattle.fvn_fold.proofs.Closed.{deep_kept, member_deep}
use Rattle.fvn_fold.proofs.Growing.{pairs_front}
use Rattle.fvn_fold.proofs.Turning.{goes_on, next_folded}

-- no member covers a later one
abbrev FoldsLater : Declarations → List Variant → Type 0
FoldsLater d list = AllPairs (λ a b. CoversVariant d a b → ⊥) list

-- of a list that is kept, some are kept too
pub kept_front : (d : Declarations) (kept front back : List Variant) → AreKept d (kept ++ (front ++ back)) → AreKept d (kept ++ front)
kept_front d kept front back h = record {
  flat = all_members (IsFlatVariant d) (kept ++ front) (λ v m. All-contains (IsFlatVariant d) (kept ++ (front ++ back)) v h.flat (wider v m));
  alike = all_members (λ a. All (AreAlike a) (kept ++ front)) (kept ++ front) (λ a m. all_members (AreAlike a) (kept ++ front) (λ b n.
      All-contains (AreAlike a) (kept ++ (front ++ back)) b (All-contains (λ a. All (AreAlike a) (kept ++ (front ++ back))) (kept ++ (front ++ back)) a h.alike (wider a m)) (wider b n)));
  folded = pairs_front (λ a b. CoversVariant d a b → ⊥) (kept ++ front) back (subst (FoldsLater d) (sym (append_assoc kept front back)) h.folded);
} where
  wider : (v : Variant) → Contains (kept ++ front) v → Contains (kept ++ (front ++ back)) v
  wider v m = elim (Contains-append_cases kept front v m) as (λ _. Contains (kept ++ (front ++ back)) v) [
    | inl i ↦ Contains-append_left kept (front ++ back) v i
    | inr i ↦ Contains-append_right kept (front ++ back) v (Contains-append_left front back v i)
  ]

-- what is kept without the next level
pub kept_first : (d : Declarations) (kept next : List Variant) → AreKept d (kept ++ next) → AreKept d kept
kept_first d kept next h = record {
  flat = all_members (IsFlatVariant d) kept (λ v m. All-contains (IsFlatVariant d) (kept ++ next) v h.flat (Contains-append_left kept next v m));
  alike = all_members (λ a. All (AreAlike a) kept) kept (λ a m. all_members (AreAlike a) kept (λ b n.
      All-contains (AreAlike a) (kept ++ next) b (All-contains (λ a. All (AreAlike a) (kept ++ next)) (kept ++ next) a h.alike (Contains-append_left kept next a m)) (Contains-append_left kept next b n)));
  folded = pairs_front (λ a b. CoversVariant d a b → ⊥) kept next h.folded;
}

module _ (g : Setting) (drawn : Problem → Substitution → Type 0) (start : List FlatTerm) (depth : ℕ) (r : LevelLists) (explored : IsExploredTo g drawn start depth r) where
  -- the members of the last level are kept
  pub members_kept : All (Contains r.kept) r.members
  members_kept = all_members (Contains r.kept) r.members (λ v m. deep_kept g drawn start depth r explored (at_depth depth v) (member_deep g drawn start depth r explored v m))

  module _ (next : List Variant) (end : ExpandEnd) (h : IsNextLevel g drawn r.kept r.members next end) where
    child : (v : Variant) → Contains next v → Any (λ m. IsChild g drawn m v) r.members
    child v m = All-contains (λ w. Any (λ m. IsChild g drawn m w) r.members) next v (h.is_next).children m

    listed : (v : Variant) → Contains r.members v → Contains r.kept v
    listed v m = All-contains (Contains r.kept) r.members v members_kept m

    like : (v : Variant) → Contains (r.kept ++ next) v → AreAlike (explored.ready).first v
    like v m = elim (Contains-append_cases r.kept next v m) as (λ _. AreAlike (explored.ready).first v) [
      | inl i ↦ kept_like g r.kept explored.ready v i
      | inr i ↦ child_like g r.kept explored.ready drawn r.members listed v (child v i)
    ]

    member : (v : Variant) → Contains (r.kept ++ next) v → IsMember g v
    member v m = elim (Contains-append_cases r.kept next v m) as (λ _. IsMember g v) [
      | inl i ↦ kept_member g r.kept explored.ready v i
      | inr i ↦ child_member g r.kept explored.ready drawn r.members v (child v i)
    ]

    -- what is kept with the next level is flat and alike, and none covers a later one
    pub kept_with_next : (d : Declarations) (limits : Limits) → g.declarations ≡ d → AreKept d (r.kept ++ next)
    kept_with_next d limits e = subst (λ d. AreKept d (r.kept ++ next)) e record {
      flat = all_members (IsFlatVariant g.declarations) (r.kept ++ next) (λ v m. (member v m).flat);
      alike = all_alike g r.kept explored.ready (r.kept ++ next) (r.kept ++ next) like like;
      folded = next_folded g drawn start limits depth r explored next end h;
    }

    -- a longer run, within the limits
    pub run_on : (d : Declarations) (limits : Limits) → CoveringsCarryLiftings → (more : LevelLists) → GoesOn d limits r depth next end more →
        IsExploredTo g drawn start (depth + 1) more × (depth + 1 ≤ limits.levels) × (length more.kept ≤ limits.variants)
    run_on d limits carry more on = (
      subst (IsExploredTo g drawn start (depth + 1)) (sym on.is) (goes_on g drawn start limits depth r explored next end h carry on.whole),
      (let l = on.more_levels in omega (arith, l)),
      (let l = on.few in let e = ap (λ (m : LevelLists). length m.kept) on.is ∙ length-append r.kept next in omega (arith, l, e)),
    )

module _ {A : Type 0} where
  -- a list at one of its members
  pub split_here : (xs : List A) (i : ℕ) (x : A) → i < length xs → x ≡ get_or xs i x → xs ≡ take i xs ++ x ∷ drop (i + 1) xs
  split_here xs i x l is = sym (take-append-drop i xs) ∙ ap (λ k. take i xs ++ k) (drop_more xs i x l ∙ ap (λ z. z ∷ drop (i + 1) xs) (sym is))

  take_again : (xs ys : List A) (i : ℕ) → i ≤ length xs → take i (take i xs ++ ys) ≡ take i xs
  take_again xs ys zero l = refl
  take_again [] ys (suc i) l = absurd (omega (arith, l))
  take_again (x ∷ xs) ys (suc i) l = ap (λ r. x ∷ r) (take_again xs ys i (omega (arith, l)))

  -- so many of a list, where one was taken out behind them
  pub front_is : (xs without front : List A) (i : ℕ) → i < length xs → without ≡ take i xs ++ drop (suc i) xs → front ≡ take i without → front ≡ take i xs
  front_is xs without front i l a b = b ∙ ap (take i) a ∙ take_again xs (drop (suc i) xs) i (omega (arith, l))

  pub front_length : (xs front : List A) (i : ℕ) → i < length xs → front ≡ take i xs → length front ≡ i
  front_length xs front i l is = ap length is ∙ length-take-le i xs (omega (arith, l))

-- where a list of next variants is cut before one
pub record IsCut (next : List Variant) (room : ℕ) (v : Variant) (front : List Variant) : Type 0 where
  pub split : next ≡ front ++ v ∷ drop (room + 1) next
  pub long : length front ≡ room

pub cut_at : (next without front : List Variant) (room : ℕ) (v : Variant) → room < length next → v ≡ get_or next room v → without ≡ take room next ++ drop (suc room) next → front ≡ take room without → IsCut next room v front
cut_at next without front room v l is a b =
    let e = front_is next without front room l a b in
    record {
      split = split_here next room v l is ∙ ap (λ k. k ++ v ∷ drop (room + 1) next) (sym e);
      long = front_length next front room l e;
    }

-- what is kept with the front of the next level
pub kept_cut : (d : Declarations) (kept next : List Variant) (room : ℕ) (v : Variant) (front : List Variant) → IsCut next room v front → AreKept d (kept ++ next) → AreKept d (kept ++ front)
kept_cut d kept next room v front h k = kept_front d kept front (v ∷ drop (room + 1) next) (subst (λ l. AreKept d (kept ++ l)) h.split k)

-- a level that is whole and has members goes on
pub over_or_whole : (next : List Variant) (end : ExpandEnd) (b : Bool) → (IsTrue b ↔ (end ≡ Whole)) → IsOverOrWhole (not b) next end
over_or_whole next end true h = h.0 refl
over_or_whole next end false h = inl (λ w. false≢true (h.1 w))

-- lists that were tested for being empty
module _ {A Z : Type 0} where
  pub none_left : (v : Vec A Z) (b : Bool) → b ≡ (vec_len v == 0) → b ≡ true → v.items ≡ []
  none_left v b e t = nil_from_length v.items (let k : (vec_len v == 0) ≡ true = sym e ∙ t in grind (arith, nat_tests, v.ok.0))

  pub some_left : (v : Vec A Z) (b : Bool) → b ≡ (vec_len v == 0) → b ≡ false → 0 < length v.items
  some_left v b e f = let k : (vec_len v == 0) ≡ false = sym e ∙ f in grind (arith, nat_tests, v.ok.0)
