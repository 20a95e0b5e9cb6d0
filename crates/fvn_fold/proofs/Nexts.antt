-- The next level of some members of a level, and of more of them.
use Rattle.std.proofs.Common.{◌≡◌, ◌⊎◌, ◌<◌, ℕ, arith, List, [], ◌++◌, refl, sym, ◌∙◌, subst, inl, inr}
use Rattle.std.specs.Prelude.{All, AllPairs, Any, Contains}
use Rattle.std.proofs.lemmas.List.Elements.{All-nil, All-append, All-contains, Contains-append_left, Contains-append_right}
use Rattle.fvn_base.specs.declared.limits.TheConstants.{EXPANDED_FRESH}
use Rattle.fvn_terms.specs.declared.plain.Var.{Var}
use Rattle.fvn_terms.specs.declared.declarations.Declarations.{Declarations}
use Rattle.fvn_terms.specs.Substitution.{Substitution, Occurs}
use Rattle.fvn_terms.specs.Unifiers.{Problem}
use Rattle.fvn_cover.specs.declared.variant.Variant.{Variant}
use Rattle.fvn_cover.specs.Covering.{AreAlike, IsFlatVariant}
use Rattle.fvn_cover.specs.Marks.{AreComparable}
use Rattle.fvn_cover.specs.Pruning.{IsCoveredBySome}
use Rattle.fvn_exploring.specs.declared.ends.ExpandEnd.{ExpandEnd}
use Rattle.fvn_exploring.specs.declared.ends.ExpandEnd.TheVariants.{Whole}
use Rattle.fvn_exploring.specs.Setting.{Setting}
use Rattle.fvn_exploring.specs.Children.{IsMember, IsChild}
use Rattle.fvn_exploring.specs.Liftings.{LiftsInto}
use Rattle.fvn_exploring.specs.Expansions.{IsExpandable, IsExpandCause}
use Rattle.fvn_fold.specs.Levels.{AreExpandable}
use Rattle.fvn_fold.specs.inner.Gathering.{IsCoveredByEither, AreReady, AreGathered, AreTaken, IsMoreOfLevel, IsNextLevel}
use Rattle.fvn_fold.proofs.Gathers.{all_members, any_member, member_of_any, lifts_weaker}

no_index : (j : ℕ) → j < 0 → ⊥
no_index j h = omega (arith, h)

pub like_back : (a b : Variant) → AreAlike a b → AreAlike b a
like_back a b h = record { vars = sym h.vars; terms = sym h.terms }

pub like_on : (a b c : Variant) → AreAlike a b → AreAlike b c → AreAlike a c
like_on a b c h k = record { vars = h.vars ∙ k.vars; terms = h.terms ∙ k.terms }

pub like_itself : (a : Variant) → AreAlike a a
like_itself a = record { vars = refl; terms = refl }

module _ (g : Setting) (kept : List Variant) (ready : AreReady g kept) where
  abbrev LikeFirst : Variant → Type 0
  LikeFirst v = AreAlike ready.first v

  pub kept_member : (v : Variant) → Contains kept v → IsMember g v
  kept_member v m = All-contains (IsMember g) kept v ready.members m

  pub kept_like : (v : Variant) → Contains kept v → LikeFirst v
  kept_like v m = All-contains LikeFirst kept v ready.alike m

  -- kept variants may be expanded
  pub kept_expandable : (members : List Variant) → All (Contains kept) members → AreExpandable g members
  kept_expandable members listed = all_members (IsExpandable g EXPANDED_FRESH) members (λ v m.
      let i = All-contains (Contains kept) members v listed m in
      let k = kept_member v i in
      record {
        flat = k.flat;
        holds = k.holds;
        once = subst (AllPairs (λ x y. x ≡ y → ⊥)) (kept_like v i).vars ready.once;
        numbers = k.numbers;
        fixed = subst (λ l. All (λ t. (y : Var) → Occurs y t → Contains l y) g.fixed) (kept_like v i).vars ready.fixed;
      })

  module _ (drawn : Problem → Substitution → Type 0) where
    abbrev IsChildOf : List Variant → Variant → Type 0
    IsChildOf members w = Any (λ m. IsChild g drawn m w) members

    -- a child of kept variants
    pub child_member : (members : List Variant) (w : Variant) → IsChildOf members w → IsMember g w
    child_member members w h = let c = member_of_any (λ m. IsChild g drawn m w) members h in (c.1.1).member

    pub child_like : (members : List Variant) → ((v : Variant) → Contains members v → Contains kept v) → (w : Variant) → IsChildOf members w → LikeFirst w
    child_like members within w h =
        let c = member_of_any (λ m. IsChild g drawn m w) members h in
        like_on ready.first c.0 w (kept_like c.0 (within c.0 c.1.0)) (c.1.1).alike

  -- variants that are alike the first are alike
  pub all_alike : (list others : List Variant) → ((v : Variant) → Contains list v → LikeFirst v) → ((v : Variant) → Contains others v → LikeFirst v) → All (λ a. All (AreAlike a) others) list
  all_alike list others h k = all_members (λ a. All (AreAlike a) others) list (λ a i. all_members (AreAlike a) others (λ b j.
      like_on a ready.first b (like_back ready.first a (h a i)) (k b j)))

  pub comparable : (candidates : List Variant) → ((v : Variant) → Contains candidates v → LikeFirst v) → ((v : Variant) → Contains candidates v → IsMember g v) → AreComparable g.declarations kept candidates
  comparable candidates like member = record {
    kept_flat = all_members (IsFlatVariant g.declarations) kept (λ v m. (kept_member v m).flat);
    candidates_flat = all_members (IsFlatVariant g.declarations) candidates (λ v m. (member v m).flat);
    alike = all_alike kept candidates kept_like like;
  }

module _ (g : Setting) (drawn : Problem → Substitution → Type 0) (kept : List Variant) where
  abbrev d : Declarations
  d = g.declarations

  abbrev ChildOf : List Variant → Variant → Type 0
  ChildOf members w = Any (λ m. IsChild g drawn m w) members

  abbrev Uncovered : Variant → Type 0
  Uncovered w = IsCoveredBySome d kept w → ⊥

  -- what candidates that were taken add
  pub more_taken : (members candidates before after : List Variant) (end : ExpandEnd) → AreGathered g drawn members candidates end → AreTaken d kept before candidates after → IsMoreOfLevel g drawn kept members before after end
  more_taken members candidates before after end h t = record {
    each = all_members (λ w. Contains before w ⊎ (ChildOf members w × Uncovered w)) after (λ w m. one w (All-contains (λ w. Contains before w ⊎ (Contains candidates w × Uncovered w)) after w t.each m));
    apart = t.apart;
    still = t.still;
    whole = λ e. all_members (λ m. LiftsInto g m (IsCoveredByEither d kept after)) members (λ m i.
        lifts_weaker g m (Contains candidates) (IsCoveredByEither d kept after) (λ c l. All-contains (IsCoveredByEither d kept after) candidates c t.covered l)
        (All-contains (λ m. LiftsInto g m (Contains candidates)) members m (h.whole e) i));
    cause = h.cause;
  } where
    one : (w : Variant) → Contains before w ⊎ (Contains candidates w × Uncovered w) → Contains before w ⊎ (ChildOf members w × Uncovered w)
    one w (inl l) = inl l
    one w (inr r) = inr (All-contains (ChildOf members) candidates w h.children r.0, r.1)

  any_left : (P : Variant → Type 0) (xs ys : List Variant) → Any P xs → Any P (xs ++ ys)
  any_left P xs ys h = let m = member_of_any P xs h in any_member P (xs ++ ys) m.0 (Contains-append_left xs ys m.0 m.1.0) m.1.1

  any_right : (P : Variant → Type 0) (xs ys : List Variant) → Any P ys → Any P (xs ++ ys)
  any_right P xs ys h = let m = member_of_any P ys h in any_member P (xs ++ ys) m.0 (Contains-append_right xs ys m.0 m.1.0) m.1.1

  -- the next level of no members
  pub none_next : IsNextLevel g drawn kept [] [] Whole
  none_next = record {
    is_next = record { children = All-nil (ChildOf []); uncovered = All-nil Uncovered; apart = λ i j e l m. absurd (no_index j m) };
    whole = λ e. All-nil (λ m. LiftsInto g m (IsCoveredByEither d kept []));
    cause = inl refl;
  }

  -- that of more members
  pub more_next : (members more before after : List Variant) (end : ExpandEnd) → IsNextLevel g drawn kept members before Whole → IsMoreOfLevel g drawn kept more before after end → IsNextLevel g drawn kept (members ++ more) after end
  more_next members more before after end h k = record {
    is_next = record {
      children = all_members (ChildOf (members ++ more)) after (λ w m. child w (each w m));
      uncovered = all_members Uncovered after (λ w m. uncovered w (each w m));
      apart = k.apart;
    };
    whole = λ e.
        All-append (λ m. LiftsInto g m (IsCoveredByEither d kept after)) members more
        (all_members (λ m. LiftsInto g m (IsCoveredByEither d kept after)) members (λ m i.
        lifts_weaker g m (IsCoveredByEither d kept before) (IsCoveredByEither d kept after) still (All-contains (λ m. LiftsInto g m (IsCoveredByEither d kept before)) members m (h.whole refl) i)))
        (k.whole e);
    cause = cause k.cause;
  } where
    each : (w : Variant) → Contains after w → Contains before w ⊎ (ChildOf more w × Uncovered w)
    each w m = All-contains (λ w. Contains before w ⊎ (ChildOf more w × Uncovered w)) after w k.each m

    child : (w : Variant) → Contains before w ⊎ (ChildOf more w × Uncovered w) → ChildOf (members ++ more) w
    child w (inl l) = any_left (λ m. IsChild g drawn m w) members more (All-contains (ChildOf members) before w (h.is_next).children l)
    child w (inr r) = any_right (λ m. IsChild g drawn m w) members more r.0

    uncovered : (w : Variant) → Contains before w ⊎ (ChildOf more w × Uncovered w) → Uncovered w
    uncovered w (inl l) = All-contains Uncovered before w (h.is_next).uncovered l
    uncovered w (inr r) = r.1

    still : (v : Variant) → IsCoveredByEither d kept before v → IsCoveredByEither d kept after v
    still v (inl l) = inl l
    still v (inr r) = inr (k.still v r)

    cause : (end ≡ Whole) ⊎ Any (λ m. IsExpandCause g drawn m end) more → (end ≡ Whole) ⊎ Any (λ m. IsExpandCause g drawn m end) (members ++ more)
    cause (inl e) = inl e
    cause (inr a) = inr (any_right (λ m. IsExpandCause g drawn m end) members more a)

  -- where the end is not Whole, members may follow
  pub cut_next : (members rest next : List Variant) (end : ExpandEnd) → (end ≡ Whole → ⊥) → IsNextLevel g drawn kept members next end → IsNextLevel g drawn kept (members ++ rest) next end
  cut_next members rest next end not h = record {
    is_next = record {
      children = all_members (ChildOf (members ++ rest)) next (λ w m. any_left (λ m. IsChild g drawn m w) members rest (All-contains (ChildOf members) next w (h.is_next).children m));
      uncovered = (h.is_next).uncovered;
      apart = (h.is_next).apart;
    };
    whole = λ e. absurd (not e);
    cause = cause h.cause;
  } where
    cause : (end ≡ Whole) ⊎ Any (λ m. IsExpandCause g drawn m end) members → (end ≡ Whole) ⊎ Any (λ m. IsExpandCause g drawn m end) (members ++ rest)
    cause (inl e) = inl e
    cause (inr a) = inr (any_left (λ m. IsExpandCause g drawn m end) members rest a)
