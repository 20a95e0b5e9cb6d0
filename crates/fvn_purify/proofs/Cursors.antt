-- How a cursor changes with a step.
use Rattle.std.proofs.Common.{◌≡◌, ℕ, suc, ◌+◌, ◌-◌, ◌*◌, ◌^◌, ◌<◌, ◌≤◌, List, [], ◌∷◌, ◌++◌, length, refl, subst, inl, inr, arith, Option, Some, None, Any, Contains}
use Rattle.std.specs.Prelude.{◌↔◌}
use Rattle.std.proofs.Math.Nat.{one-le-pow}
use Rattle.std.proofs.lemmas.List.Sums.{sum_by-append, sum_by-cons}
use Rattle.std.proofs.lemmas.List.Elements.{All-contains, Contains-append_cases}
use Rattle.fvn_base.proofs.Membership.{contains_here}
use Rattle.fvn_terms.specs.declared.declarations.Declarations.{Declarations}
use Rattle.fvn_combine_nodes.specs.States.{open_pairs}
use Rattle.fvn_combine_nodes.proofs.Lists.{all_from}
use Rattle.fvn_purify.specs.Parts.{Outline}
use Rattle.fvn_purify.specs.Cursor.{IsAheadOf, HasSamePending, IsAtEnd, IsGivenFrom}
use Rattle.fvn_purify.specs.inner.Choices.{base, places_count, weight, IsSound, ShareNoSplit, IsExpansion, IsKept}
use Rattle.fvn_purify.specs.inner.Founds.{cursor}
use Rattle.fvn_purify.specs.Weight.{cursor_weight}
use Rattle.fvn_purify.specs.declared.split.Split.{Split}
use Rattle.fvn_purify.specs.declared.choosing.Partial.{Partial}
use Rattle.fvn_purify.specs.declared.choosing.Partial.TheVariants.{Asking, Choosing}
use Rattle.fvn_purify.proofs.Elements.{contains_left, contains_right, any_here, any_one, any_from, any_contains, any_left, any_right, any_append, any_none, all_pairs_append, all_pairs_front, all_pairs_cross}

module _ (d : Declarations) (c : Outline) (below : List Partial) (top : Partial) (kept : IsKept (cursor d c (below ++ top ∷ []))) where
  abbrev Ahead : Split → Partial → Type 0
  Ahead split p = IsAheadOf d c p split

  top_here : Contains (below ++ top ∷ []) top
  top_here = contains_right below (top ∷ []) top (contains_here top [])

  pub top_sound : IsSound d c top
  top_sound = All-contains (IsSound d c) (below ++ top ∷ []) top kept.sound top_here

  -- what is expanded stands in place of the top
  module _ (after : List Partial) (expansion : IsExpansion d c top after) where
    pub more_kept : IsKept (cursor d c (below ++ after))
    more_kept = record {
      fit = kept.fit;
      sound = all_from (IsSound d c) (below ++ after) (λ p h. elim (Contains-append_cases below after p h) [
        | inl l ↦ All-contains (IsSound d c) (below ++ top ∷ []) p kept.sound (contains_left below (top ∷ []) p l)
        | inr r ↦ All-contains (IsSound d c) after p expansion.sound r
      ]);
      apart = all_pairs_append (ShareNoSplit d c) below after (all_pairs_front (ShareNoSplit d c) below (top ∷ []) kept.apart) expansion.apart (λ p q h k split a b.
          all_pairs_cross (ShareNoSplit d c) below (top ∷ []) kept.apart p top h (contains_here top []) split a ((expansion.same split).1 (any_from (Ahead split) after q k b)));
    }

    pub more_same : HasSamePending (cursor d c (below ++ top ∷ [])) (cursor d c (below ++ after))
    more_same split = (
      λ h. elim (any_append (Ahead split) below after h) [
        | inl l ↦ any_left (Ahead split) below (top ∷ []) l
        | inr r ↦ any_right (Ahead split) below (top ∷ []) (any_here (Ahead split) top [] ((expansion.same split).1 r))
      ],
      λ h. elim (any_append (Ahead split) below (top ∷ []) h) [
        | inl l ↦ any_left (Ahead split) below after l
        | inr r ↦ any_right (Ahead split) below after ((expansion.same split).0 (any_one (Ahead split) top r))
      ],
    )

    pub more_falls : cursor_weight (cursor d c (below ++ after)) < cursor_weight (cursor d c (below ++ top ∷ []))
    more_falls =
        let a = sum_by-append (weight d c) below after in
        let b = sum_by-append (weight d c) below (top ∷ []) in
        let e = sum_by-cons (weight d c) top [] in
        let f = expansion.falls in
        omega arith

  -- the top is one split
  module _ (given : Split) (only : (split : Split) → IsAheadOf d c top split ↔ (split ≡ given)) where
    pub given_kept : IsKept (cursor d c below)
    given_kept = record {
      fit = kept.fit;
      sound = all_from (IsSound d c) below (λ p h. All-contains (IsSound d c) (below ++ top ∷ []) p kept.sound (contains_left below (top ∷ []) p h));
      apart = all_pairs_front (ShareNoSplit d c) below (top ∷ []) kept.apart;
    }

    pub given_from : IsGivenFrom (cursor d c (below ++ top ∷ [])) (cursor d c below) (Some given)
    given_from = record {
      was = any_right (Ahead given) below (top ∷ []) (any_here (Ahead given) top [] ((only given).1 refl));
      others = λ split. (
        λ h. (
          any_left (Ahead split) below (top ∷ []) h,
          λ e.
              let r = any_contains (Ahead split) below h in
              all_pairs_cross (ShareNoSplit d c) below (top ∷ []) kept.apart r.0 top r.1 (contains_here top []) split r.2 ((only split).1 e),
        ),
        λ h. elim (any_append (Ahead split) below (top ∷ []) h.0) [
          | inl l ↦ l
          | inr r ↦ absurd (h.1 ((only split).0 (any_one (Ahead split) top r)))
        ],
      );
    }

-- a partial is not weightless
some_weight : (d : Declarations) (c : Outline) (p : Partial) → 1 ≤ weight d c p
some_weight d c (Asking s) = times (3 ^ open_pairs s) (base d c ^ suc (places_count d c)) (one-le-pow (open_pairs s) 3 (omega arith)) (one-le-pow (suc (places_count d c)) (base d c) (omega arith))
  where
    times : (m n : ℕ) → 1 ≤ m → 1 ≤ n → 1 ≤ m * n
    times m n a b = grind arith
some_weight d c (Choosing l) = one-le-pow (places_count d c - (length l.heads + length l.swaps)) (base d c) (omega arith)

pub top_falls : (d : Declarations) (c : Outline) (below : List Partial) (top : Partial) → cursor_weight (cursor d c below) < cursor_weight (cursor d c (below ++ top ∷ []))
top_falls d c below top =
    let a = sum_by-append (weight d c) below (top ∷ []) in
    let e = sum_by-cons (weight d c) top [] in
    let w = some_weight d c top in
    omega arith

-- nothing is ahead of nothing
pub none_from : (d : Declarations) (c : Outline) (partials : List Partial) → partials ≡ [] → IsGivenFrom (cursor d c partials) (cursor d c partials) None
none_from d c partials e = (nothing, nothing)
  where
    nothing : IsAtEnd (cursor d c partials)
    nothing split h = any_none (λ p. IsAheadOf d c p split) (subst (Any (λ p. IsAheadOf d c p split)) e h)

-- a step from what has the same to come
pub same_then_given : (d : Declarations) (c : Outline) (first before after : List Partial) (r : Option Split) → HasSamePending (cursor d c first) (cursor d c before) → IsGivenFrom (cursor d c before) (cursor d c after) r → IsGivenFrom (cursor d c first) (cursor d c after) r
same_then_given d c first before after None same h = (λ split k. h.0 split ((same split).1 k), h.1)
same_then_given d c first before after (Some given) same h = record {
  was = (same given).0 h.was;
  others = λ split. (λ k. let r = (h.others split).0 k in ((same split).0 r.0, r.1), λ k. (h.others split).1 ((same split).1 k.0, k.1));
}

pub same_then_same : (d : Declarations) (c : Outline) (first before after : List Partial) → HasSamePending (cursor d c first) (cursor d c before) → HasSamePending (cursor d c before) (cursor d c after) → HasSamePending (cursor d c first) (cursor d c after)
same_then_same d c first before after f g split = (λ k. (f split).0 ((g split).0 k), λ k. (g split).1 ((f split).1 k))

pub same_itself : (d : Declarations) (c : Outline) (partials : List Partial) → HasSamePending (cursor d c partials) (cursor d c partials)
same_itself d c partials split = (λ k. k, λ k. k)
