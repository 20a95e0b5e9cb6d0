-- What is ahead of a search, in its states and at its leaf.
use Rattle.std.proofs.Common.{◌≡◌, List, [], subst, inl, inr, Option}
use Rattle.std.specs.Prelude.{◌⊎◌}
use Rattle.fvn_base.proofs.Membership.{contains_none}
use Rattle.fvn_terms.specs.Substitution.{Substitution}
use Rattle.fvn_combine_nodes.specs.declared.state.State.{State}
use Rattle.fvn_combine.specs.Tasks.{Combining, HoldsFor}
use Rattle.fvn_combine.specs.Search.{IsAdmitted, IsCoveredAt}
use Rattle.fvn_combine.specs.declared.opened.Leaf.{Leaf}
use Rattle.fvn_combine.specs.declared.stepping.Step.TheVariants.{More}
use Rattle.fvn_combine.specs.inner.Found.{IsAhead, IsAheadAsBefore, IsStep}

module _ (k : Combining) (states : List State) (leaf : Option Leaf) (states_now : List State) (leaf_now : Option Leaf) (same : IsAheadAsBefore k states leaf states_now leaf_now) where
  -- the leaf has what it had
  pub leaf_kept : (after : Option Leaf) → ((u : Substitution) → IsCoveredAt k leaf_now u → IsCoveredAt k after u) → ((u : Substitution) → IsCoveredAt k after u → IsCoveredAt k leaf_now u) → IsAheadAsBefore k states leaf states_now after
  leaf_kept after kept fewer u = (
    λ h. let n = (same u).0 h in
        let v = n.1.0 in (
          n.0,
          (
            v,
            n.1.1,
            elim n.1.2 [
              | inl a ↦ inl a
              | inr c ↦ inr (kept v c)
            ],
          ),
        ),
    λ h. let v = h.1.0 in (same u).1 (
      h.0,
      (
        v,
        h.1.1,
        elim h.1.2 [
          | inl a ↦ inl a
          | inr c ↦ inr (fewer v c)
        ],
      ),
    ),
  )

  -- what the leaf gives covers what is no longer ahead
  pub leaf_gives : (after : Option Leaf) (Q : Substitution → Type 0) → ((u : Substitution) → IsCoveredAt k leaf_now u → Q u ⊎ IsCoveredAt k after u) → (u : Substitution) → IsAhead k states leaf u → HoldsFor k Q u ⊎ IsAhead k states_now after u
  leaf_gives after Q given u h =
      let n = (same u).0 h in
      let v = n.1.0 in
      let stands = n.1.1 in
      elim n.1.2 [
        | inl a ↦ inr (n.0, (v, stands, inl a))
        | inr c ↦ elim (given v c) [
          | inl q ↦ inl (v, stands, q)
          | inr m ↦ inr (n.0, (v, stands, inr m))
        ]
      ]

  module _ (none : (u : Substitution) → IsCoveredAt k leaf_now u → ⊥) (after : Option Leaf) (fewer : (u : Substitution) → IsCoveredAt k after u → IsCoveredAt k leaf_now u) where
    -- nothing is ahead where no state is left
    pub nothing_ahead : states_now ≡ [] → (u : Substitution) → IsAhead k states leaf u → ⊥
    nothing_ahead e u h =
        let n = ((same u).0 h).1 in
        let v = n.0 in
        elim n.2 [
          | inl a ↦ let m = subst (λ l. IsAdmitted k l v) e a in contains_none m.1 (m.0, m.2, m.3)
          | inr c ↦ none v c
        ]

    -- what the states admit is ahead after a step
    pub ahead_after : (states_after : List State) (leaf_after : Option Leaf) → IsStep k states_now after states_after leaf_after More → IsAheadAsBefore k states leaf states_after leaf_after
    ahead_after states_after leaf_after step u = (
      λ h. let n = (same u).0 h in
          let v = n.1.0 in
          let stands = n.1.1 in (
            n.0,
            elim n.1.2 [
              | inl a ↦ (step.2 u n.0).0 (v, stands, a)
              | inr c ↦ absurd (none v c)
            ],
          ),
      λ h. let b = (step.2 u h.0).1 h.1 in (same u).1 (h.0, (b.0, b.1, inl b.2)),
    )
