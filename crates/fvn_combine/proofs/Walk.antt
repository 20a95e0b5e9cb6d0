-- What is to come at a leaf when the numbers under the current tags are gone through.
use Rattle.std.proofs.Common.{sym, subst, inl, inr, Option}
use Rattle.std.specs.Prelude.{◌⊎◌}
use Rattle.fvn_terms.specs.Substitution.{Substitution}
use Rattle.fvn_combine_nodes.specs.declared.state.State.{State}
use Rattle.fvn_combine_drawing.specs.declared.drawing.Drawn.{Drawn}
use Rattle.fvn_combine_drawing.specs.declared.drawing.Drawn.TheVariants.{Nothing, TooLarge, Unifier}
use Rattle.fvn_combine_loose.specs.Laws.{AreVariables}
use Rattle.fvn_combine.specs.Tasks.{Combining}
use Rattle.fvn_combine.specs.Leaves.{IsCoveredNow, IsCoveredLater, IsCoveredToCome}
use Rattle.fvn_combine.specs.declared.opened.Turning.{Turning}
use Rattle.fvn_combine.specs.declared.opened.Opened.{Opened}
use Rattle.fvn_combine.specs.inner.Found.{IsDrawnFrom, IsSameButCurrent}

module _ (k : Combining) (s : State) where
  -- what is to come later does not rest on the current tags
  later_under : (o : Opened) (current : Option Turning) (u : Substitution) → IsCoveredLater k s o u → IsCoveredLater k s (record { reading = o.reading; labels = o.labels; bases = o.bases; shared = o.shared; tags = o.tags; loose = o.loose; turning = current }) u
  later_under o current u h = record {
    options = h.options;
    pending = h.pending;
    numbers = h.numbers;
    as_many = h.as_many;
    covered = h.covered;
  }

  module _ (before after : Opened) (same : IsSameButCurrent before after) where
    pub later_kept : (u : Substitution) → IsCoveredLater k s before u → IsCoveredLater k s after u
    later_kept u h = subst (λ o. IsCoveredLater k s o u)
        (λ i. record { reading = (sym same.reading) i; labels = (sym same.labels) i; bases = (sym same.bases) i; shared = (sym same.shared) i; tags = (sym same.tags) i; loose = (sym same.loose) i; turning = after.turning })
        (later_under before after.turning u h)

    pub later_was : (u : Substitution) → IsCoveredLater k s after u → IsCoveredLater k s before u
    later_was u h = subst (λ o. IsCoveredLater k s o u)
        (λ i. record { reading = same.reading i; labels = same.labels i; bases = same.bases i; shared = same.shared i; tags = same.tags i; loose = same.loose i; turning = before.turning })
        (later_under after before.turning u h)

    -- loose classes have variables before and after
    pub variables_kept : (u : Substitution) → IsCoveredToCome k s before u → AreVariables k.declarations k.table after.loose u
    variables_kept u h = subst (λ l. AreVariables k.declarations k.table l u) (sym same.loose) h.0

    pub to_come_was : ((u : Substitution) → IsCoveredNow k s after u → IsCoveredNow k s before u) → (u : Substitution) → IsCoveredToCome k s after u → IsCoveredToCome k s before u
    to_come_was fewer u h = (
      subst (λ l. AreVariables k.declarations k.table l u) same.loose h.0,
      elim h.1 [
        | inl n ↦ inl (fewer u n)
        | inr l ↦ inr (later_was u l)
      ],
    )

    pub to_come_kept : ((u : Substitution) → IsCoveredNow k s before u → IsCoveredNow k s after u) → (u : Substitution) → IsCoveredToCome k s before u → IsCoveredToCome k s after u
    to_come_kept kept u h = (
      variables_kept u h,
      elim h.1 [
        | inl n ↦ inl (kept u n)
        | inr l ↦ inr (later_kept u l)
      ],
    )

    pub to_come_or : (Q : Substitution → Type 0) → ((u : Substitution) → IsCoveredNow k s before u → Q u ⊎ IsCoveredNow k s after u) → (u : Substitution) → IsCoveredToCome k s before u → Q u ⊎ IsCoveredToCome k s after u
    to_come_or Q given u h = elim h.1 [
      | inl n ↦ elim (given u n) [
        | inl q ↦ inl q
        | inr m ↦ inr (variables_kept u h, inl m)
      ]
      | inr l ↦ inr (variables_kept u h, inr (later_kept u l))
    ]

    pub later_alone : ((u : Substitution) → IsCoveredNow k s before u → ⊥) → (u : Substitution) → IsCoveredToCome k s before u → IsCoveredLater k s after u
    later_alone none u h = elim h.1 [
      | inl n ↦ absurd (none u n)
      | inr l ↦ later_kept u l
    ]

-- what holds beside is kept
pub drawn_beside : (k : Combining) (Before After Beside : Substitution → Type 0) (r : Drawn) → IsDrawnFrom k Before After r → IsDrawnFrom k (λ u. Beside u × Before u) (λ u. Beside u × After u) r
drawn_beside k Before After Beside Nothing h = λ u b. h u b.1
drawn_beside k Before After Beside (TooLarge list) h = (h.0, λ u b. (b.0, h.1 u b.1))
drawn_beside k Before After Beside (Unifier g) h = (
  h.0,
  λ u b. elim (h.1 u b.1) [
    | inl q ↦ inl q
    | inr a ↦ inr (b.0, a)
  ],
)
