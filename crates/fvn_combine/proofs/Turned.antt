-- The next tags are made the current ones.
use Rattle.std.proofs.Common.{◌≡◌, ℕ, ◌<◌, ◌≤◌, List, refl, sym, ◌∙◌, subst, inl, inr, Option, Some, true}
use Rattle.std.specs.Prelude.{◌⊎◌, ◌↔◌}
use Rattle.std.specs.List.{AllZip}
use Rattle.std.proofs.lemmas.Slice.Zip.{AllZip-long}
use Rattle.fvn_base.proofs.Options.{Some-injective}
use Rattle.fvn_terms.specs.declared.plain.OpId.{OpId}
use Rattle.fvn_terms.specs.Substitution.{Substitution}
use Rattle.fvn_flat.specs.Solving.{problem_of}
use Rattle.fvn_combine_nodes.specs.States.{class_of}
use Rattle.fvn_combine_nodes.specs.declared.state.State.{State}
use Rattle.fvn_acunify_product.specs.Tags.{Tagging, PendingTags, tags_left}
use Rattle.fvn_acunify_product.specs.Wheels.{Odometer, IsChoice, PendingChoices, choices_left}
use Rattle.fvn_combine_drawing.specs.CombineAdmissibleListed.{tag_in, choice_of}
use Rattle.fvn_combine_drawing.specs.CombineCandidatesLaws.{ListedChoicesArePossible, SortedChoicesAreWithin}
use Rattle.fvn_combine_drawing.specs.CombineCandidatesTags.{AreTags}
use Rattle.fvn_combine_drawing.specs.CombineCandidatesTurning.{AreWheels, HaveBounds}
use Rattle.fvn_combine_loose.specs.Laws.{AreVariables}
use Rattle.fvn_combine.specs.Tasks.{Combining, IsCombining}
use Rattle.fvn_combine.specs.Leaves.{IsSortedCovering, IsTurning, IsCoveredLater, IsCoveredToCome, IsOpened}
use Rattle.fvn_combine.specs.declared.opened.Turning.{Turning}
use Rattle.fvn_combine.specs.declared.opened.Opened.{Opened}
use Rattle.fvn_combine.specs.Work.{most_numbers, numbers_left}
use Rattle.fvn_combine.specs.inner.Found.{IsTurned}
use Rattle.fvn_combine.proofs.Less.{falls-le}

module _ (k : Combining) (is : IsCombining k) (possible : ListedChoicesArePossible) (within : SortedChoicesAreWithin) (s : State) (o : Opened) (opened : IsOpened k s o) (tags : List (Option OpId)) (options : List ℕ) (are : AreTags o.shared options tags) (wheels : Odometer) (asked : AreWheels k.declarations k.table (class_of s) (tag_in tags) o.reading.sums o.bases wheels.wheels) (bounds : HaveBounds k.declarations k.table (class_of s) k.sorted o.reading.sums wheels.wheels) (all : (numbers : List ℕ) → AllZip IsChoice wheels.wheels numbers → PendingChoices wheels numbers) (after : Tagging) (counts : after.counts ≡ o.tags.counts) (now : o.tags.current ≡ Some options) (taken : (n : List ℕ) → PendingTags o.tags n ↔ ((o.tags.current ≡ Some n) ⊎ PendingTags after n)) (falls : tags_left after < tags_left o.tags) (no_more : choices_left wheels ≤ most_numbers k) where
  abbrev current : Turning
  current = record { tags = tags; wheels = wheels }

  abbrev turned_leaf : Opened
  turned_leaf = record { reading = o.reading; labels = o.labels; bases = o.bases; shared = o.shared; tags = after; loose = o.loose; turning = Some current }

  is_turning : IsTurning k s o.reading o.bases o.shared current
  is_turning = record { options = options; are_tags = are; are_wheels = asked }

  still_opened : IsOpened k s turned_leaf
  still_opened = record {
    ready = opened.ready;
    leaf = opened.leaf;
    reading = opened.reading;
    labels = opened.labels;
    as_many = opened.as_many;
    bases = opened.bases;
    alive = opened.alive;
    shared = opened.shared;
    counts = counts ∙ opened.counts;
    turning = λ v e. subst (IsTurning k s o.reading o.bases o.shared) (Some-injective e) is_turning;
    loose = opened.loose;
    none_loose = opened.none_loose;
  }

  -- tags by the same options make the same choices
  same_choice : (others : List (Option OpId)) (numbers : List ℕ) → AreTags o.shared options others → choice_of o.reading others numbers ≡ choice_of o.reading tags numbers
  same_choice others numbers h = λ i. record { tag = λ x. (h x ∙ sym (are x)) i; number = (choice_of o.reading tags numbers).number }

  to_come : (u : Substitution) → AreVariables k.declarations k.table o.loose u → IsCoveredLater k s o u → IsCoveredToCome k s turned_leaf u
  to_come u variables h = elim ((taken h.options).0 h.pending) [
    | inl e ↦
        let covered = h.covered tags (subst (λ n. AreTags o.shared n tags) (Some-injective (sym now ∙ e)) are) in
        let inside = within k.declarations k.table (class_of s) o.reading opened.reading o.bases opened.bases tags wheels.wheels asked k.sorted bounds h.numbers h.as_many covered.bounds in
        let valid = (possible k.declarations is.good.fits (problem_of k.given) is.is_given.kinds k.table is.well_made is.table_of (class_of s) o.reading opened.reading o.bases opened.bases k.sorted o.shared opened.shared options tags are wheels.wheels asked h.numbers h.as_many).0 (covered.covering.possible, covered.covering.full, inside) in
        (variables, inl (record { numbers = h.numbers; pending = all h.numbers valid.0; covered = covered }))
    | inr p ↦ (
      variables,
      inr (record {
        options = h.options;
        pending = p;
        numbers = h.numbers;
        as_many = h.as_many;
        covered = h.covered;
      }),
    )
  ]

  was_to_come : (u : Substitution) → IsCoveredToCome k s turned_leaf u → IsCoveredLater k s o u
  was_to_come u (_, inl h) = record {
    options = options;
    pending = (taken options).1 (inl now);
    numbers = h.numbers;
    as_many = AllZip-long IsChoice wheels.wheels h.numbers h.pending.0 ∙ asked.as_many;
    covered = λ others a. subst (IsSortedCovering k s o.reading o.bases o.labels u) (sym (same_choice others h.numbers a)) h.covered;
  }
  was_to_come u (_, inr h) = record {
    options = h.options;
    pending = (taken h.options).1 (inr h.pending);
    numbers = h.numbers;
    as_many = h.as_many;
    covered = h.covered;
  }

  pub turned : IsTurned k s o turned_leaf true
  turned = (still_opened, falls, refl, to_come, was_to_come, falls-le (most_numbers k) (tags_left o.tags) (tags_left after) (choices_left wheels) (numbers_left o.turning) falls no_more)
