-- Numbers under the current tags: what is listed of them, and what is to come when they are passed.
use Rattle.std.proofs.Common.{◌≡◌, ℕ, ◌≤◌, List, [], length, sym, ◌∙◌, subst, inl, inr, arith, All, Option, Some}
use Rattle.std.specs.Prelude.{◌⊎◌, ◌↔◌}
use Rattle.std.specs.List.{AllZip}
use Rattle.std.proofs.lemmas.List.{get_or_default}
use Rattle.std.proofs.lemmas.Option.{slice_get_cases}
use Rattle.std.proofs.lemmas.Slice.Zip.{AllZip-long}
use Rattle.fvn_base.proofs.Options.{Some-injective}
use Rattle.fvn_acunify.specs.declared.limits.TheConstants.{LISTED_SOLUTIONS}
use Rattle.fvn_terms.specs.declared.plain.OpId.{OpId}
use Rattle.fvn_terms.specs.Substitution.{Substitution}
use Rattle.fvn_lindio.specs.declared.system.Solution.{Solution}
use Rattle.fvn_combine_nodes.specs.States.{class_of}
use Rattle.fvn_combine_nodes.specs.declared.state.State.{State}
use Rattle.fvn_combine_systems.specs.Laws.{TablesAreSmall}
use Rattle.fvn_combine_leaves.specs.Readings.{IsReading}
use Rattle.fvn_combine_leaves.specs.declared.reading.Reading.{Reading}
use Rattle.fvn_acunify_product.specs.Wheels.{Odometer, Wheel, IsChoice, PendingChoices}
use Rattle.fvn_combine_drawing.specs.CombineAdmissibleListed.{tag_in}
use Rattle.fvn_combine_leaves.specs.Bases.{AreBases}
use Rattle.fvn_combine_drawing.specs.CombineCandidatesTurning.{AreWheels}
use Rattle.fvn_combine_drawing.specs.CombineCandidatesDeclared.sharing.SharedClass.{SharedClass}
use Rattle.fvn_combine_drawing.specs.CombineTriangularReady.{AreListed}
use Rattle.fvn_combine.specs.Tasks.{Combining, IsCombining}
use Rattle.fvn_combine.specs.Leaves.{IsTurning, IsCoveredBy, IsCoveredUnder}
use Rattle.fvn_combine.specs.declared.opened.Turning.{Turning}
use Rattle.fvn_combine.proofs.Room.{room}

module _ (k : Combining) (s : State) (r : Reading) (bases : List (List Solution)) where
  -- no list of minimal solutions is long
  few_each : AreBases r.sums bases → All (λ basis. length basis ≤ LISTED_SOLUTIONS) bases
  few_each are i d l = elim (slice_get_cases r.sums i).1 [
    | inl e ↦ subst (λ b. length b ≤ LISTED_SOLUTIONS) (get_or_default bases i [] d l) (are.each i e.0 e.2).few
    | inr n ↦ let m = are.as_many in let o = n.0 in absurd (omega (arith, l, m, o))
  ]

  -- numbers on the wheels are listed
  pub listed : IsCombining k → TablesAreSmall → IsReading k.declarations k.table (class_of s) r → AreBases r.sums bases → (tag : ℕ → Option OpId) (wheels : List Wheel) → AreWheels k.declarations k.table (class_of s) tag r.sums bases wheels → (numbers : List ℕ) → AllZip IsChoice wheels numbers → AreListed k.table r bases numbers
  listed is small reading are tag wheels asked numbers valid = record {
    basis_each = are.as_many;
    number_each = AllZip-long IsChoice wheels numbers valid ∙ asked.as_many;
    few = few_each are;
    room = room k is small s r reading;
  }

  module _ (tags : List (Option OpId)) (before after : Odometer) (taken : (n : List ℕ) → PendingChoices before n ↔ ((before.current ≡ Some n) ⊎ PendingChoices after n)) where
    abbrev under_before : Turning
    under_before = record { tags = tags; wheels = before }

    abbrev under_after : Turning
    under_after = record { tags = tags; wheels = after }

    pub fewer_under : (labels : List (Option OpId)) (u : Substitution) → IsCoveredUnder k s r bases labels under_after u → IsCoveredUnder k s r bases labels under_before u
    fewer_under labels u h = record { numbers = h.numbers; pending = (taken h.numbers).1 (inr h.pending); covered = h.covered }

    -- what was to come is covered by the numbers that are passed, or still to come
    pub passed_or_to_come : (numbers : List ℕ) → before.current ≡ Some numbers → (labels : List (Option OpId)) (u : Substitution) → IsCoveredUnder k s r bases labels under_before u → IsCoveredBy k s r bases labels tags numbers u ⊎ IsCoveredUnder k s r bases labels under_after u
    passed_or_to_come numbers now labels u h = elim ((taken h.numbers).0 h.pending) [
      | inl e ↦ inl (subst (λ n. IsCoveredBy k s r bases labels tags n u) (Some-injective (sym e ∙ now)) h.covered)
      | inr p ↦ inr (record { numbers = h.numbers; pending = p; covered = h.covered })
    ]

    pub still_turning : (shared : List SharedClass) → after.wheels ≡ before.wheels → IsTurning k s r bases shared under_before → IsTurning k s r bases shared under_after
    still_turning shared e t = record {
      options = t.options;
      are_tags = t.are_tags;
      are_wheels = subst (AreWheels k.declarations k.table (class_of s) (tag_in tags) r.sums bases) (sym e) t.are_wheels;
    }
