-- A leaf that is open, and its choices that are still to come.
use Rattle.std.specs.Prelude.{◌≡◌, ◌⊎◌, ℕ, true, false, List, [], length, Option, Some, None, All}
use Rattle.fvn_terms.specs.declared.plain.OpId.{OpId}
use Rattle.fvn_terms.specs.Substitution.{Substitution}
use Rattle.fvn_lindio.specs.declared.system.Solution.{Solution}
use Rattle.fvn_flat.specs.Solving.{problem_of}
use Rattle.fvn_combine_nodes.specs.States.{class_of}
use Rattle.fvn_combine_nodes.specs.Unifiers.{value_at}
use Rattle.fvn_combine_nodes.specs.declared.state.State.{State}
use Rattle.fvn_combine_leaves.specs.Leaves.{IsLeaf}
use Rattle.fvn_combine_leaves.specs.Readings.{IsReading}
use Rattle.fvn_combine_leaves.specs.declared.reading.Reading.{Reading}
use Rattle.fvn_acunify_product.specs.Tags.{PendingTags}
use Rattle.fvn_acunify_product.specs.Wheels.{PendingChoices}
use Rattle.fvn_combine_choices.specs.Choosing.{Choice}
use Rattle.fvn_combine_drawing.specs.CombineAdmissibleListed.{tag_in, systems_of, choice_of}
use Rattle.fvn_combine_drawing.specs.CombineCompleteCoveringChoices.{IsCovering}
use Rattle.fvn_combine_drawing.specs.CombineCompleteObeying.{TagsFollow}
use Rattle.fvn_combine_drawing.specs.CombineBoundsNarrow.{KeepsBounds}
use Rattle.fvn_combine_leaves.specs.Bases.{AreBases, HaveAlive}
use Rattle.fvn_combine_drawing.specs.CombineCandidatesSharing.{AreSharedClasses}
use Rattle.fvn_combine_drawing.specs.CombineCandidatesTags.{tag_counts, AreTags}
use Rattle.fvn_combine_drawing.specs.CombineCandidatesTurning.{AreWheels}
use Rattle.fvn_combine_loose.specs.Loose.{IsLooseClass}
use Rattle.fvn_combine_loose.specs.Laws.{AreVariables}
use Rattle.fvn_combine_inferring.specs.Inferred.{TellLabels}
use Rattle.fvn_combine_inferring.specs.Sorted.{GoWithSorts}
use Rattle.fvn_combine_drawing.specs.CombineTriangularReady.{IsReady}
use Rattle.fvn_combine.specs.Tasks.{Combining}
use Rattle.fvn_combine_drawing.specs.CombineCandidatesDeclared.sharing.SharedClass.{SharedClass}
use Rattle.fvn_combine.specs.declared.opened.Turning.{Turning}
use Rattle.fvn_combine.specs.declared.opened.Opened.{Opened}

module _ (k : Combining) (s : State) where
  module _ (r : Reading) (bases : List (List Solution)) where
    -- tags of the shared classes by some options, with the wheels under them
    pub record IsTurning (shared : List SharedClass) (v : Turning) : Type 0 where
      pub options : List ℕ
      pub are_tags : AreTags shared options v.tags
      pub are_wheels : AreWheels k.declarations k.table (class_of s) (tag_in v.tags) r.sums bases v.wheels.wheels

  module _ (r : Reading) (bases : List (List Solution)) (labels : List (Option OpId)) where
    -- the choice covers u, and keeps to what sorts ask where they are heeded; u's values go with the state, and its tags follow labels
    pub record IsSortedCovering (u : Substitution) (c : Choice) : Type 0 where
      pub covering : IsCovering k.declarations (problem_of k.given) k.table s (systems_of r bases) u c
      pub bounds : k.sorted ≡ true → KeepsBounds k.declarations k.table (class_of s) (systems_of r bases) c
      pub values : GoWithSorts k.declarations k.table s k.sorted (value_at k.declarations u k.table.nodes)
      pub follow : TagsFollow k.declarations k.table (class_of s) c.tag (value_at k.declarations u k.table.nodes) labels

    -- the choice of these tags and numbers does so
    abbrev pub IsCoveredBy : List (Option OpId) → List ℕ → Substitution → Type 0
    IsCoveredBy tags numbers u = IsSortedCovering u (choice_of r tags numbers)

    -- numbers that are still to come under the current tags cover u
    pub record IsCoveredUnder (v : Turning) (u : Substitution) : Type 0 where
      pub numbers : List ℕ
      pub pending : PendingChoices v.wheels numbers
      pub covered : IsCoveredBy v.tags numbers u

  -- numbers under the current tags that are still to come cover u, where there are current tags
  abbrev pub IsCoveredByCurrent : Reading → List (List Solution) → List (Option OpId) → Option Turning → Substitution → Type 0
  IsCoveredByCurrent r bases labels None u = ⊥
  IsCoveredByCurrent r bases labels (Some v) u = IsCoveredUnder r bases labels v u

  -- numbers under the current tags of an open leaf that are still to come cover u
  abbrev pub IsCoveredNow : Opened → Substitution → Type 0
  IsCoveredNow o u = IsCoveredByCurrent o.reading o.bases o.labels o.turning u

  -- numbers under tags whose options are still to come cover u
  pub record IsCoveredLater (o : Opened) (u : Substitution) : Type 0 where
    pub options : List ℕ
    pub pending : PendingTags o.tags options
    pub numbers : List ℕ
    pub as_many : length numbers ≡ length o.reading.sums
    pub covered : (tags : List (Option OpId)) → AreTags o.shared options tags → IsCoveredBy o.reading o.bases o.labels tags numbers u

  -- u has variables in the classes that are known to be loose, and a choice of the leaf that is still to come covers it
  abbrev pub IsCoveredToCome : Opened → Substitution → Type 0
  IsCoveredToCome o u = AreVariables k.declarations k.table o.loose u × (IsCoveredNow o u ⊎ IsCoveredLater o u)

  -- what is read of the leaf and noted of its classes, minimal solutions, of which none that is alive is left out, its shared classes and their
  -- tags, the wheels under current tags, and loose classes, where more general unifiers are enough
  pub record IsOpened (o : Opened) : Type 0 where
    pub ready : IsReady k.declarations k.given k.first k.table s
    pub leaf : IsLeaf k.declarations k.table o.labels s
    pub reading : IsReading k.declarations k.table (class_of s) o.reading
    pub labels : TellLabels k.declarations k.table s k.sorted o.labels
    pub as_many : length o.labels ≡ length k.table.nodes
    pub bases : AreBases o.reading.sums o.bases
    pub alive : HaveAlive k.declarations k.table s o.reading.sums o.bases
    pub shared : AreSharedClasses k.declarations k.table (class_of s) k.sorted o.shared
    pub counts : o.tags.counts ≡ tag_counts o.shared
    pub turning : (v : Turning) → o.turning ≡ Some v → IsTurning o.reading o.bases o.shared v
    pub loose : All (IsLooseClass k.declarations k.table s) o.loose
    pub none_loose : k.general ≡ false → o.loose ≡ []
