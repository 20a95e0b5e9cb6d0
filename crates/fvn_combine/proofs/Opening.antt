-- A leaf that is opened: all that its state admits is covered by a choice that is to come.
use Rattle.std.proofs.Common.{◌≡◌, ℕ, ◌<◌, ◌≤◌, List, length, sym, ◌∙◌, subst, inl, inr, arith, All, Option, None}
use Rattle.std.specs.List.{AllZip}
use Rattle.std.proofs.lemmas.Bool.{cases_Bool}
use Rattle.fvn_terms.specs.declared.plain.OpId.{OpId}
use Rattle.fvn_terms.specs.Substitution.{Substitution}
use Rattle.fvn_flat.specs.Solving.{problem_of}
use Rattle.fvn_lindio.specs.declared.system.Solution.{Solution}
use Rattle.fvn_combine_nodes.specs.States.{Admits, class_of}
use Rattle.fvn_combine_nodes.specs.Unifiers.{value_at, kernel}
use Rattle.fvn_combine_nodes.specs.declared.state.State.{State}
use Rattle.fvn_combine_systems.specs.Laws.{TablesAreSmall}
use Rattle.fvn_combine_leaves.specs.Leaves.{IsLeaf}
use Rattle.fvn_combine_leaves.specs.Readings.{IsReading}
use Rattle.fvn_combine_leaves.specs.declared.reading.Reading.{Reading}
use Rattle.fvn_acunify_product.specs.Tags.{Tagging, IsOption, PendingTags}
use Rattle.fvn_combine_choices.specs.Choosing.{Choice}
use Rattle.fvn_combine_choices.specs.Plans.{AreOfOneKind}
use Rattle.fvn_combine_drawing.specs.CombineAdmissibleListed.{systems_of}
use Rattle.fvn_combine_drawing.specs.CombineCompleteLaws.{ReadingsTell}
use Rattle.fvn_combine_drawing.specs.CombineBoundsLaws.{SortedLeavesCover}
use Rattle.fvn_combine_drawing.specs.CombineCandidatesLaws.{BasesMakeSystems, AliveBasesMakeAlive, CoveringChoicesAreListed}
use Rattle.fvn_combine_drawing.specs.CombineCandidatesSharing.{AreSharedClasses}
use Rattle.fvn_combine_drawing.specs.CombineCandidatesTags.{tag_counts}
use Rattle.fvn_combine_drawing.specs.CombineCandidatesDeclared.sharing.SharedClass.{SharedClass}
use Rattle.fvn_combine_inferring.specs.Laws.{SortedUnifiersGoWith}
use Rattle.fvn_combine_loose.specs.Laws.{AreVariables, LooseClassesAreVariables, MoreGeneralIsAPreorder}
use Rattle.fvn_combine_drawing.specs.CombineTriangularReady.{IsReady}
use Rattle.fvn_combine.specs.Tasks.{Combining, IsCombining, HoldsFor}
use Rattle.fvn_combine.specs.Leaves.{IsSortedCovering, IsOpened, IsCoveredToCome}
use Rattle.fvn_combine.specs.declared.opened.Opened.{Opened}
use Rattle.fvn_combine.specs.inner.Found.{IsAdmittedBy}
use Rattle.fvn_combine.proofs.Room.{room}
use Rattle.fvn_combine.proofs.Inferring.{values_admitted}
use Rattle.fvn_combine.proofs.Standing.{stands_for_itself, loosened_stands}

module _ (k : Combining) (is : IsCombining k) (s : State) where
  -- operators that use a class are few
  pub few_users : TablesAreSmall → (r : Reading) → IsReading k.declarations k.table (class_of s) r → (shared : List SharedClass) → All (λ c. length c.users ≤ length r.sums) shared → All (λ c. length c.users < 4294967295) shared
  few_users small r reading shared few i d l =
      let a = few i d l in
      let b = room k is small s r reading in
      omega (arith, a, b)

  -- what is asked of a state that is a leaf of one kind each
  pub is_ready : (heads : List (Option OpId)) → IsLeaf k.declarations k.table heads s → AreOfOneKind k.declarations k.table (class_of s) → IsReady k.declarations k.given k.first k.table s
  is_ready heads leaf kinds = record {
    is_given = is.is_given;
    table = is.table_of;
    closed = leaf.closed;
    partition = leaf.partition;
    kinds = kinds;
  }

  module _ (r : Reading) (labels : List (Option OpId)) (bases : List (List Solution)) (shared : List SharedClass) (tags : Tagging) (loose : List ℕ) (ready : IsReady k.declarations k.given k.first k.table s) (reading : IsReading k.declarations k.table (class_of s) r) (are_shared : AreSharedClasses k.declarations k.table (class_of s) k.sorted shared) where
    abbrev opened_leaf : Opened
    opened_leaf = record { reading = r; labels = labels; bases = bases; shared = shared; tags = tags; loose = loose; turning = None }

    pub all_to_come : CoveringChoicesAreListed → tags.counts ≡ tag_counts shared → ((options : List ℕ) → AllZip IsOption tags.counts options → PendingTags tags options) → (u : Substitution) (c : Choice) → AreVariables k.declarations k.table loose u → IsSortedCovering k s r bases labels u c → IsCoveredToCome k s opened_leaf u
    all_to_come law counts pending u c variables h =
        let l = law k.declarations (problem_of k.given) k.table is.well_made s ready.closed r reading k.sorted shared are_shared (systems_of r bases) u c h.covering h.bounds in (
          variables,
          inr (record {
            options = l.0;
            pending = pending l.0 (subst (λ n. AllZip IsOption n l.0) (sym counts) l.2);
            numbers = l.1;
            as_many = l.3;
            covered = λ others are.
                let listed = l.4 others are in
                record {
                  covering = listed.0;
                  bounds = listed.1;
                  values = h.values;
                  follow = λ x f shared uses.
                      let follows = h.follow x f shared uses in
                      record { noted = λ n. listed.2 x ∙ follows.noted n; meant = λ e. follows.meant (sym (listed.2 x) ∙ e) };
                };
          }),
        )

  -- each unifier that is asked for, that the state admits and that has variables in the loose classes is covered by a choice that is to come
  pub covers_admitted : SortedUnifiersGoWith → SortedLeavesCover → ReadingsTell → BasesMakeSystems → AliveBasesMakeAlive → (o : Opened) → IsOpened k s o → ((u : Substitution) (c : Choice) → AreVariables k.declarations k.table o.loose u → IsSortedCovering k s o.reading o.bases o.labels u c → IsCoveredToCome k s o u) → (u : Substitution) → IsAdmittedBy k s u → AreVariables k.declarations k.table o.loose u → IsCoveredToCome k s o u
  covers_admitted go_with cover tell make make_alive o opened all u h variables =
      let told = tell k.declarations k.table s opened.leaf.closed o.reading opened.reading in
      let systems = make k.declarations k.table (class_of s) o.reading opened.reading o.bases opened.bases in
      let alive = make_alive k.declarations k.table s o.reading opened.reading o.bases opened.bases opened.alive in
      let values = values_admitted k is go_with s opened.leaf.closed u h in
      let obeyed = opened.labels (value_at k.declarations u k.table.nodes) values in
      let c = cover k.declarations is.good (problem_of k.given) is.is_given.kinds k.table is.well_made is.table_of s o.labels opened.leaf told (systems_of o.reading o.bases) systems alive u h.0.unifies h.1 obeyed in
      all u c.0 variables
      record {
        covering = c.1;
        bounds = λ e. c.2 (h.0.keeps_sorts e);
        values = values;
        follow = c.3;
      }

  -- so it is of one that stands for each, where all of these are covered
  pub covers_one : MoreGeneralIsAPreorder → LooseClassesAreVariables → (o : Opened) → IsOpened k s o
      → ((u : Substitution) → IsAdmittedBy k s u → AreVariables k.declarations k.table o.loose u → IsCoveredToCome k s o u)
      → (u : Substitution) → IsAdmittedBy k s u → HoldsFor k (λ v. Admits s (kernel k.declarations v k.table.nodes) × IsCoveredToCome k s o v) u
  covers_one preorder law o opened all u h = elim (cases_Bool k.general) [
    | inl enough ↦
        let p = law k.declarations is.good (problem_of k.given) is.is_given.kinds k.table is.well_made is.table_of s opened.leaf.closed o.loose opened.loose u h.0.unifies h.1 in
        let stands = loosened_stands k is enough s u p.0 h.0 p.1 in
        (p.0, stands, (p.1.admits, all p.0 (stands.wanted, p.1.admits) p.2))
    | inr every ↦
        (u, stands_for_itself k is preorder u h.0, (h.1, all u h (subst (λ l. AreVariables k.declarations k.table l u) (sym (opened.none_loose every)) (λ i d l. absurd (omega (arith, l))))))
  ]
