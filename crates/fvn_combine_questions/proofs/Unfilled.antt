-- Where each solution that has a class is dead, which has a summand for sure, the class is unfilled.
use Rattle.std.proofs.Common.{◌≡◌, ◌⊎◌, ℕ, ◌<◌, List, [], get_or, slice_get, inl, inr, arith, Contains, Option, Some}
use Rattle.std.proofs.lemmas.Bool.{cases_lt}
use Rattle.std.proofs.lemmas.List.Elements.{All-contains}
use Rattle.fvn_terms.specs.declared.plain.OpId.{OpId}
use Rattle.fvn_terms.specs.declared.declarations.Declarations.{Declarations}
use Rattle.fvn_terms.specs.Signature.{axioms}
use Rattle.fvn_lindio.specs.declared.system.Solution.{Solution}
use Rattle.fvn_lindio.specs.Systems.{IsMinimal, rows_of}
use Rattle.fvn_flat.specs.Partitions.{HasNoIdentity}
use Rattle.fvn_flat.specs.SolvedLists.{component}
use Rattle.fvn_combine_nodes.specs.Table.{NodeTable, IsWellMade}
use Rattle.fvn_combine_nodes.specs.States.{IsClosed, class_of}
use Rattle.fvn_combine_nodes.specs.declared.state.State.{State}
use Rattle.fvn_combine_leaves.specs.Leaves.{IsOneSummand, IsLive, IsUnfilled}
use Rattle.fvn_combine_leaves.specs.Bases.{HaveAlive}
use Rattle.fvn_combine_leaves.specs.Readings.{AreSums, IsReading}
use Rattle.fvn_combine_leaves.specs.declared.reading.Sums.{Sums}
use Rattle.fvn_combine_leaves.specs.declared.reading.Reading.{Reading}
use Rattle.fvn_combine_leaves.proofs.ReadOfState.{sum_operator, marked_from}
use Rattle.fvn_combine_questions.specs.Unfilled.{HasUnfilled}
use Rattle.fvn_combine_questions.specs.inner.Touched.{IsNotedIn, IsDead}
use Rattle.fvn_combine_questions.specs.inner.Filling.{HasSummandIn, IsUnfilledIn, HasUnfilledIn}
use Rattle.fvn_combine_questions.proofs.ColumnsOfLeaves.{contained_at, HasOwn, sums_at, node_at, own_of}
use Rattle.fvn_combine_questions.proofs.SummandsOfLeaves.{live_alive, summand_of, not_dead}

module _ (d : Declarations) (t : NodeTable) (made : IsWellMade t) (s : State) (closed : IsClosed d t s) (r : Reading) (reading : IsReading d t (class_of s) r) (heads : List (Option OpId)) (bases : List (List Solution)) (have : HaveAlive d t s r.sums bases) where
  -- the operator at this place
  module _ (i : ℕ) (e : Sums) (at : slice_get r.sums i ≡ Some e) (h : IsUnfilledIn d r e s (IsNotedIn d heads) (get_or bases i [])) where
    abbrev node : ℕ
    node = get_or e.columns h.column 0

    listed : Contains r.sums e
    listed = contained_at r.sums i e at

    system_of : AreSums d t (class_of s) e
    system_of = sums_at d t made s closed r reading i e at

    summand_from : HasSummandIn d r e (IsNotedIn d heads) node → IsOneSummand d t heads (class_of s) e.operator node ⊎ HasNoIdentity (axioms d e.operator)
    summand_from (inl one) = inl (summand_of d t made s closed r reading heads e listed node (node_at d t made s closed r reading i e at h.column h.within) h.needed.used one)
    summand_from (inr none) = inr none

    -- a minimal solution that has the class, and may stand for a summand, is among those that are found
    lacks : (v : List ℕ) → IsMinimal e.system.columns (rows_of e.system) v → IsLive d t heads s e.operator e.columns v → component e.columns v node ≡ 0
    lacks v minimal live = elim (cases_lt 0 (component e.columns v node)) [
      | inl some ↦
          let own : HasOwn (get_or bases i []) e e.columns v = own_of d t made s closed r reading i e at bases have e.columns e.system system_of.is_system v minimal (live_alive d t heads s e.operator e.columns v live) in
          let a = own.part h.column h.within in
          let dead = All-contains (λ w. 0 < get_or w.parts h.column 0 → IsDead r e s (IsNotedIn d heads) w) (get_or bases i []) own.own h.dead own.listed (omega (arith, a, some)) in
          absurd (not_dead d t made s closed r reading heads e listed own live dead)
      | inr none ↦ omega (arith, none)
    ]

    unfilled_at : IsUnfilled d t heads s e.operator node
    unfilled_at = record {
      operator = sum_operator d t made s closed r reading e listed;
      used = marked_from d t made s closed r reading e listed node h.needed.used;
      summand = summand_from h.needed.summand;
      columns = e.columns;
      system = e.system;
      is = system_of.is_system;
      none = lacks;
    }

  pub unfilled_from : HasUnfilledIn d r s (IsNotedIn d heads) bases → HasUnfilled d t heads s
  unfilled_from h = record { operator = h.entry.operator; class = get_or h.entry.columns h.unfilled.column 0; unfilled = unfilled_at h.place h.entry h.at h.unfilled }
