-- What a reading tells of a state, and leaves.
use Rattle.std.proofs.Common.{◌≡◌, ◌⊎◌, ℕ, ◌<◌, List, [], ◌∷◌, length, get_or, sym, ap, ◌∙◌, subst, subst₂, slice_get, inl, inr, arith, All, Contains, Option, Some, None}
use Rattle.std.proofs.lemmas.List.Elements.{All-contains}
use Rattle.fvn_base.proofs.Membership.{contains_map}
use Rattle.fvn_terms.specs.declared.plain.OpId.{OpId}
use Rattle.fvn_terms.specs.declared.declarations.Declarations.{Declarations}
use Rattle.fvn_lindio.specs.declared.system.Solution.{Solution}
use Rattle.fvn_flat.specs.SolvedLists.{component}
use Rattle.fvn_combine_nodes.specs.Table.{NodeTable, IsWellMade}
use Rattle.fvn_combine_nodes.specs.Classes.{IsNodePartition}
use Rattle.fvn_combine_nodes.specs.States.{IsClosed, IsOpen, class_of}
use Rattle.fvn_combine_questions.specs.Swaps.{IsSwap}
use Rattle.fvn_combine_nodes.specs.declared.state.State.{State}
use Rattle.fvn_combine_nodes.proofs.Nodes.{arguments_within}
use Rattle.fvn_combine_nodes.proofs.Lists.{all_from}
use Rattle.fvn_combine_leaves.specs.Leaves.{Uses, MayBeConstant, HaveTwoHeads, AreTouched, AreTold, IsLive, IsNotedSum, IsNearLeaf, IsFirstQuestion, IsQuestion, IsFullQuestion}
use Rattle.fvn_combine_leaves.specs.Bases.{AreBases, HaveAlive}
use Rattle.fvn_combine_leaves.specs.Readings.{AreSums, IsReading}
use Rattle.fvn_combine_questions.specs.inner.Past.{IsOpenPairOr, IsPastUser, ArePastIdentities, ArePastClasses, ArePastPairs}
use Rattle.fvn_combine_leaves.specs.Users.{IsWhole, HasTwinIn, IsSharedIn, CanBeConstant, HaveHeads}
use Rattle.fvn_combine_questions.specs.inner.Touched.{AreAllWide, IsNotedIn, IsPastSolution, AreAllPast}
use Rattle.fvn_combine_leaves.specs.declared.reading.Sums.{Sums}
use Rattle.fvn_combine_leaves.specs.declared.reading.Reading.{Reading}
use Rattle.fvn_combine_leaves.proofs.ReadOfState.{column_within, reading_whole as whole_of_nodes, marked_to, entry_of, twin_in, shared_in}
use Rattle.fvn_combine_questions.proofs.SummandsOfLeaves.{live_alive, not_dead}
use Rattle.fvn_combine_questions.proofs.ColumnsOfLeaves.{contained_at, place_of, HasOwn, can_be, two_heads, told_of, column_of, own_of}

module _ (d : Declarations) (t : NodeTable) (made : IsWellMade t) (s : State) (closed : IsClosed d t s) where
  -- two nodes that a swap asks of
  pub swap_question : (p : ℕ × ℕ) → IsSwap d t s p → IsFirstQuestion d t s (Some p)
  swap_question p h =
      let left = arguments_within t.nodes made.ordered h.left h.operator (p.0 ∷ h.left_second ∷ []) h.left_is in
      let right = arguments_within t.nodes made.ordered h.right h.operator (p.1 ∷ h.right_second ∷ []) h.right_is in
      (left 0 0 (omega arith), right 0 0 (omega arith), h.undecided)

  pub pair_question : (P : Type 0) (p : ℕ × ℕ) → IsOpenPairOr s P (Some p) → IsFirstQuestion d t s (Some p)
  pair_question P p h = let w = closed.whole in let a = h.0 in let b = h.1 in (omega (arith, a, w), omega (arith, b, w), h.2)

  module _ (r : Reading) (reading : IsReading d t (class_of s) r) where
    pub reading_whole : IsWhole (length s.names) r
    reading_whole = subst (λ n. IsWhole n r) (sym closed.whole) (whole_of_nodes d t made s closed r reading)

    module _ (pairs : All (λ e. ArePastPairs s r e e.columns) r.sums) where
      -- classes that may be constants are told apart, whatever solutions there are
      apart_at : (e : Sums) → Contains r.sums e → (k l : ℕ) → MayBeConstant d t (class_of s) e.operator k → MayBeConstant d t (class_of s) e.operator l → HaveTwoHeads d t (class_of s) k l ⊎ (IsOpen s k l → ⊥)
      apart_at e c k l mk ml =
          let are = All-contains (AreSums d t (class_of s)) r.sums e reading.sums c in
          let at_k = All-contains (λ k. CanBeConstant r e k → ArePastClasses s r e k e.columns) e.columns k (All-contains (λ e. ArePastPairs s r e e.columns) r.sums e pairs c) ((are.is_system.exact k).1 mk.used.column) (can_be d t made s closed r reading e c k mk) in
          let at_l = All-contains (λ l. CanBeConstant r e l → HaveHeads r k l ⊎ (IsOpen s k l → ⊥)) e.columns l at_k ((are.is_system.exact l).1 ml.used.column) (can_be d t made s closed r reading e c l ml) in
          elim at_l [
            | inl heads ↦ inl (two_heads d t made s closed r reading k l (column_within d t made s closed e.operator k mk.used.column) (column_within d t made s closed e.operator l ml.used.column) heads)
            | inr closed_pair ↦ inr closed_pair
          ]

    -- nearly a leaf
    near_is : IsNodePartition d t (class_of s) → ((k : ℕ) → k < length s.names → IsSharedIn r k → ArePastIdentities d t s r.sums k) → IsNearLeaf d t s
    near_is partition past = record {
      closed = closed;
      partition = partition;
      identities = λ f k shared uses twin p c same.
          let a = entry_of d t made s closed r reading f k uses in
          let within = column_within d t made s closed f k uses.column in
          let below : k < length s.names = let w = closed.whole in omega (arith, within, w) in
          let marked = marked_to d t made s closed r reading a.entry a.listed k (subst (λ o. Uses d t (class_of s) o k) (sym a.operator) uses) in
          let own_twin = subst (λ o. HasTwinIn d r.sums o k) (sym a.operator) (twin_in d t made s closed r reading f k twin) in
          let at = All-contains (IsPastUser d t s r.sums k) r.sums a.entry (past k below (shared_in d t made s closed r reading k within shared)) a.listed marked own_twin in
          All-contains (λ p. p.0 ≡ a.entry.operator → IsOpen s k p.1 → ⊥) t.units p at c (same ∙ sym a.operator);
    }

    -- the answer where commutative nodes are not open
    pub first_asked : IsNodePartition d t (class_of s) → (o : Option (ℕ × ℕ)) → IsOpenPairOr s ((k : ℕ) → k < length s.names → IsSharedIn r k → ArePastIdentities d t s r.sums k) o → IsFirstQuestion d t s o
    first_asked partition None past = near_is partition past
    first_asked partition (Some p) h = pair_question ((k : ℕ) → k < length s.names → IsSharedIn r k → ArePastIdentities d t s r.sums k) p h

    -- the answer where all pairs are asked
    pub asked_on_all : IsNearLeaf d t s → (o : Option (ℕ × ℕ)) → IsOpenPairOr s (All (λ e. ArePastPairs s r e e.columns) r.sums) o → IsFullQuestion d t s o
    asked_on_all near None pairs = record { near = near; constants = told }
      where
        told : (f : OpId) (k l : ℕ) → MayBeConstant d t (class_of s) f k → MayBeConstant d t (class_of s) f l → AreTold d t s k l
        told f k l mk ml =
            let a = entry_of d t made s closed r reading f k mk.used in
            apart_at pairs a.entry a.listed k l (subst (λ o. MayBeConstant d t (class_of s) o k) (sym a.operator) mk) (subst (λ o. MayBeConstant d t (class_of s) o l) (sym a.operator) ml)
    asked_on_all near (Some p) h = pair_question (All (λ e. ArePastPairs s r e e.columns) r.sums) p h

    module _ (heads : List (Option OpId)) (bases : List (List Solution)) (are : AreBases r.sums bases) where
      -- the solutions of each operator have one part a column
      pub all_wide : AreAllWide r.sums bases
      all_wide i e at =
          let basis = are.each i e at in
          let sums = All-contains (AreSums d t (class_of s)) r.sums e reading.sums (contained_at r.sums i e at) in
          all_from (λ v. length v.parts ≡ length e.columns) (get_or bases i []) (λ v c.
          let minimal = basis.minimal v.parts (contains_map (λ (w : Solution). w.parts) (get_or bases i []) v c) in
          minimal.solves.sized ∙ sums.is_system.wide)

      module _ (have : HaveAlive d t s r.sums bases) (past : AreAllPast r s (IsNotedIn d heads) bases) where
        -- classes that may be constants of the operator at this place are told apart, where a solution of its system has both
        module _ (e : Sums) (c : Contains r.sums e) where
          at_place : slice_get r.sums c.0 ≡ Some e
          at_place = place_of r.sums e c

          module _ (k l : ℕ) (mk : MayBeConstant d t (class_of s) e.operator k) (ml : MayBeConstant d t (class_of s) e.operator l) (nk : IsNotedSum d t heads e.operator k → ⊥) (nl : IsNotedSum d t heads e.operator l → ⊥) (h : AreTouched d t (class_of s) e.operator k l) (live : IsLive d t heads s e.operator h.columns h.solution) where
            own_solution : HasOwn (get_or bases c.0 []) e h.columns h.solution
            own_solution = own_of d t made s closed r reading c.0 e at_place bases have h.columns h.system h.is h.solution h.minimal (live_alive d t heads s e.operator h.columns h.solution live)

            abbrev own : Solution
            own = own_solution.own

            -- a class of which no sum is noted is not found as one
            not_noted : (m : ℕ) → (IsNotedSum d t heads e.operator m → ⊥) → (i : ℕ) → get_or e.columns i 0 ≡ m → IsNotedIn d heads e.operator (get_or e.columns i 0) → ⊥
            not_noted m n i at h = let own = subst (IsNotedIn d heads e.operator) at h in n (record { noted = own.0; some = own.1 })

            apart_where_touched : AreTold d t s k l
            apart_where_touched =
                let i = column_of d t made s closed r reading c.0 e at_place k mk in
                let j = column_of d t made s closed r reading c.0 e at_place l ml in
                let a = own_solution.part i.0 i.1 in
                let b = own_solution.part j.0 j.1 in
                let at_i = ap (component h.columns h.solution) i.2 in
                let at_j = ap (component h.columns h.solution) j.2 in
                let p = h.left in
                let q = h.right in
                elim (All-contains (IsPastSolution r e s (IsNotedIn d heads)) (get_or bases c.0 []) own (past c.0 e at_place) own_solution.listed) [
                  | inl x ↦ absurd (not_dead d t made s closed r reading heads e c own_solution live x)
                  | inr at ↦ subst₂ (AreTold d t s) i.2 j.2 (told_of d t made s closed r reading c.0 e at_place i.0 j.0 i.1 j.1 (at i.0 i.1 (omega (arith, a, at_i, p), subst (CanBeConstant r e) (sym i.2) (can_be d t made s closed r reading e c k mk), not_noted k nk i.0 i.2) j.0 j.1 (omega (arith, b, at_j, q), subst (CanBeConstant r e) (sym j.2) (can_be d t made s closed r reading e c l ml), not_noted l nl j.0 j.2)))
                ]

      -- the answer where pairs are asked that a solution has both of
      pub asked_on_touched : HaveAlive d t s r.sums bases → IsNearLeaf d t s → (o : Option (ℕ × ℕ)) → IsOpenPairOr s (AreAllPast r s (IsNotedIn d heads) bases) o → IsQuestion d t heads s o
      asked_on_touched have near None past = record { closed = near.closed; partition = near.partition; identities = near.identities; constants = touched }
        where
          touched : (f : OpId) (k l : ℕ) → MayBeConstant d t (class_of s) f k → MayBeConstant d t (class_of s) f l → (IsNotedSum d t heads f k → ⊥) → (IsNotedSum d t heads f l → ⊥) → (both : AreTouched d t (class_of s) f k l) → IsLive d t heads s f both.columns both.solution → AreTold d t s k l
          touched f k l mk ml nk nl both live =
              let a = entry_of d t made s closed r reading f k mk.used in
              subst (λ o. (mk : MayBeConstant d t (class_of s) o k) (ml : MayBeConstant d t (class_of s) o l) (nk : IsNotedSum d t heads o k → ⊥) (nl : IsNotedSum d t heads o l → ⊥) (both : AreTouched d t (class_of s) o k l) → IsLive d t heads s o both.columns both.solution → AreTold d t s k l) a.operator
              (apart_where_touched have past a.entry a.listed k l) mk ml nk nl both live
      asked_on_touched have near (Some p) h = pair_question (AreAllPast r s (IsNotedIn d heads) bases) p h
