-- Single summands of an operator, as a reading has them, and solutions that may stand for a summand.
use Rattle.std.proofs.Common.{◌≡◌, ℕ, ◌<◌, List, length, get_or, sym, slice_get, inl, inr, arith, Contains, Option, Some}
use Rattle.fvn_terms.specs.declared.plain.OpId.{OpId}
use Rattle.fvn_terms.specs.declared.declarations.Declarations.{Declarations}
use Rattle.fvn_lindio.specs.declared.system.Solution.{Solution}
use Rattle.fvn_combine_nodes.specs.Table.{NodeTable, IsWellMade}
use Rattle.fvn_combine_nodes.specs.States.{IsClosed, class_of}
use Rattle.fvn_combine_nodes.specs.declared.state.State.{State}
use Rattle.fvn_combine_leaves.specs.Leaves.{IsOneSummand, IsLive, IsAlive}
use Rattle.fvn_combine_leaves.specs.Readings.{AreSums, IsReading}
use Rattle.fvn_combine_leaves.specs.Users.{IsMarked}
use Rattle.fvn_combine_leaves.specs.declared.reading.Sums.{Sums}
use Rattle.fvn_combine_leaves.specs.declared.reading.Reading.{Reading}
use Rattle.fvn_combine_leaves.proofs.ReadOfState.{marked_from, shared_from}
use Rattle.fvn_combine_questions.specs.inner.Touched.{IsNotedIn, IsOneSummandIn, IsSingleIn, IsRepeatedAt, IsTornAt, IsDead}
use Rattle.fvn_combine_questions.proofs.ColumnsOfLeaves.{place_of, HasOwn, sums_at, node_at, told_of}

-- what may stand for a summand may do so by heads alone
pub live_alive : (d : Declarations) (t : NodeTable) (heads : List (Option OpId)) (s : State) (f : OpId) (columns solution : List ℕ) → IsLive d t heads s f columns solution → IsAlive d t s f columns solution
live_alive d t heads s f columns solution live k l other a b = live.told k l other (inl a) (inl b)

module _ (d : Declarations) (t : NodeTable) (made : IsWellMade t) (s : State) (closed : IsClosed d t s) (r : Reading) (reading : IsReading d t (class_of s) r) (heads : List (Option OpId)) (e : Sums) (c : Contains r.sums e) where
  at_place : slice_get r.sums c.0 ≡ Some e
  at_place = place_of r.sums e c

  system_of : AreSums d t (class_of s) e
  system_of = sums_at d t made s closed r reading c.0 e at_place

  -- a class that is one summand by its head, or by what is noted, is one
  pub summand_of : (k : ℕ) → k < length t.nodes → IsMarked e k → IsOneSummandIn r e (IsNotedIn d heads) k → IsOneSummand d t heads (class_of s) e.operator k
  summand_of k node marked (inl g) = inl (record {
    used = marked_from d t made s closed r reading e c k marked;
    head = g.0;
    other = g.2;
    solid = (reading.heads.exact k g.0 node).0 g.1;
  })
  summand_of k node marked (inr (own, user)) = inr (record {
    shared = shared_from d t made s closed r reading k node own;
    used = marked_from d t made s closed r reading e c k marked;
    operator = user.entry.operator;
    other = user.other;
    uses = marked_from d t made s closed r reading user.entry user.listed k user.uses;
    noted = record { noted = user.sum.0; some = user.sum.1 };
  })

  -- the class of a column that has a single summand is one
  single_of : (v : Solution) (i : ℕ) → i < length e.columns → IsSingleIn r e (IsNotedIn d heads) v i → IsOneSummand d t heads (class_of s) e.operator (get_or e.columns i 0)
  single_of v i within h = summand_of (get_or e.columns i 0) (node_at d t made s closed r reading c.0 e at_place i within) h.used h.one

  -- what may stand for a summand is not dead
  module _ {basis : List Solution} {columns : List ℕ} {solution : List ℕ} (own : HasOwn basis e columns solution) (live : IsLive d t heads s e.operator columns solution) where
    not_repeated : (i : ℕ) → i < length e.columns → IsRepeatedAt r e s (IsNotedIn d heads) own.own i → ⊥
    not_repeated i within x =
        let a = own.part i within in
        let several = x.several in
        let once = live.once (get_or e.columns i 0) (single_of own.own i within x.single) in
        omega (arith, a, several, once)

    not_torn : (i : ℕ) → i < length e.columns → IsTornAt r e s (IsNotedIn d heads) own.own i → ⊥
    not_torn i within x =
        let j = x.other in
        let before = x.before in
        let j_within : j < length e.columns = omega (arith, before, within) in
        let left = x.left.some in
        let right = x.right.some in
        let a = own.part i within in
        let b = own.part j j_within in
        live.told (get_or e.columns i 0) (get_or e.columns j 0)
        (λ same. system_of.is_system.distinct j i 0 before within (sym same))
        (single_of own.own i within x.left) (single_of own.own j j_within x.right)
        (omega (arith, a, left)) (omega (arith, b, right))
        (told_of d t made s closed r reading c.0 e at_place i j within j_within x.told)

    pub not_dead : IsDead r e s (IsNotedIn d heads) own.own → ⊥
    not_dead x = elim x.dead [
      | inl repeated ↦ not_repeated x.column x.within repeated
      | inr torn ↦ not_torn x.column x.within torn
    ]
