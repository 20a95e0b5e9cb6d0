-- Classes, columns and minimal solutions of a state, as its reading has them.
use Rattle.std.proofs.Common.{◌≡◌, ◌≢◌, ◌⊎◌, ℕ, ◌<◌, List, [], length, get_or, sym, ap, ◌∙◌, subst, slice_get, inl, inr, Contains, Some}
use Rattle.std.proofs.lemmas.List.{get_or_default}
use Rattle.std.proofs.lemmas.List.Elements.{All-contains, Contains-get_or}
use Rattle.std.proofs.lemmas.Option.{slice_get_within, slice_get-get_or}
use Rattle.fvn_base.proofs.Options.{Some-injective}
use Rattle.fvn_base.proofs.Membership.{map_contains}
use Rattle.fvn_terms.specs.declared.plain.OpId.{OpId}
use Rattle.fvn_terms.specs.declared.declarations.Declarations.{Declarations}
use Rattle.fvn_lindio.specs.declared.system.System.{System}
use Rattle.fvn_lindio.specs.declared.system.Solution.{Solution}
use Rattle.fvn_lindio.specs.Systems.{IsMinimal, rows_of}
use Rattle.fvn_flat.specs.SolvedLists.{component}
use Rattle.fvn_combine_nodes.specs.Table.{NodeTable, IsWellMade}
use Rattle.fvn_combine_nodes.specs.States.{IsClosed, class_of}
use Rattle.fvn_combine_nodes.specs.declared.state.State.{State}
use Rattle.fvn_combine_systems.specs.NodeSystems.{IsNodeColumn, IsNodeSystem}
use Rattle.fvn_combine_systems.proofs.Weighing.{component_at}
use Rattle.fvn_combine_leaves.specs.Leaves.{IsSolid, IsShared, MayBeConstant, HaveTwoHeads, AreTold, IsAlive}
use Rattle.fvn_combine_leaves.specs.Bases.{HaveAlive}
use Rattle.fvn_combine_leaves.specs.Readings.{AreSums, IsReading}
use Rattle.fvn_combine_leaves.specs.Users.{head_of, CanStand, CanBeConstant, HaveHeads}
use Rattle.fvn_combine_leaves.specs.declared.reading.Sums.{Sums}
use Rattle.fvn_combine_leaves.specs.declared.reading.Reading.{Reading}
use Rattle.fvn_combine_leaves.proofs.ReadOfState.{column_within, marked_to, shared_in}
use Rattle.fvn_combine_questions.specs.inner.Touched.{AreToldIn}
use Rattle.fvn_combine_systems.proofs.Carrying.{carry, carried, minimal_carried}

-- what stands at a place is in the list
pub contained_at : {X : Type 0} (xs : List X) (i : ℕ) (x : X) → slice_get xs i ≡ Some x → Contains xs x
contained_at xs i x e =
    let l = slice_get_within xs i x e in
    (i, l, Some-injective (sym (slice_get-get_or xs i x l) ∙ e))

-- where what is in the list stands
pub place_of : {X : Type 0} (xs : List X) (x : X) (c : Contains xs x) → slice_get xs c.0 ≡ Some x
place_of xs x c = slice_get-get_or xs c.0 x c.1 ∙ ap Some c.2

-- one of these solutions, in the order of the operator's columns, has the parts of a solution
pub record HasOwn (basis : List Solution) (e : Sums) (columns solution : List ℕ) : Type 0 where
  pub own : Solution
  pub listed : Contains basis own
  pub part : (j : ℕ) → j < length e.columns → get_or own.parts j 0 ≡ component columns solution (get_or e.columns j 0)

module _ (d : Declarations) (t : NodeTable) (made : IsWellMade t) (s : State) (closed : IsClosed d t s) (r : Reading) (reading : IsReading d t (class_of s) r) where
  pub can_be : (e : Sums) → Contains r.sums e → (k : ℕ) → MayBeConstant d t (class_of s) e.operator k → CanBeConstant r e k
  can_be e c k m = (marked_to d t made s closed r reading e c k m.used, stand m.why)
    where
      within : k < length t.nodes
      within = column_within d t made s closed e.operator k m.used.column

      stand : ((g : OpId) × (g ≢ e.operator) × IsSolid d t (class_of s) g k) ⊎ IsShared d t (class_of s) k → CanStand r e.operator k (head_of r k)
      stand (inl (g, n, solid)) = subst (CanStand r e.operator k) (sym ((reading.heads.exact k g within).1 solid)) n
      stand (inr shared) = let i = shared_in d t made s closed r reading k within shared in subst (CanStand r e.operator k) (sym i.0) i.1

  pub two_heads : (k l : ℕ) → k < length t.nodes → l < length t.nodes → HaveHeads r k l → HaveTwoHeads d t (class_of s) k l
  two_heads k l a b (f, g, p, q, n) = record {
    first = f;
    second = g;
    different = n;
    heads_first = (reading.heads.exact k f a).0 p;
    heads_second = (reading.heads.exact l g b).0 q;
  }

  -- the operator that stands at this place
  module _ (i : ℕ) (e : Sums) (at : slice_get r.sums i ≡ Some e) where
    pub sums_at : AreSums d t (class_of s) e
    sums_at = All-contains (AreSums d t (class_of s)) r.sums e reading.sums (contained_at r.sums i e at)

    -- the class of a column is a node
    pub node_at : (j : ℕ) → j < length e.columns → get_or e.columns j 0 < length t.nodes
    node_at j within = column_within d t made s closed e.operator (get_or e.columns j 0) ((sums_at.is_system.exact (get_or e.columns j 0)).0 (Contains-get_or e.columns j 0 within))

    -- columns that are told apart have classes that are
    pub told_of : (j l : ℕ) → j < length e.columns → l < length e.columns → AreToldIn r e s j l → AreTold d t s (get_or e.columns j 0) (get_or e.columns l 0)
    told_of j l a b (inl heads) = inl (two_heads (get_or e.columns j 0) (get_or e.columns l 0) (node_at j a) (node_at l b) heads)
    told_of j l a b (inr closed_pair) = inr closed_pair

    -- where the column of a class stands
    pub column_at : (k : ℕ) → IsNodeColumn t (class_of s) e.operator k → (j : ℕ) × (j < length e.columns) × (get_or e.columns j 0 ≡ k)
    column_at k column =
        let c = (sums_at.is_system.exact k).1 column in
        (c.0, c.1, get_or_default e.columns c.0 0 k c.1 ∙ c.2)

    -- that of a class that may be a constant
    pub column_of : (k : ℕ) → MayBeConstant d t (class_of s) e.operator k → (j : ℕ) × (j < length e.columns) × (get_or e.columns j 0 ≡ k)
    column_of k m = column_at k m.used.column

    -- a minimal solution of the operator's system that is alive, whatever the order of its columns is, is among those that are found
    pub own_of : (bases : List (List Solution)) → HaveAlive d t s r.sums bases → (columns : List ℕ) (system : System) → IsNodeSystem t (class_of s) e.operator columns system → (solution : List ℕ) → IsMinimal system.columns (rows_of system) solution → IsAlive d t s e.operator columns solution → HasOwn (get_or bases i []) e columns solution
    own_of bases have columns system is solution minimal alive =
        let moved = carry columns e.columns solution in
        let same = carried t (class_of s) e.operator columns e.columns system e.system is sums_at.is_system solution in
        let own_minimal = minimal_carried t (class_of s) e.operator columns e.columns system e.system is sums_at.is_system solution minimal in
        let own_alive : IsAlive d t s e.operator e.columns moved = λ k l other a b p q. alive k l other a b (subst (λ n. 0 < n) (same k) p) (subst (λ n. 0 < n) (same l) q) in
        let own = map_contains (λ (w : Solution). w.parts) (get_or bases i []) moved (have i e at moved own_minimal own_alive) in
        record {
          own = own.0;
          listed = own.1.0;
          part = λ j below.
              ap (λ x. get_or x j 0) own.1.1 ∙ sym (component_at e.columns moved sums_at.is_system.distinct j below)
              ∙ same (get_or e.columns j 0);
        }
