-- A shared class that is a single summand of an operator is in one of the minimal solutions that are taken, once, and beside
-- no other single summand: tags under which no minimal solution is so cover nothing.
use Rattle.std.proofs.Common.{◌≡◌, ◌≢◌, ℕ, ◌<◌, List, [], map, length, get_or, refl, sym, ap, ◌∙◌, subst, inl, inr, arith, Contains, Option, Some}
use Rattle.std.specs.Prelude.{slice_get}
use Rattle.std.proofs.lemmas.List.{get_or-map, length-map}
use Rattle.std.proofs.lemmas.List.Elements.{All-contains}
use Rattle.std.proofs.lemmas.Option.{slice_get_within, get_or_from_slice_get}
use Rattle.fvn_base.proofs.Membership.{map_contains}
use Rattle.fvn_base.proofs.Options.{Some-injective}
use Rattle.fvn_terms.specs.declared.plain.OpId.{OpId}
use Rattle.fvn_lindio.specs.declared.system.Solution.{Solution}
use Rattle.fvn_lindio.specs.Systems.{vectors_of}
use Rattle.fvn_flat.specs.SolvedLists.{component}
use Rattle.fvn_combine_nodes.specs.States.{class_of, IsClosed}
use Rattle.fvn_combine_nodes.specs.declared.state.State.{State}
use Rattle.fvn_combine_leaves.specs.Leaves.{IsShared, Uses}
use Rattle.fvn_combine_leaves.specs.Readings.{IsReading}
use Rattle.fvn_combine_leaves.specs.Bases.{AreBases}
use Rattle.fvn_combine_leaves.specs.declared.reading.Sums.{Sums}
use Rattle.fvn_combine_leaves.specs.declared.reading.Reading.{Reading}
use Rattle.fvn_combine_leaves.proofs.ReadOfState.{column_within, are_sums, sum_operator, marked_from}
use Rattle.fvn_combine_choices.specs.Binding.{IsBound, IsConstant, solid, alone, tagged}
use Rattle.fvn_combine_choices.specs.Choosing.{Choice, IsPossible, member_count, taken}
use Rattle.fvn_combine_choices.proofs.Columns.{component_at, some_above, one_of_sum, chosen_listed}
use Rattle.fvn_combine_drawing.specs.CombineAdmissibleListed.{tag_in, systems_of}
use Rattle.fvn_combine_drawing.specs.CombineCandidatesDeclared.sharing.SharedClass.{SharedClass}
use Rattle.fvn_combine.specs.Tasks.{Combining, IsCombining}
use Rattle.fvn_combine.specs.inner.Homes.{IsMarkedAt, HasOtherHead, HasConstant, HasConstantBeside, IsNoHome, LeaveHomeless}
use Rattle.fvn_combine.proofs.Items.{places_differ}
use Rattle.fvn_combine.proofs.Listing.{at_place}

module _ (k : Combining) (is : IsCombining k) (s : State) (closed : IsClosed k.declarations k.table s) (r : Reading) (reading : IsReading k.declarations k.table (class_of s) r) (tag : ℕ → Option OpId) where
  -- a column that is marked is used
  uses_at : (e : Sums) → Contains r.sums e → (x j : ℕ) → IsMarkedAt e x j → Uses k.declarations k.table (class_of s) e.operator x
  uses_at e c x j m = marked_from k.declarations k.table is.well_made s closed r reading e c x (j, m.within, m.class, m.used)

  -- a class that another operator heads is a single summand
  headed_is_constant : (f : OpId) (x : ℕ) → Uses k.declarations k.table (class_of s) f x → HasOtherHead r f x → IsConstant k.declarations k.table (class_of s) tag f x
  headed_is_constant f x used h = record { used = used; not_bound = bound }
    where
      within : x < length k.table.nodes
      within = column_within k.declarations k.table is.well_made s closed f x used.column

      bound : IsBound k.declarations k.table (class_of s) tag f x → ⊥
      bound (solid a own) = h.2 (Some-injective (sym h.1 ∙ (reading.heads.exact x f within).1 own))
      bound (alone own none only) = none h.0 ((reading.heads.exact x h.0 within).0 h.1)
      bound (tagged own shared e) = shared.soft h.0 ((reading.heads.exact x h.0 within).0 h.1)

  -- so is a shared class whose tag is another operator
  shared_is_constant : (f : OpId) (x : ℕ) → IsShared k.declarations k.table (class_of s) x → Uses k.declarations k.table (class_of s) f x → tag x ≢ Some f → IsConstant k.declarations k.table (class_of s) tag f x
  shared_is_constant f x shared used other = record { used = used; not_bound = bound }
    where
      bound : IsBound k.declarations k.table (class_of s) tag f x → ⊥
      bound (solid a own) = shared.soft f own
      bound (alone own none only) = shared.different (only shared.first shared.uses_first ∙ sym (only shared.second shared.uses_second))
      bound (tagged own also e) = other e

  module _ (decided : List SharedClass) (tags : List (Option OpId)) (shared : (a : SharedClass) → Contains decided a → IsShared k.declarations k.table (class_of s) a.class) (agree : (a : SharedClass) → Contains decided a → tag a.class ≡ tag_in tags a.class) where
    -- what is told to be a single summand is one
    constant_at : (e : Sums) → Contains r.sums e → (parts : List ℕ) (i : ℕ) → i < length e.columns → HasConstant decided tags r e parts i → IsConstant k.declarations k.table (class_of s) tag e.operator (get_or e.columns i 0)
    constant_at e c parts i l h = elim h.why [
      | inl headed ↦ headed_is_constant e.operator (get_or e.columns i 0) used headed
      | inr other ↦
          let x = get_or e.columns i 0 in
          let same : tag x ≡ tag_in tags x = subst (λ y. tag y ≡ tag_in tags y) other.2 (agree other.0 other.1) in
          shared_is_constant e.operator x (subst (IsShared k.declarations k.table (class_of s)) other.2 (shared other.0 other.1)) used (λ q. other.3 (sym same ∙ q))
    ]
      where
        used : Uses k.declarations k.table (class_of s) e.operator (get_or e.columns i 0)
        used = uses_at e c (get_or e.columns i 0) i (record { within = l; class = refl; used = h.used })

    module _ (bases : List (List Solution)) (are : AreBases r.sums bases) where
      columns_are : (i : ℕ) (e : Sums) → slice_get r.sums i ≡ Some e → (systems_of r bases).columns e.operator ≡ e.columns
      columns_are i e at =
          let l = slice_get_within r.sums i e at in
          at_place [] r.sums (map (λ (a : Sums). a.columns) r.sums) reading.operators.distinct i e at (length-map r.sums (λ (a : Sums). a.columns))
          ∙ get_or-map (λ (a : Sums). a.columns) r.sums i e [] l
          ∙ ap (λ (a : Sums). a.columns) (get_or_from_slice_get r.sums i e e at)

      basis_is : (i : ℕ) (e : Sums) → slice_get r.sums i ≡ Some e → (systems_of r bases).basis e.operator ≡ vectors_of (get_or bases i [])
      basis_is i e at =
          let l = slice_get_within r.sums i e at in
          let m = are.as_many in
          at_place [] r.sums (map vectors_of bases) reading.operators.distinct i e at (length-map bases vectors_of ∙ m)
          ∙ get_or-map vectors_of bases i [] [] (omega (arith, l, m))

      -- no choice with these tags is possible
      pub homeless_is_impossible : LeaveHomeless decided tags r bases → (number : OpId → ℕ) → IsPossible k.declarations k.table (class_of s) (systems_of r bases) (record { tag = tag; number = number }) → ⊥
      homeless_is_impossible leave number possible =
          let e = leave.entry in
          let i = leave.place in
          let c : Choice = record { tag = tag; number = number } in
          let y = systems_of r bases in
          let a = leave.homeless.1 in
          let h = leave.homeless.4 in
          let j = h.column in
          let x = a.class in
          let among_a : Contains decided a = (leave.homeless.0, leave.homeless.2, leave.homeless.3) in
          let listed : Contains r.sums e = (i, slice_get_within r.sums i e leave.is, get_or_from_slice_get r.sums i e e leave.is) in
          let acceptable = possible.acceptable e.operator (sum_operator k.declarations k.table is.well_made s closed r reading e listed) in
          let constant = shared_is_constant e.operator x (shared a among_a) (uses_at e listed x j h.marked) (λ q. h.other (sym (agree a among_a) ∙ q)) in
          let distinct = (are_sums k.declarations k.table is.well_made s closed r reading e listed).is_system.distinct in
          let same = columns_are i e leave.is in
          let f = λ (v : List ℕ). component (y.columns e.operator) v x in
          let once : member_count y c e.operator x ≡ 1 = acceptable.once x constant in
          let some = some_above f (taken y c e.operator) (omega (arith, once)) in
          let v = some.0 in
          let most = one_of_sum f (taken y c e.operator) v some.1.0 in
          let above = some.1.1 in
          let here : component (y.columns e.operator) v x ≡ 1 = omega (arith, once, most, above) in
          let column : get_or v j 0 ≡ 1 = sym (component_at e.columns v distinct j h.marked.within) ∙ ap (component e.columns v) h.marked.class ∙ ap (λ cs. component cs v x) (sym same) ∙ here in
          let among : Contains (vectors_of (get_or bases i [])) v = subst (λ vs. Contains vs v) (basis_is i e leave.is) (chosen_listed (number e.operator) (y.basis e.operator) v some.1.0) in
          let w = map_contains (λ (b : Solution). b.parts) (get_or bases i []) v among in
          let only = All-contains (IsNoHome decided tags r e j) (get_or bases i []) w.0 h.none w.1.0 in
          let beside = subst (λ (parts : List ℕ). HasConstantBeside decided tags r e parts j) w.1.1 (only (ap (λ (parts : List ℕ). get_or parts j 0) w.1.1 ∙ column)) in
          let z = get_or e.columns beside.column 0 in
          let has : component (y.columns e.operator) v z ≡ get_or v beside.column 0 = ap (λ cs. component cs v z) same ∙ component_at e.columns v distinct beside.column beside.within in
          let more = beside.constant.some in
          let left : 0 < component (y.columns e.operator) v x = omega (arith, here) in
          let right : 0 < component (y.columns e.operator) v z = omega (arith, has, more) in
          let one : x ≡ z = acceptable.apart x z constant (constant_at e listed v beside.column beside.within beside.constant) (record { solution = v; among = some.1.0; left = left; right = right }) in
          places_differ e.columns distinct j beside.column h.marked.within beside.within (λ q. beside.other (sym q)) (h.marked.class ∙ one)
