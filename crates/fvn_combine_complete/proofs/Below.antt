-- Minimal solutions at or below what is counted of a flat form are alive, and so they are listed.
use Rattle.std.proofs.Common.{◌≡◌, ℕ, zero, suc, ◌<◌, ◌≤◌, List, [], ◌∷◌, get_or, sym, ap, ◌∙◌, subst, inl, inr, arith, Contains, Option}
use Rattle.std.proofs.lemmas.List.{get_or_default}
use Rattle.fvn_base.proofs.Membership.{contains_cases, contains_none}
use Rattle.fvn_terms.specs.declared.plain.OpId.{OpId}
use Rattle.fvn_terms.specs.declared.declarations.Declarations.{Declarations}
use Rattle.fvn_forms.specs.Flat.{FlatTerm}
use Rattle.fvn_forms.specs.InOrder.{count}
use Rattle.fvn_forms.specs.Canon.{parts}
use Rattle.fvn_lindio.specs.Vectors.{IsAtOrBelow}
use Rattle.fvn_lindio.specs.declared.system.System.{System}
use Rattle.fvn_lindio.specs.Systems.{IsMinimal, rows_of}
use Rattle.fvn_flat.specs.SolvedLists.{component}
use Rattle.fvn_combine_nodes.specs.Table.{NodeTable, IsWellMade}
use Rattle.fvn_combine_nodes.specs.States.{class_of}
use Rattle.fvn_combine_nodes.specs.declared.state.State.{State}
use Rattle.fvn_combine_systems.specs.NodeSystems.{IsNodeSystem}
use Rattle.fvn_combine_systems.specs.Values.{Counts}
use Rattle.fvn_combine_leaves.specs.Leaves.{IsLeaf, Uses}
use Rattle.fvn_combine_choices.specs.Binding.{IsConstant}
use Rattle.fvn_combine_choices.specs.Tables.{HasSums}
use Rattle.fvn_combine_complete.specs.Alive.{HasAlive}
use Rattle.fvn_combine_complete.specs.Obeying.{IsTold, GoWith, ObeyTags}
use Rattle.fvn_combine_complete.proofs.Meeting.{component_at, not_unused}
use Rattle.fvn_combine_complete.proofs.Singles.{one_value_alive}
use Rattle.fvn_combine_complete.proofs.Taken.{contains_counted}
use Rattle.fvn_combine_complete.proofs.Values.{constant_alone, single_constant}

below_at : (x y : List ℕ) (j : ℕ) → IsAtOrBelow x y → get_or x j 0 ≤ get_or y j 0
below_at [] [] j h = omega arith
below_at [] (b ∷ y) j h = absurd h
below_at (a ∷ x) [] j h = absurd h
below_at (a ∷ x) (b ∷ y) zero h = h.0
below_at (a ∷ x) (b ∷ y) (suc j) h = below_at x y j h.1

-- a vector at or below what is counted of q has a used class at most as often as its value has q
pub counted_above : (d : Declarations) (t : NodeTable) (class : ℕ → ℕ) (values : ℕ → FlatTerm) (f : OpId) (columns : List ℕ) (system : System) → IsNodeSystem t class f columns system → (q : FlatTerm) (x v : List ℕ) → Counts d f values columns (rows_of system) q x → IsAtOrBelow v x
    → (k : ℕ) → Uses d t class f k → component columns v k ≤ count q (parts d f (values k))
counted_above d t class values f columns system is q x v counts below k uses =
    let m = (is.exact k).1 uses.column in
    let of : get_or columns m.0 0 ≡ k = get_or_default columns m.0 0 k m.1 ∙ m.2 in
    let own = component_at columns v is.distinct m.0 m.1 in
    let here = ap (component columns v) of in
    let under = below_at v x m.0 below in
    let used = counts.used m.0 m.1 (not_unused d t class f columns system is m.0 m.1 (subst (Uses d t class f) (sym of) uses)) in
    let value = ap (λ n. count q (parts d f (values n))) of in
    omega (arith, own, here, under, used, value)

-- a form that is counted in a list of one is its member
pub one_counted : (q p : FlatTerm) → 0 < count q (p ∷ []) → p ≡ q
one_counted q p some = elim (contains_cases p [] q (contains_counted q (p ∷ []) some)) [
  | inl e ↦ e
  | inr none ↦ absurd (contains_none q none)
]

module _ (d : Declarations) (t : NodeTable) (made : IsWellMade t) (has : HasSums d t) (s : State) {heads : List (Option OpId)} (leaf : IsLeaf d t heads s) (told : IsTold d t (class_of s)) (values : ℕ → FlatTerm) (go_with : GoWith d t s values) (tag : ℕ → Option OpId) (obey : ObeyTags d t (class_of s) tag values)
    (f : OpId) (columns : List ℕ) (system : System) (is : IsNodeSystem t (class_of s) f columns system) (basis : List (List ℕ)) (alive : HasAlive d t s f columns system basis) (counted : FlatTerm → List ℕ) (counts : (q : FlatTerm) → Counts d f values columns (rows_of system) q (counted q)) where
  abbrev class : ℕ → ℕ
  class = class_of s

  -- a constant that a vector has, which is at or below what is counted of a flat form, has that form as its value
  counted_constant : (q : FlatTerm) (v : List ℕ) → IsAtOrBelow v (counted q) → (k : ℕ) → IsConstant d t class tag f k → 0 < component columns v k → values k ≡ q
  counted_constant q v below k h some =
      let most = counted_above d t class values f columns system is q (counted q) v (counts q) below k h.used in
      let alone = ap (count q) (constant_alone d t made has s leaf told values go_with tag obey f k h) in
      one_counted q (values k) (omega (arith, some, most, alone))

  pub listed_below : (q : FlatTerm) (v : List ℕ) → IsMinimal system.columns (rows_of system) v → IsAtOrBelow v (counted q) → Contains basis v
  listed_below q v minimal below = alive v minimal (one_value_alive d t made has s leaf.closed values go_with f columns v (λ k l one other left right.
      counted_constant q v below k (single_constant d t made has s leaf told values go_with tag obey f k one) left
      ∙ sym (counted_constant q v below l (single_constant d t made has s leaf told values go_with tag obey f l other) right)))
