-- What is counted of values that go with a leaf meets what is asked of a choice.
use Rattle.std.proofs.Common.{◌≡◌, ◌≢◌, ℕ, ◌<◌, ◌≤◌, List, [], ◌∷◌, length, get_or, sym, ap, ◌∙◌, subst, inl, inr, arith, Contains, Option, slice_get}
use Rattle.std.specs.Prelude.{Bool, pos}
use Rattle.std.proofs.lemmas.Bool.{cases_order}
use Rattle.std.proofs.lemmas.List.{get_or-map, get_or_default}
use Rattle.std.proofs.lemmas.List.Elements.{All-contains}
use Rattle.fvn_base.proofs.Membership.{contains_map}
use Rattle.fvn_terms.specs.declared.plain.OpId.{OpId}
use Rattle.fvn_terms.specs.declared.declarations.Declarations.{Declarations}
use Rattle.fvn_terms.specs.Signature.{axioms}
use Rattle.fvn_forms.specs.Flat.{FlatTerm}
use Rattle.fvn_forms.specs.InOrder.{count}
use Rattle.fvn_forms.specs.Canon.{parts}
use Rattle.fvn_terms.specs.Equality.{IsAssociative, identity}
use Rattle.fvn_forms.proofs.Build.{parts_identity}
use Rattle.fvn_lindio.specs.declared.system.System.{System}
use Rattle.fvn_lindio.specs.Systems.{IsMinimal, IsUnused, Solves, rows_of}
use Rattle.fvn_flat.specs.SolvedLists.{component}
use Rattle.fvn_combine_nodes.specs.Table.{NodeTable, IsWellMade}
use Rattle.fvn_combine_nodes.specs.States.{class_of}
use Rattle.fvn_combine_nodes.specs.declared.state.State.{State}
use Rattle.fvn_combine_nodes.proofs.Lists.{all_from}
use Rattle.fvn_combine_systems.specs.NodeSystems.{addends, sums, coefficient, row_at, IsNodeSystem}
use Rattle.fvn_combine_systems.specs.Values.{AddUp, AddsNothing, Counts}
use Rattle.fvn_combine_systems.specs.Laws.{CountsSolve}
use Rattle.fvn_combine_supports.specs.Pieces.{AreAlike, HasOnce}
use Rattle.fvn_combine_leaves.specs.Leaves.{IsLeaf, IsSumOperator, Uses}
use Rattle.fvn_combine_choices.specs.Binding.{IsConstant, AreAsked}
use Rattle.fvn_combine_choices.specs.Tables.{HasSums}
use Rattle.fvn_combine_complete.specs.Obeying.{IsTold, GoWith, ObeyHeads, ObeyTags, TagsFollow}
use Rattle.fvn_combine_complete.specs.Laws.{CountsMeet}
use Rattle.fvn_combine_complete.proofs.Values.{constant_alone, constant_not_noted, constants_differ, alike_live, may_be, bound_used, required_some}
pub use Rattle.fvn_combine_systems.proofs.Weighing.{component_at}

-- a column that f uses is used by some row
pub not_unused : (d : Declarations) (t : NodeTable) (class : ℕ → ℕ) (f : OpId) (columns : List ℕ) (system : System) → IsNodeSystem t class f columns system → (j : ℕ) → j < length columns → Uses d t class f (get_or columns j 0) → IsUnused (rows_of system) j → ⊥
not_unused d t class f columns system is j l u z =
    let row = row_at t class f columns u.row in
    let listed : Contains (rows_of system) row = subst (λ rs. Contains rs row) (sym is.rows) (contains_map (row_at t class f columns) (sums t f) u.row u.listed) in
    let zero = All-contains (λ r. get_or r j (pos 0) ≡ pos 0) (rows_of system) row z listed in
    u.other (sym (get_or-map (coefficient class u.row (addends f (slice_get t.nodes u.row))) columns j 0 (pos 0) l) ∙ zero)

-- what is counted of each flat form solves the system
pub counts_solve : CountsSolve → (d : Declarations) (t : NodeTable) → HasSums d t → (s : State) (values : ℕ → FlatTerm) → GoWith d t s values → (f : OpId) → IsAssociative (axioms d f) → (columns : List ℕ) (system : System) → IsNodeSystem t (class_of s) f columns system
    → (q : FlatTerm) → (x : List ℕ) × Counts d f values columns (rows_of system) q x × Solves system.columns (rows_of system) x
counts_solve law d t has s values go_with f associative columns system is = (law d t (class_of s) f associative columns system is values go_with.are.settled adds_nothing).0 add_up
  where
    add_up : AddUp d t (class_of s) f values
    add_up i a b listed over = go_with.are.built i f (a ∷ b ∷ []) over

    adds_nothing : AddsNothing d t (class_of s) f values
    adds_nothing = all_from (λ p. p.0 ≡ f → parts d f (values (class_of s p.1)) ≡ []) t.units (λ p c same.
        let u = has.units p c in
        ap (parts d f) (go_with.are.built p.1 u.0 [] u.2) ∙ parts_identity d f u.0 (ap (λ o. identity (axioms d o)) (sym same) ∙ u.1))

module _ (law : CountsSolve) (d : Declarations) (t : NodeTable) (made : IsWellMade t) (has : HasSums d t) (s : State) {heads : List (Option OpId)} (leaf : IsLeaf d t heads s) (told : IsTold d t (class_of s)) (values : ℕ → FlatTerm) (go_with : GoWith d t s values) (obey_heads : ObeyHeads d t s heads values) (tag : ℕ → Option OpId) (obey : ObeyTags d t (class_of s) tag values) (follow : TagsFollow d t (class_of s) tag values heads) (f : OpId) (sum : IsSumOperator d t f) (columns : List ℕ) (system : System) (is : IsNodeSystem t (class_of s) f columns system) where
  columns_apart : (c e : ℕ) → c ≢ e → c < length columns → e < length columns → get_or columns c 0 ≢ get_or columns e 0
  columns_apart c e n l m same = elim (cases_order c e) [
    | inl z ↦ n z
    | inr o ↦ elim o [
      | inl lt ↦ is.distinct c e 0 lt m same
      | inr gt ↦ is.distinct e c 0 gt l (sym same)
    ]
  ]

  module _ (basis : List (List ℕ)) (minimal : (v : List ℕ) → Contains basis v → IsMinimal system.columns (rows_of system) v) (constants : List ℕ) (may_be_zero : List Bool) (asked : AreAsked d t (class_of s) tag f columns constants may_be_zero) where
    column_of : (k : ℕ) → IsConstant d t (class_of s) tag f k → (j : ℕ) × (j < length columns) × (get_or columns j 0 ≡ k)
    column_of k h =
        let m = (is.exact k).1 h.used.column in
        (m.0, m.1, get_or_default columns m.0 0 k m.1 ∙ m.2)

    -- a vector that has no constant column several times adds each constant once
    once_added : (v : List ℕ) → HasOnce constants v → (k : ℕ) → IsConstant d t (class_of s) tag f k → component columns v k ≤ 1
    once_added v once k h =
        let i = column_of k h in
        let a = component_at columns v is.distinct i.0 i.1 in
        let e = ap (component columns v) i.2 in
        let n = once i.0 ((asked.are_constant i.0).1 (i.1, subst (IsConstant d t (class_of s) tag f) (sym i.2) h)) in
        omega (arith, a, e, n)

    -- constants that a vector has have one value, where the flat forms of its constant columns are one
    alike_values : (v : List ℕ) → AreAlike constants v (λ j. values (get_or columns j 0)) → (k l : ℕ) → IsConstant d t (class_of s) tag f k → IsConstant d t (class_of s) tag f l → 0 < component columns v k → 0 < component columns v l → values k ≡ values l
    alike_values v alike k l hk hl left right =
        let i = column_of k hk in
        let j = column_of l hl in
        let a = component_at columns v is.distinct i.0 i.1 in
        let b = component_at columns v is.distinct j.0 j.1 in
        let at_i = ap (component columns v) i.2 in
        let at_j = ap (component columns v) j.2 in
        sym (ap values i.2)
        ∙ alike i.0 j.0 ((asked.are_constant i.0).1 (i.1, subst (IsConstant d t (class_of s) tag f) (sym i.2) hk)) ((asked.are_constant j.0).1 (j.1, subst (IsConstant d t (class_of s) tag f) (sym j.2) hl))
        (omega (arith, a, at_i, left)) (omega (arith, b, at_j, right))
        ∙ ap values j.2

    pub counts_meet : CountsMeet d f values columns system basis constants may_be_zero
    counts_meet =
        let solve = counts_solve law d t has s values go_with f sum.associative columns system is in
        record {
          counted = λ q. (solve q).0;
          counts = λ q. (solve q).1;
          solve = λ q. (solve q).2;
          meets = record {
            distinct = asked.distinct;
            once = λ c m q.
                let r = (asked.are_constant c).0 m in
                let k = get_or columns c 0 in
                let n = (solve q).1.used c r.0 (not_unused d t (class_of s) f columns system is c r.0 r.1.used) in
                let a = ap (count q) (constant_alone d t made has s leaf told values go_with tag obey f k r.1) in
                omega (arith, n, a);
            different = λ c e m n ne v b p q alike once.
                let rc = (asked.are_constant c).0 m in
                let re = (asked.are_constant e).0 n in
                let k = get_or columns c 0 in
                let l = get_or columns e 0 in
                let left : 0 < component columns v k = let a = component_at columns v is.distinct c rc.0 in omega (arith, a, p) in
                let right : 0 < component columns v l = let a = component_at columns v is.distinct e re.0 in omega (arith, a, q) in
                constants_differ d t made has s leaf told values go_with tag obey f k l rc.1 re.1 (columns_apart c e ne rc.0 re.0)
                (leaf.constants f k l (may_be d t (class_of s) told tag f k rc.1) (may_be d t (class_of s) told tag f l re.1)
                (constant_not_noted d t made has s leaf told values go_with tag obey obey_heads follow f k rc.1) (constant_not_noted d t made has s leaf told values go_with tag obey obey_heads follow f l re.1)
                (record { columns = columns; system = system; is = is; solution = v; minimal = minimal v b; left = left; right = right })
                (alike_live d t made has s leaf told values go_with tag obey follow f columns v (once_added v once) (alike_values v alike)))
                (alike c e m n p q);
            filled = λ j z.
                let r = (asked.required j).0 z in
                let k = get_or columns j 0 in
                let some = required_some d t made has s leaf told values go_with tag obey f k r.1 in
                let n = (solve some.0).1.used j r.0 (not_unused d t (class_of s) f columns system is j r.0 (bound_used d t made has s leaf told values go_with tag obey f k r.1.bound)) in
                (some.0, let p = some.1 in omega (arith, n, p));
          };
        }

pub values_meet : (law : CountsSolve) (d : Declarations) (t : NodeTable) → IsWellMade t → HasSums d t → (s : State) (heads : List (Option OpId)) → IsLeaf d t heads s → IsTold d t (class_of s) → (values : ℕ → FlatTerm) → GoWith d t s values → ObeyHeads d t s heads values → (tag : ℕ → Option OpId) → ObeyTags d t (class_of s) tag values → TagsFollow d t (class_of s) tag values heads →
    (f : OpId) → IsSumOperator d t f → (columns : List ℕ) (system : System) → IsNodeSystem t (class_of s) f columns system → (basis : List (List ℕ)) → ((v : List ℕ) → Contains basis v → IsMinimal system.columns (rows_of system) v) →
    (constants : List ℕ) (may_be_zero : List Bool) → AreAsked d t (class_of s) tag f columns constants may_be_zero → CountsMeet d f values columns system basis constants may_be_zero
values_meet law d t made has s heads leaf told values go_with obey_heads tag obey follow f sum columns system is basis minimal constants may_be_zero asked = counts_meet law d t made has s leaf told values go_with obey_heads tag obey follow f sum columns system is basis minimal constants may_be_zero asked
