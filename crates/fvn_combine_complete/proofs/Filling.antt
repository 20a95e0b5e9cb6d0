-- Values that go with a state have a summand of each class in a minimal solution that is live.
use Rattle.std.proofs.Common.{◌≡◌, ◌⊎◌, ℕ, ◌<◌, ◌≤◌, List, [], ◌∷◌, length, get_or, sym, ap, ◌∙◌, subst, inl, inr, arith, Option, Some}
use Rattle.std.proofs.lemmas.List.{get_or_default}
use Rattle.fvn_terms.specs.declared.plain.OpId.{OpId}
use Rattle.fvn_terms.specs.declared.declarations.Declarations.{Declarations}
use Rattle.fvn_terms.specs.Signature.{axioms}
use Rattle.fvn_terms.specs.Equality.{identity}
use Rattle.fvn_forms.specs.Flat.{FlatTerm, fconstant}
use Rattle.fvn_forms.specs.InOrder.{count}
use Rattle.fvn_forms.specs.Canon.{parts}
use Rattle.fvn_lindio.specs.Vectors.{IsAtOrBelow}
use Rattle.fvn_lindio.specs.declared.system.System.{System}
use Rattle.fvn_lindio.specs.Systems.{rows_of}
use Rattle.fvn_flat.specs.SolvedLists.{component}
use Rattle.fvn_flat.specs.Partitions.{HasNoIdentity}
use Rattle.fvn_combine_nodes.specs.Table.{NodeTable, IsWellMade}
use Rattle.fvn_combine_nodes.specs.States.{class_of}
use Rattle.fvn_combine_nodes.specs.declared.state.State.{State}
use Rattle.fvn_combine_nodes.proofs.Heading.{some_part}
use Rattle.fvn_combine_systems.specs.NodeSystems.{IsNodeSystem}
use Rattle.fvn_combine_systems.specs.Laws.{CountsSolve}
use Rattle.fvn_combine_systems.specs.Values.{Counts}
use Rattle.fvn_combine_supports.specs.Laws.{MinimalHasColumn}
use Rattle.fvn_combine_leaves.specs.Leaves.{Uses, IsLive, IsNotedOther, IsOneSummand, IsNearLeaf}
use Rattle.fvn_combine_choices.specs.Tables.{HasSums}
use Rattle.fvn_combine_complete.specs.Laws.{UnfilledHasNoValues}
use Rattle.fvn_combine_complete.specs.Obeying.{GoWith, IsSumOf, IsLabel, ObeyHeads}
use Rattle.fvn_combine_complete.proofs.Below.{counted_above, one_counted}
use Rattle.fvn_combine_complete.proofs.Heads.{sum_is_constant, one_head, single_part}
use Rattle.fvn_combine_complete.proofs.Identities.{own_name}
use Rattle.fvn_combine_complete.proofs.Meeting.{component_at, counts_solve, not_unused}
use Rattle.fvn_combine_complete.proofs.Singles.{single_alone, told_differ}
use Rattle.fvn_combine_complete.proofs.Taken.{count_one, some_counted}

module _ (d : Declarations) (t : NodeTable) (made : IsWellMade t) (has : HasSums d t) (s : State) (heads : List (Option OpId)) (near : IsNearLeaf d t s) (values : ℕ → FlatTerm) (go_with : GoWith d t s values) (obey_heads : ObeyHeads d t s heads values) where
  abbrev class : ℕ → ℕ
  class = class_of s

  -- where another operator that uses the class is noted of it, the value is one summand
  noted_alone : (f : OpId) (k : ℕ) → IsNotedOther d t heads class f k → parts d f (values k) ≡ values k ∷ []
  noted_alone f k h = single_part d f (values k) no_sum no_identity
    where
      noted : IsSumOf h.operator (values k) ⊎ IsLabel d t s heads h.operator k (values k)
      noted = obey_heads k h.operator (own_name d t made s near.closed f k h.used.column).within h.noted

      no_sum : IsSumOf f (values k) → ⊥
      no_sum sum = elim noted [
        | inl own ↦ h.other (one_head h.operator f (values k) own sum)
        | inr label ↦ label.other f (λ e. h.other (sym e)) h.used (inl sum)
      ]

      no_identity : (e : OpId) → identity (axioms d f) ≡ Some e → values k ≡ fconstant e → ⊥
      no_identity e i is = elim noted [
        | inl own ↦ sum_is_constant h.operator e (values k) own is
        | inr label ↦ label.other f (λ e. h.other (sym e)) h.used (inr (e, i, is))
      ]

  -- a class that is a single summand has a value that is one
  summand_alone : (f : OpId) (k : ℕ) → IsOneSummand d t heads class f k → parts d f (values k) ≡ values k ∷ []
  summand_alone f k (inl single) = single_alone d t made has s near.closed values go_with near.partition f k single
  summand_alone f k (inr h) = noted_alone f k h

  summand_used : (f : OpId) (k : ℕ) → IsOneSummand d t heads class f k → Uses d t class f k
  summand_used f k (inl single) = single.used
  summand_used f k (inr h) = h.used

  -- a class that has a summand for sure has one
  summand_of : (f : OpId) (k : ℕ) → IsOneSummand d t heads class f k ⊎ HasNoIdentity (axioms d f) → (q : FlatTerm) × (0 < count q (parts d f (values k)))
  summand_of f k (inl one) = some_counted (parts d f (values k)) (let n = ap length (summand_alone f k one) in omega (arith, n))
  summand_of f k (inr bare) = some_counted (parts d f (values k)) (some_part d f bare (values k) (go_with.are.settled k))

  -- a vector at or below what is counted of one form may stand for a summand
  live_below : (f : OpId) (columns : List ℕ) (system : System) → IsNodeSystem t class f columns system → (q : FlatTerm) (x v : List ℕ) → Counts d f values columns (rows_of system) q x → IsAtOrBelow v x → IsLive d t heads s f columns v
  live_below f columns system is q x v counts below = record {
    once = λ k one.
        let most = counted_one k one in
        let few = count_one q (values k) in
        omega (arith, most, few);
    told = λ k l n one other left right apart.
        told_differ d t made has s near.closed values go_with f k l (summand_used f k one).column (summand_used f l other).column n apart
        (value_is k one left ∙ sym (value_is l other right));
  }
    where
      counted_one : (k : ℕ) → IsOneSummand d t heads class f k → component columns v k ≤ count q (values k ∷ [])
      counted_one k one =
          let most = counted_above d t class values f columns system is q x v counts below k (summand_used f k one) in
          let alone = ap (count q) (summand_alone f k one) in
          omega (arith, most, alone)

      value_is : (k : ℕ) → IsOneSummand d t heads class f k → 0 < component columns v k → values k ≡ q
      value_is k one some = one_counted q (values k) (let most = counted_one k one in omega (arith, most, some))

-- so no values go with a state in which a class that has a summand for sure is in no such solution
pub unfilled_none : CountsSolve → MinimalHasColumn → UnfilledHasNoValues
unfilled_none law minimal d t made has s heads near f k unfilled values go_with obey_heads =
    let is = unfilled.is in
    let columns = unfilled.columns in
    let q = summand_of d t made has s heads near values go_with obey_heads f k unfilled.summand in
    let x = counts_solve law d t has s values go_with f unfilled.used.associative columns unfilled.system is q.0 in
    let m = (is.exact k).1 unfilled.used.column in
    let of : get_or columns m.0 0 ≡ k = get_or_default columns m.0 0 k m.1 ∙ m.2 in
    let counted = x.1.used m.0 m.1 (not_unused d t (class_of s) f columns unfilled.system is m.0 m.1 (subst (Uses d t (class_of s) f) (sym of) unfilled.used)) in
    let value = ap (λ n. count q.0 (parts d f (values n))) of in
    let v = minimal unfilled.system.columns (rows_of unfilled.system) x.0 x.2 m.0 (let some = q.1 in omega (arith, counted, value, some)) in
    let none = unfilled.none v.0 v.1 (live_below d t made has s heads near values go_with obey_heads f columns unfilled.system is q.0 x.0 v.0 x.1 v.2) in
    let own = component_at columns v.0 is.distinct m.0 m.1 in
    let here = ap (component columns v.0) of in
    let some = v.3 in
    omega (arith, none, own, here, some)
