-- The sides of reduced rows have the same summands.
use Rattle.std.proofs.Common.{◌≡◌, ℕ, ◌<◌, List, [], ◌∷◌, length, refl, ap, subst, arith, All, Option, Some, None}
use Rattle.std.specs.Prelude.{IfSome, sum_by}
use Rattle.std.proofs.lemmas.List.Sums.{sum_by-cons}
use Rattle.fvn_terms.specs.declared.declarations.Declarations.{Declarations}
use Rattle.fvn_forms.specs.Flat.{FlatTerm}
use Rattle.fvn_forms.specs.InOrder.{count}
use Rattle.fvn_forms.specs.Canon.{parts}
use Rattle.fvn_combine_nodes.specs.Table.{NodeTable, IsWellMade}
use Rattle.fvn_combine_nodes.specs.States.{IsClosed, class_of}
use Rattle.fvn_combine_nodes.specs.declared.state.State.{State}
use Rattle.fvn_combine_bounds.specs.CombineChoicesTables.{HasSums}
use Rattle.fvn_combine_bounds.specs.CombineCompleteObeying.{GoWith}
use Rattle.fvn_combine_inferring.specs.Rows.{times, AreSides}
use Rattle.fvn_combine_inferring.specs.declared.expressions.Addition.{Addition}
use Rattle.fvn_combine_inferring.specs.declared.rows.Row.{Row}
use Rattle.fvn_combine_inferring.specs.inner.Splits.{IsUnitClass, IsSplit, IsAddition, IsSum, IsReduced}
use Rattle.fvn_combine_inferring.proofs.Values.{own_name, split_adds, times_additive, unit_weighs_nothing}

module _ (d : Declarations) (t : NodeTable) (made : IsWellMade t) (has : HasSums d t) (s : State) (closed : IsClosed d t s) (a : Addition) (is : IsAddition d t s a) where
  nothing : (values : ℕ → FlatTerm) → GoWith d t s values → (q : FlatTerm) (unit : Option ℕ) → IfSome unit (IsUnitClass t s a.operator) → IfSome unit (λ e. times d s a.operator values q e ≡ 0)
  nothing values go q None u = tt
  nothing values go q (Some e) u = unit_weighs_nothing d t has s closed values go a.operator e u q

  -- the row of a sum holds of all values that go with the state
  pub row_holds : (k : ℕ) (p : ℕ × ℕ) → IsSplit t s a.operator k p → (row : Row) → IsReduced a.splits a.unit k p.0 p.1 row → AreSides d t s a.operator row.left.items row.right.items
  row_holds k p split row reduced values go q =
      reduced.weight (times d s a.operator values q)
      (times_additive d t has s closed values go made a.operator is.associative a.splits is.splits q)
      (nothing values go q a.unit is.unit)
      (split_adds d t has s closed values go made a.operator is.associative k p split q)

  -- so a sum has the summands of the classes that it adds
  pub sum_holds : (i : ℕ) → i < length t.nodes → (p : ℕ × ℕ) → IsSplit t s a.operator (class_of s i) p → (list : List ℕ) → IsSum a.splits p.0 p.1 list → AreSides d t s a.operator (i ∷ []) list
  sum_holds i l p split list sum values go q =
      let w = times d s a.operator values q in
      let b = sum_by-cons w i [] in
      let z : sum_by w [] ≡ 0 = refl in
      let c = sum.weight w (times_additive d t has s closed values go made a.operator is.associative a.splits is.splits q) in
      let e = split_adds d t has s closed values go made a.operator is.associative (class_of s i) p split q in
      let n = ap (λ k. count q (parts d a.operator (values k))) (own_name d t s closed i l) in
      omega (arith, b, z, c, e, n)

  -- and its classes are nodes
  pub side_within : (xs : List ℕ) → All (λ i. i < length a.splits) xs → All (λ i. i < length t.nodes) xs
  side_within xs h = subst (λ n. All (λ i. i < n) xs) is.splits.as_many h
