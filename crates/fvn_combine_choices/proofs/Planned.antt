-- The classes of a state with its plan, and their names.
use Rattle.std.proofs.Common.{◌≡◌, ◌≢◌, ℕ, ◌<◌, ◌≤◌, true, length, sym, ap, ◌∙◌, subst, arith, Contains}
use Rattle.fvn_terms.specs.declared.plain.Var.{Var}
use Rattle.fvn_terms.specs.declared.plain.OpId.{OpId}
use Rattle.fvn_terms.specs.declared.declarations.Declarations.{Declarations}
use Rattle.fvn_flat.specs.Bindings.{Bindings}
use Rattle.fvn_flat.specs.Problems.{variables_of}
use Rattle.fvn_flat.specs.Solving.{problem_of}
use Rattle.fvn_flat.specs.SolvedLists.{Plan, IsClass}
use Rattle.fvn_flat.specs.declared.solver.Pairs.{Pairs}
use Rattle.fvn_combine_nodes.specs.Table.{NodeTable, term_at}
use Rattle.fvn_combine_nodes.specs.Laws.{class_at}
use Rattle.fvn_combine_nodes.specs.States.{class_of}
use Rattle.fvn_combine_nodes.specs.declared.state.State.{State}
use Rattle.fvn_combine_nodes.proofs.Admitting.{named_within}
use Rattle.fvn_combine_nodes.proofs.NodesOf.{node_of, is_node, own_class}
use Rattle.fvn_combine_systems.specs.NodeSystems.{IsNodeColumn}
use Rattle.fvn_combine_leaves.specs.Leaves.{IsSumOperator}
use Rattle.fvn_combine_choices.specs.Binding.{IsBound, solid, alone, tagged}
use Rattle.fvn_combine_choices.specs.Choosing.{Systems, Choice}
use Rattle.fvn_combine_choices.specs.Plans.{IsForSolution}
use Rattle.fvn_combine_choices.specs.Laws.{IsPlanned}
use Rattle.fvn_combine_choices.specs.Tables.{HasSums}
use Rattle.fvn_combine_systems.proofs.Members.{column_of_node}
use Rattle.fvn_combine_choices.proofs.Kinded.{tables_have_sums}
use Rattle.fvn_combine_choices.proofs.Places.{sum_operator}

module _ {d : Declarations} {given : Pairs} {first : ℕ} {t : NodeTable} {s : State} {y : Systems} {c : Choice} {next : ℕ} {plan : Plan} {bindings : Bindings} (h : IsPlanned d given first t s y c next plan bindings) where
  pub has_sums : HasSums d t
  has_sums = tables_have_sums d h.good.fits (problem_of given) h.is_given.kinds t h.well_made h.table

  pub class_within : (i : ℕ) → i < length t.nodes → class_of s i < length t.nodes
  class_within i l =
      let w = h.closed.whole in
      let n = named_within s h.closed.naming i (omega (arith, l, w)) in
      omega (arith, n, w)

  -- the name of a class is a node in it
  pub class_itself : (i : ℕ) → i < length t.nodes → class_of s (class_of s i) ≡ class_of s i
  class_itself i l = let w = h.closed.whole in (h.closed.naming.named i (omega (arith, l, w))).1

  pub is_class : (i : ℕ) → i < length t.nodes → IsClass d (problem_of given) (class_at t (class_of s)) (class_of s i)
  is_class i l = (term_at t.nodes i, is_node h.well_made h.table i l, own_class h.well_made h.table (class_of s) i l)

  -- a class has a node
  pub class_node : (k : ℕ) → IsClass d (problem_of given) (class_at t (class_of s)) k → (i : ℕ) × ((i < length t.nodes) × (class_of s i ≡ k))
  class_node k r =
      let n = node_of h.well_made h.table r.0 r.1 in
      (n.number, (n.within, sym (own_class h.well_made h.table (class_of s) n.number n.within) ∙ ap (class_at t (class_of s)) n.is ∙ r.2))

  pub class_below : (k : ℕ) → IsClass d (problem_of given) (class_at t (class_of s)) k → k < length t.nodes
  class_below k r = let n = class_node k r in let l = class_within n.0 n.1.0 in let e = n.1.1 in omega (arith, l, e)

  pub column_class : (f : OpId) (k : ℕ) → IsNodeColumn t (class_of s) f k → IsClass d (problem_of given) (class_at t (class_of s)) k
  column_class f k m = let r = column_of_node h.well_made.ordered f k m in subst (IsClass d (problem_of given) (class_at t (class_of s))) r.1.1 (is_class r.0 r.1.0)

  pub column_below : (f : OpId) (k : ℕ) → IsNodeColumn t (class_of s) f k → k < length t.nodes
  column_below f k m = class_below k (column_class f k m)

  -- a new variable is none of the problem
  pub not_given : (x : Var) → x.fresh ≡ true → first ≤ x.name → Contains (variables_of (problem_of given)) x → ⊥
  not_given x fresh l m = let n = h.is_given.numbers x m fresh in omega (arith, l, n)

  pub name_not_given : (k : ℕ) → k < length t.nodes → Contains (variables_of (problem_of given)) (plan.name k) → ⊥
  name_not_given k l m =
      let n = (h.plan_by.names k l).number in
      not_given (plan.name k) n.fresh (let e = n.is in omega (arith, e)) m

  -- names of classes differ
  pub names_apart : (k j : ℕ) → k < length t.nodes → j < length t.nodes → plan.name k ≡ plan.name j → k ≡ j
  names_apart k j lk lj e =
      let a = (h.plan_by.names k lk).number.is in
      let b = (h.plan_by.names j lj).number.is in
      let n : (plan.name k).name ≡ (plan.name j).name = ap (λ x. x.name) e in
      omega (arith, a, b, n)

  -- what stands for a solution is no name of a class
  pub solution_no_name : (f : OpId) (x : Var) → IsForSolution d t first next f x → (k : ℕ) → k < length t.nodes → plan.name k ≢ x
  solution_no_name f x new k l e =
      let a = (h.plan_by.names k l).number.is in
      let n : (plan.name k).name ≡ x.name = ap (λ x. x.name) e in
      let b = new.above in
      omega (arith, a, b, n, l)

  pub solution_not_given : (f : OpId) (x : Var) → IsForSolution d t first next f x → Contains (variables_of (problem_of given)) x → ⊥
  solution_not_given f x new m = not_given x new.fresh (let b = new.above in omega (arith, b)) m

  -- what a class is bound to a sum of heads a sum
  pub bound_operator : (f : OpId) (k : ℕ) → IsBound d t (class_of s) c.tag f k → IsSumOperator d t f
  bound_operator f k (solid assoc r) = sum_operator h.well_made h.table f assoc r.member r.arguments (has_sums.pairs r.member f r.arguments r.over assoc).1 r.over
  bound_operator f k (alone u soft only) = record { associative = u.associative; sum = u.row; listed = u.listed }
  bound_operator f k (tagged u shared e) = record { associative = u.associative; sum = u.row; listed = u.listed }
