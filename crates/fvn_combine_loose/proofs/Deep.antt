-- Variables in the terms of nodes are variables of the problem, and no higher than the nodes.
use Rattle.std.proofs.Common.{◌≡◌, ℕ, zero, suc, ◌+◌, ◌<◌, ◌≤◌, List, length, ap, ◌∙◌, sym, subst, arith, Contains, Some, slice_get}
use Rattle.std.proofs.lemmas.List.Elements.{All-contains}
use Rattle.fvn_terms.specs.declared.plain.Var.{Var as Variable}
use Rattle.fvn_terms.specs.declared.plain.OpId.{OpId}
use Rattle.fvn_terms.specs.declared.declarations.Declarations.{Declarations}
use Rattle.fvn_terms.specs.Substitution.{Substitution, Occurs}
use Rattle.fvn_terms.specs.Unifiers.{Problem}
use Rattle.fvn_flat.specs.Problems.{variables_of}
use Rattle.fvn_combine_nodes.specs.Table.{NodeTable, IsOver, term_at}
use Rattle.fvn_combine_nodes.specs.declared.state.State.{State}
use Rattle.fvn_combine_nodes.specs.declared.table.Node.{Node}
use Rattle.fvn_combine_nodes.specs.declared.table.Node.TheVariants.{Var, App}
use Rattle.fvn_combine_nodes.proofs.Nodes.{node_at, term_at-variable, term_at-over}
use Rattle.fvn_combine_nodes.proofs.NodesOf.{node_variable}
use Rattle.fvn_combine_loose.specs.Loose.{height_of, IsHeaded}
use Rattle.fvn_combine_loose.proofs.Mapped.{among_mapped}
use Rattle.fvn_combine_loose.proofs.Setting.{Setting, argument_within, argument_at, argument_up_to}

-- the node of a variable, no higher than h
pub record NodeUpTo (d : Declarations) (t : NodeTable) (s : State) (z : ℕ) (heights : List ℕ) (x : Variable) (h : ℕ) : Type 0 where
  pub number : ℕ
  pub is : slice_get t.nodes number ≡ Some (Var x)
  pub up_to : height_of s heights number ≤ h

module _ {d : Declarations} {problem : Problem} {t : NodeTable} {s : State} {z : ℕ} {heights : List ℕ} {u : Substitution} (g : Setting d problem t s z heights u) where
  abbrev height : ℕ → ℕ
  height = height_of s heights

  abbrev UpTo : Variable → ℕ → Type 0
  UpTo = NodeUpTo d t s z heights

  raised : (x : Variable) (h q : ℕ) → h ≤ q → UpTo x h → UpTo x q
  raised x h q le r = let l = r.up_to in record { number = r.number; is = r.is; up_to = omega (arith, l, le) }

  -- a variable in an argument, where those of the argument are known
  in_argument : (x : Variable) (i : ℕ) (f : OpId) (ks : List ℕ) → IsOver t.nodes i f ks → ((k : ℕ) → Contains ks k → Occurs x (term_at t.nodes k) → UpTo x (height k)) → Occurs x (term_at t.nodes i) →
      (k : ℕ) × (Contains ks k × UpTo x (height k))
  in_argument x i f ks over known o =
      let among = among_mapped (term_at t.nodes) x ks (subst (Occurs x) (term_at-over t.nodes g.made.ordered i f ks over) o) in
      (among.0, (among.1.0, known among.0 among.1.0 among.1.1))

  pub deep : (n i : ℕ) → i < n → i < length t.nodes → (x : Variable) → Occurs x (term_at t.nodes i) → UpTo x (height i)
  deep zero i h l x o = absurd (omega (arith, h))
  deep (suc n) i h l x o = let r = node_at t.nodes i l in go r.node r.is (λ k below within p. deep n k (omega (arith, below, h)) within x p)
    where
      go : (node : Node) → slice_get t.nodes i ≡ Some node → ((k : ℕ) → k < i → k < length t.nodes → Occurs x (term_at t.nodes k) → UpTo x (height k)) → UpTo x (height i)
      go (Var y) is before =
          let same : x ≡ y = subst (Occurs x) (term_at-variable t.nodes i y is) o in
          record { number = i; is = is ∙ ap (λ w. Some (Var w)) (sym same); up_to = omega arith }
      go (App f ks) is before =
          let r = in_argument x i f ks is (λ k c. before k (All-contains (λ k. k < i) ks k (g.made.ordered i f ks is) c) (argument_within g i f ks is k c)) o in
          raised x (height r.0) (height i) (argument_up_to g i f ks is r.0 r.1.0) r.1.1

  -- what heads a class and is not idle is higher than its variables, where it is not at the bottom
  pub below_over : (i : ℕ) (m : IsHeaded d t s g.sorted i) (n : ℕ) → height m.member ≤ n + 1 → (x : Variable) → Occurs x (term_at t.nodes m.member) → UpTo x n
  below_over i m n h x o =
      let r =
      in_argument x m.member m.operator m.arguments m.over
      (λ k c. deep (k + 1) k (omega arith) (argument_within g m.member m.operator m.arguments m.over k c) x) o
      in
      raised x (height r.0) n (argument_at g i m r.0 r.1.0 n h) r.1.1

  -- a variable in the term of a node is one of the problem
  pub node_variables : (i : ℕ) → i < length t.nodes → (x : Variable) → Occurs x (term_at t.nodes i) → Contains (variables_of problem) x
  node_variables i l x o = let r = deep (i + 1) i (omega arith) l x o in node_variable g.made g.table r.number x r.is
