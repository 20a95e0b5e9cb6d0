-- The substitution that gives the problem's variables their new values, and the instances that it makes of nodes.
use Rattle.std.proofs.Common.{◌≡◌, ℕ, zero, suc, ◌+◌, ◌<◌, List, length, map, refl, ap, ◌∙◌, sym, subst, inl, inr, arith, All, Contains, Some, slice_get}
use Rattle.std.proofs.lemmas.Bool.{cases_lt}
use Rattle.std.proofs.lemmas.Option.{slice_get_within}
use Rattle.std.proofs.lemmas.List.Elements.{All-contains, All-map}
use Rattle.fvn_base.specs.Decided.{Decided}
use Rattle.fvn_terms.specs.declared.plain.Var.{Var as Variable}
use Rattle.fvn_terms.specs.declared.plain.OpId.{OpId}
use Rattle.fvn_terms.specs.declared.declarations.Declarations.{Declarations}
use Rattle.fvn_terms.specs.Term.{Term, app, pack}
use Rattle.fvn_terms.specs.Substitution.{Substitution, apply}
use Rattle.fvn_terms.specs.Signature.{kind, HasKind, KeepsKinds}
use Rattle.fvn_terms.specs.Equality.{BEqual}
use Rattle.fvn_terms.specs.Unifiers.{Problem}
use Rattle.fvn_terms.proofs.Equal.{BEqual-sym, BEqual-trans, BEqual-inside}
use Rattle.fvn_flat.specs.Problems.{variables_of}
use Rattle.fvn_flat.specs.SolvedLists.{IsKindUnifier}
use Rattle.fvn_combine_nodes.specs.Table.{NodeTable, IsOver, term_at}
use Rattle.fvn_combine_nodes.specs.States.{class_of}
use Rattle.fvn_combine_nodes.specs.declared.state.State.{State}
use Rattle.fvn_combine_nodes.specs.declared.table.Node.{Node}
use Rattle.fvn_combine_nodes.specs.declared.table.Node.TheVariants.{Var, App}
use Rattle.fvn_combine_nodes.proofs.Nodes.{node_at, term_at-variable, term_at-over, term_at-injective}
use Rattle.fvn_combine_nodes.proofs.NodesOf.{variable_place, node_variable}
use Rattle.fvn_combine_loose.specs.Loose.{height_of}
use Rattle.fvn_combine_loose.proofs.Decisions.{listed_or_not}
use Rattle.fvn_combine_loose.proofs.Mapped.{equal_is, apply_mapped, each_equal}
use Rattle.fvn_combine_loose.proofs.Setting.{Setting, noted, entry, argument_within, argument_up_to}
use Rattle.fvn_combine_loose.proofs.Remade.{remade, remade_same, remade_low, remade_over}
use Rattle.fvn_combine_loose.proofs.After.{remade_kinded}
use Rattle.fvn_combine_loose.proofs.Idle.{idle_value}
use Rattle.fvn_combine_loose.proofs.Exchanged.{over_sum}

module _ {d : Declarations} {problem : Problem} {t : NodeTable} {s : State} {z : ℕ} {heights : List ℕ} {u : Substitution} (g : Setting d problem t s z heights u) where
  abbrev height : ℕ → ℕ
  height = height_of s heights

  abbrev loosened_at : (x : Variable) → Decided (Contains (variables_of problem) x) → Term
  loosened_at x (inl c) = remade g (variable_place g.made g.table x c).0
  loosened_at x (inr n) = u x

  -- a variable of the problem goes to its node's new value, each other to what it went to
  pub loosened : Substitution
  loosened x = loosened_at x (listed_or_not (variables_of problem) x)

  pub loosened_given : (x : Variable) → Contains (variables_of problem) x → (i : ℕ) × (i < length t.nodes) × (slice_get t.nodes i ≡ Some (Var x)) × (loosened x ≡ remade g i)
  unfolding loosened
  loosened_given x c = go (listed_or_not (variables_of problem) x)
    where
      go : (o : Decided (Contains (variables_of problem) x)) → (i : ℕ) × (i < length t.nodes) × (slice_get t.nodes i ≡ Some (Var x)) × (loosened_at x o ≡ remade g i)
      go (inl k) = let p = variable_place g.made g.table x k in (p.0, p.1, p.2, refl)
      go (inr n) = absurd (n c)

  pub loosened_other : (x : Variable) → (Contains (variables_of problem) x → ⊥) → loosened x ≡ u x
  unfolding loosened
  loosened_other x n = go (listed_or_not (variables_of problem) x)
    where
      go : (o : Decided (Contains (variables_of problem) x)) → loosened_at x o ≡ u x
      go (inl k) = absurd (n k)
      go (inr m) = refl

  pub loosened_node : (i : ℕ) (x : Variable) → slice_get t.nodes i ≡ Some (Var x) → loosened x ≡ remade g i
  loosened_node i x is =
      let r = loosened_given x (node_variable g.made g.table i x is) in
      let one : r.0 ≡ i = term_at-injective t.nodes g.made.distinct r.0 i r.1 (slice_get_within t.nodes i (Var x) is) (term_at-variable t.nodes r.0 x r.2 ∙ sym (term_at-variable t.nodes i x is)) in
      r.3 ∙ ap (remade g) one

  -- where it does not stand in the whole, the loose class stands in no argument
  low_argument : (i : ℕ) (f : OpId) (ks : List ℕ) → IsOver t.nodes i f ks → height i ≡ 0 → (k : ℕ) → Contains ks k → height k ≡ 0
  low_argument i f ks over low k c = let l = argument_up_to g i f ks over k c in omega (arith, l, low)

  over_remade : (i : ℕ) (f : OpId) (ks : List ℕ) → IsOver t.nodes i f ks → i < length t.nodes → BEqual d (app f (pack (map (remade g) ks))) (remade g i)
  over_remade i f ks over l = elim (cases_lt 0 (height i)) as (λ _. BEqual d (app f (pack (map (remade g) ks))) (remade g i)) [
    | inl st ↦ elim (noted (entry g i)) as (λ _. BEqual d (app f (pack (map (remade g) ks))) (remade g i)) [
      | inl none ↦ elim (remade_over g i f ks over l st none) as (λ _. BEqual d (app f (pack (map (remade g) ks))) (remade g i)) [
        | inl idle ↦ idle_value g i f ks over l idle
        | inr e ↦ BEqual-sym d e
      ]
      | inr w ↦ elim (g.loose.bearing i f ks w.0 w.1 over w.2) as (λ _. BEqual d (app f (pack (map (remade g) ks))) (remade g i)) [
        | inl idle ↦ idle_value g i f ks over l idle
        | inr b ↦ subst (λ o. BEqual d (app o (pack (map (remade g) ks))) (remade g i)) (sym b.0) (over_sum g i w.0 ks w.1 (subst (λ o. IsOver t.nodes i o ks) b.0 over) l w.2 b.1)
      ]
    ]
    | inr le ↦
        let low : height i ≡ 0 = omega (arith, le) in
        let args = each_equal d (remade g) (λ k. apply u (term_at t.nodes k)) ks
        (λ k c. BEqual-sym d (remade_low g k (argument_within g i f ks over k c) (low_argument i f ks over low k c)))
        in
        let old : apply u (term_at t.nodes i) ≡ app f (pack (map (λ k. apply u (term_at t.nodes k)) ks)) =
        ap (apply u) (term_at-over t.nodes g.made.ordered i f ks over) ∙ ap (app f) (apply_mapped (term_at t.nodes) u ks)
        in
        BEqual-trans d (BEqual-inside d f args) (BEqual-trans d (equal_is d (sym old)) (remade_low g i l low))
  ]

  -- the instance of a node is its new value
  pub loosened_term : (n i : ℕ) → i < n → i < length t.nodes → BEqual d (apply loosened (term_at t.nodes i)) (remade g i)
  loosened_term zero i h l = absurd (omega (arith, h))
  loosened_term (suc n) i h l = let r = node_at t.nodes i l in go r.node r.is (λ k below within. loosened_term n k (omega (arith, below, h)) within)
    where
      go : (node : Node) → slice_get t.nodes i ≡ Some node → ((k : ℕ) → k < i → k < length t.nodes → BEqual d (apply loosened (term_at t.nodes k)) (remade g k)) → BEqual d (apply loosened (term_at t.nodes i)) (remade g i)
      go (Var x) is before = equal_is d (ap (apply loosened) (term_at-variable t.nodes i x is) ∙ loosened_node i x is)
      go (App f ks) is before =
          let args = each_equal d (λ k. apply loosened (term_at t.nodes k)) (remade g) ks
          (λ k c. before k (All-contains (λ k. k < i) ks k (g.made.ordered i f ks is) c) (argument_within g i f ks is k c))
          in
          let e : apply loosened (term_at t.nodes i) ≡ app f (pack (map (λ k. apply loosened (term_at t.nodes k)) ks)) =
          ap (apply loosened) (term_at-over t.nodes g.made.ordered i f ks is) ∙ ap (app f) (apply_mapped (term_at t.nodes) loosened ks)
          in
          BEqual-trans d (equal_is d e) (BEqual-trans d (BEqual-inside d f args) (over_remade i f ks is l))

  pub node_value : (i : ℕ) → i < length t.nodes → BEqual d (apply loosened (term_at t.nodes i)) (remade g i)
  node_value i l = loosened_term (i + 1) i (omega arith) l

  -- nodes of one class have equal instances
  pub together_value : (i j : ℕ) → i < length t.nodes → j < length t.nodes → class_of s i ≡ class_of s j → BEqual d (apply loosened (term_at t.nodes i)) (apply loosened (term_at t.nodes j))
  together_value i j l m e = BEqual-trans d (node_value i l) (BEqual-trans d (equal_is d (remade_same g i j e)) (BEqual-sym d (node_value j m)))

  pub loosened_keeps : KeepsKinds d loosened
  loosened_keeps x i = elim (listed_or_not (variables_of problem) x) as (λ _. HasKind d (loosened x) (kind d x.sort)) [
    | inl c ↦
        let r = loosened_given x c in
        let h : HasKind d (term_at t.nodes r.0) (kind d x.sort) = subst (λ v. HasKind d v (kind d x.sort)) (sym (term_at-variable t.nodes r.0 x r.2)) (i, refl) in
        subst (λ v. HasKind d v (kind d x.sort)) (sym r.3) (remade_kinded g r.0 (kind d x.sort) r.1 h)
    | inr n ↦ subst (λ v. HasKind d v (kind d x.sort)) (sym (loosened_other x n)) (g.unifier.0 x i)
  ]

  pub loosened_unifies : IsKindUnifier d problem loosened
  loosened_unifies =
      let T : ℕ × ℕ → Term × Term = λ p. (term_at t.nodes p.0, term_at t.nodes p.1) in
      let P = λ (p : Term × Term). BEqual d (apply loosened p.0) (apply loosened p.1) in
      let each : All P (map T t.sides) = All-map P T t.sides (λ k e l. let w = g.made.sides k e l in together_value _ _ w.0 w.1 (g.closed.partition.sides k e l)) in
      (loosened_keeps, subst (All P) g.table.sides each)
