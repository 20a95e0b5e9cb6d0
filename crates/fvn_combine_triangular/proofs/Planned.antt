-- What callers know of planned bindings, and of the variables of a table.
use Rattle.std.proofs.Common.{ℕ, List, subst, All, Contains}
use Rattle.std.specs.Prelude.{◌↔◌}
use Rattle.std.proofs.lemmas.List.Elements.{All-weaker}
use Rattle.std.proofs.lemmas.Option.{slice_get_within}
use Rattle.fvn_terms.specs.declared.plain.Var.{Var as Variable}
use Rattle.fvn_terms.specs.declared.declarations.Declarations.{Declarations}
use Rattle.fvn_terms.specs.Signature.{IsSort, HasKind}
use Rattle.fvn_forms.specs.Flat.{FlatTerm}
use Rattle.fvn_forms.specs.Good.{IsGood}
use Rattle.fvn_forms.specs.Settled.{Settled}
use Rattle.fvn_flat.specs.Bindings.{Bindings}
use Rattle.fvn_flat.specs.Problems.{variables_of}
use Rattle.fvn_flat.specs.Solving.{problem_of}
use Rattle.fvn_flat.specs.SolvedLists.{IsTriangular}
use Rattle.fvn_flat.specs.declared.solver.Pairs.{Pairs}
use Rattle.fvn_combine_nodes.specs.Table.{NodeTable, IsWellMade}
use Rattle.fvn_combine_nodes.specs.States.{class_of}
use Rattle.fvn_combine_nodes.specs.declared.state.State.{State}
use Rattle.fvn_combine_nodes.specs.declared.table.Node.TheVariants.{Var}
use Rattle.fvn_combine_nodes.proofs.Nodes.{term_at-variable}
use Rattle.fvn_combine_choices.specs.Choosing.{Systems, Choice, AreSystems, IsPossible}
use Rattle.fvn_combine_choices.specs.Laws.{IsPlanned}
use Rattle.fvn_combine_nodes.proofs.Subterms.{node_kinded}
use Rattle.fvn_combine_unfolding.specs.Sizes.{IsFitting}
use Rattle.fvn_combine_triangular.specs.Ready.{IsReady, AreVariablesOf, ArePlanned}
use Rattle.fvn_combine_nodes.proofs.NodesOf.{node_variable, variable_place}
use Rattle.fvn_combine_nodes.proofs.Lists.{all_from}

module _ {d : Declarations} {given : Pairs} {first : ℕ} {t : NodeTable} {s : State} {y : Systems} {c : Choice} {bindings : Bindings} where
  -- they are a plan's, so that the laws of plans hold of them
  pub planned : IsGood d → IsWellMade t → IsReady d given first t s → AreSystems d t (class_of s) y → IsPossible d t (class_of s) y c → (p : ArePlanned d given first t s y c bindings) → IsPlanned d given first t s y c p.next p.plan bindings
  planned good made ready systems possible p = record {
    good = good;
    is_given = ready.is_given;
    well_made = made;
    table = ready.table;
    closed = ready.closed;
    partition = ready.partition;
    kinds = ready.kinds;
    systems = systems;
    possible = possible;
    plan_by = p.plan_by;
    bindings_by = p.bindings_by;
  }

  pub planned_settled : ArePlanned d given first t s y c bindings → All (λ b. Settled d b.1) bindings
  planned_settled p = All-weaker (IsFitting d) (λ (b : Variable × FlatTerm). Settled d b.1) (λ b h. h.flat) bindings p.fitting

  pub planned_triangular : ArePlanned d given first t s y c bindings → IsTriangular bindings
  planned_triangular p = p.bindings_by.triangular

module _ {d : Declarations} {given : Pairs} {first : ℕ} {t : NodeTable} {s : State} (good : IsGood d) (made : IsWellMade t) (ready : IsReady d given first t s) {vars : List Variable} (are : AreVariablesOf t vars) where
  -- the variables of the table are those of the problem
  pub variables_exact : (x : Variable) → Contains vars x ↔ Contains (variables_of (problem_of given)) x
  variables_exact x = (
    λ m. let p = (are.exact x).0 m in node_variable made ready.table p.0 x p.1,
    λ m. let p = variable_place made ready.table x m in (are.exact x).1 (p.0, p.2),
  )

  pub variables_sorted : All (λ x. IsSort d x.sort) vars
  variables_sorted = all_from (λ (x : Variable). IsSort d x.sort) vars (λ x m.
      let p = (are.exact x).0 m in
      let r = node_kinded d good.fits (problem_of given) ready.is_given.kinds t ready.table p.0 (slice_get_within t.nodes p.0 (Var x) p.1) in
      (subst (λ u. HasKind d u r.0) (term_at-variable t.nodes p.0 x p.1) r.1).0)
