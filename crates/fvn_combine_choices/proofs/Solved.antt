-- The bindings of a plan are a solved list.
use Rattle.std.proofs.Common.{◌≢◌, ℕ, sym, ap, ◌∙◌, subst, Contains}
use Rattle.std.proofs.lemmas.Option.{slice_get_within}
use Rattle.fvn_terms.specs.declared.declarations.Declarations.{Declarations}
use Rattle.fvn_terms.specs.Term.{var}
use Rattle.fvn_forms.specs.Flat.{fvar}
use Rattle.fvn_flat.specs.Bindings.{Bindings}
use Rattle.fvn_flat.specs.Problems.{variables_of}
use Rattle.fvn_flat.specs.Solving.{problem_of}
use Rattle.fvn_flat.specs.SolvedLists.{Plan, unfolded}
use Rattle.fvn_flat.specs.declared.solver.Pairs.{Pairs}
use Rattle.fvn_combine_nodes.specs.Table.{NodeTable}
use Rattle.fvn_combine_nodes.specs.Laws.{class_at}
use Rattle.fvn_combine_nodes.specs.States.{class_of}
use Rattle.fvn_combine_nodes.specs.declared.state.State.{State}
use Rattle.fvn_combine_nodes.specs.declared.table.Node.TheVariants.{Var as Variable}
use Rattle.fvn_combine_nodes.proofs.Nodes.{term_at-variable}
use Rattle.fvn_combine_nodes.proofs.NodesOf.{own_class, node_variable}
use Rattle.fvn_combine_supports.specs.Laws.{CombinationsSolve}
use Rattle.fvn_combine_systems.specs.Values.{Gives}
use Rattle.fvn_combine_systems.specs.Laws.{NodeSystemsAreSumSystems, CountsSolve, ValuesUnify}
use Rattle.fvn_combine_choices.specs.Choosing.{Systems, Choice}
use Rattle.fvn_combine_choices.specs.Laws.{IsPlanned, PlannedBindingsAreSolved}
use Rattle.fvn_combine_choices.proofs.Triangular.{unfolding_bound}
use Rattle.fvn_combine_choices.proofs.Places.{heads_sum}
use Rattle.fvn_combine_choices.proofs.Planned.{class_within, class_below, name_not_given}
use Rattle.fvn_combine_choices.proofs.Standing.{rests_on, parts_apart, forms_are, names_are}
use Rattle.fvn_combine_choices.proofs.Kinding.{bindings_keep}
use Rattle.fvn_combine_choices.proofs.Values.{value, are_values}

module _ {d : Declarations} {given : Pairs} {first : ℕ} {t : NodeTable} {s : State} {y : Systems} {c : Choice} {next : ℕ} {plan : Plan} {bindings : Bindings} (h : IsPlanned d given first t s y c next plan bindings) where
  -- a variable of the problem unfolds to the value of its class
  pub gives : Gives d t (class_of s) (value h) (unfolded bindings)
  gives i x e =
      let within = slice_get_within t.nodes i (Variable x) e in
      let m = node_variable h.well_made h.table i x e in
      let own = ap (class_at t (class_of s)) (sym (term_at-variable t.nodes i x e)) ∙ own_class h.well_made h.table (class_of s) i within in
      let named = fvar (plan.name (class_at t (class_of s) (var x))) in
      let other : plan.name (class_at t (class_of s) (var x)) ≢ x = λ same. name_not_given h (class_of s i) (class_within h i within) (subst (Contains (variables_of (problem_of given))) (sym same ∙ ap plan.name own) m) in
      unfolding_bound d bindings h.bindings_by.triangular (x, named) (h.bindings_by.variables x m other) ∙ ap (value h) own

pub planned_bindings_are_solved : NodeSystemsAreSumSystems → CountsSolve → CombinationsSolve → ValuesUnify → PlannedBindingsAreSolved
planned_bindings_are_solved systems solve combine unify = λ d given first t s y c next plan bindings h. record {
  names = names_are h;
  own = λ k is m. absurd (name_not_given h k (class_below h k is) m);
  forms = forms_are h;
  sums = λ f heads assoc. (y.system f, rests_on h f (heads_sum h.well_made h.table f assoc heads) systems);
  apart = parts_apart h;
  classes = h.bindings_by.classes;
  variables = h.bindings_by.variables;
  no_other = h.bindings_by.no_other;
  triangular = h.bindings_by.triangular;
  unifies = unify d h.good.fits (problem_of given) h.is_given.kinds t h.well_made h.table (class_of s) h.partition.sides (value h) (are_values h solve combine) (unfolded bindings) (bindings_keep h) (gives h);
}
