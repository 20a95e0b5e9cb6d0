-- What the bindings of a possible choice give.
use Rattle.std.proofs.Common.{◌≡◌, ℕ, ◌<◌, ◌≤◌, List, sym, ap, ◌∙◌, subst, arith, Contains}
use Rattle.std.specs.Prelude.{◌↔◌, Any}
use Rattle.fvn_terms.specs.declared.plain.Var.{Var}
use Rattle.fvn_terms.specs.declared.declarations.Declarations.{Declarations}
use Rattle.fvn_terms.specs.Substitution.{Substitution, apply, Occurs}
use Rattle.fvn_terms.specs.Signature.{AtOrBelow}
use Rattle.fvn_terms.specs.Equality.{BEqual}
use Rattle.fvn_forms.specs.Flat.{plain, symbols}
use Rattle.fvn_forms.specs.Canon.{canon}
use Rattle.fvn_forms.specs.Good.{IsGood}
use Rattle.fvn_forms.specs.LeastSort.{sort_in, least_sort}
use Rattle.fvn_flat.specs.Bindings.{Bindings, value}
use Rattle.fvn_flat.specs.Partitions.{IsPartition}
use Rattle.fvn_flat.specs.Problems.{variables_of}
use Rattle.fvn_flat.specs.Solving.{problem_of, IsTooLarge}
use Rattle.fvn_flat.specs.SolvedLists.{unfolded, IsSolvedBy}
use Rattle.fvn_flat.specs.declared.solver.Pairs.{Pairs}
use Rattle.fvn_combine_nodes.specs.Table.{NodeTable, IsWellMade}
use Rattle.fvn_combine_nodes.specs.Laws.{class_at, NodePartitionsArePartitions}
use Rattle.fvn_combine_nodes.specs.States.{class_of}
use Rattle.fvn_combine_nodes.specs.declared.state.State.{State}
use Rattle.fvn_combine_choices.specs.Choosing.{Systems, Choice, AreSystems, IsPossible}
use Rattle.fvn_combine_choices.specs.Covering.{CoversOnKinds}
use Rattle.fvn_combine_choices.specs.Laws.{IsPlanned, PlannedBindingsAreSolved, PlannedBindingsUnfoldToNew}
use Rattle.fvn_combine_choices.specs.Plans.{unfolds_to}
use Rattle.fvn_combine_candidates.specs.CombineCompleteCoveringChoices.{IsCovering}
use Rattle.fvn_combine_triangular.specs.Ready.{IsReady, ArePlanned, AreVariablesOf}
use Rattle.fvn_combine_triangular.proofs.Planned.{planned as as_planned, variables_exact}
use Rattle.fvn_combine_drawing.specs.OnKinds.{IsNewFrom, IsGivenOnKinds}
use Rattle.fvn_combine_drawing.specs.Drawn.{IsDrawnBy}
use Rattle.fvn_combine_drawing.specs.inner.Unfolded.{IsUnfolded, IsUnfoldedFrom}
use Rattle.fvn_combine_drawing.specs.declared.drawing.Drawn.{Drawn}
use Rattle.fvn_combine_drawing.specs.declared.drawing.Drawn.TheVariants.{Nothing, TooLarge, Unifier}
use Rattle.fvn_combine_drawing.proofs.Agreeing.{agreeing_unifies}

module _ (d : Declarations) (good : IsGood d) (given : Pairs) (first size : ℕ) (t : NodeTable) (made : IsWellMade t) (s : State) (ready : IsReady d given first t s) (y : Systems) (systems : AreSystems d t (class_of s) y) (c : Choice) (possible : IsPossible d t (class_of s) y c) (bindings : Bindings) (planned : ArePlanned d given first t s y c bindings) where
  is_planned : IsPlanned d given first t s y c planned.next planned.plan bindings
  is_planned = as_planned good made ready systems possible planned

  module _ (partitions : NodePartitionsArePartitions) (solve : PlannedBindingsAreSolved) (new : PlannedBindingsUnfoldToNew) (vars : List Var) (are : AreVariablesOf t vars) where
    partition : IsPartition d (problem_of given) (class_at t (class_of s))
    partition = (partitions d given.pairs ready.is_given.fit t made ready.table).of_nodes (class_of s) ready.partition

    solved : IsSolvedBy d (problem_of given) (class_at t (class_of s)) planned.plan bindings
    solved = solve d given first t s y c planned.next planned.plan bindings is_planned

    listed : (x : Var) → Contains vars x ↔ Contains (variables_of (problem_of given)) x
    listed = variables_exact good made ready are

    too_large : Any (λ x. size < symbols (unfolds_to d bindings x)) vars → IsTooLarge d given size bindings
    too_large h = record {
      class = class_at t (class_of s);
      partition = partition;
      solved = (planned.plan, solved);
      variable = h.1;
      listed = (listed h.1).0 (h.0, h.2, h.3);
      large = h.4;
    }

    module _ (g : Bindings) (h : IsUnfolded d bindings vars size g) where
      values : (x : Var) → Contains (variables_of (problem_of given)) x → value g x ≡ unfolds_to d bindings x
      values x m = h.values x ((listed x).1 m)

      is_new : (x z : Var) → Contains (variables_of (problem_of given)) x → Occurs z (plain (value g x)) → IsNewFrom d given first z
      is_new x z m o =
          let n = new d given first t s y c planned.next planned.plan bindings is_planned x z m (subst (λ v. Occurs z (plain v)) (values x m) o) in
          let b = planned.bounded in
          let l = n.2 in
          record { fresh = n.0; above = n.1; below = omega (arith, b, l); sort = n.3; is_kind = n.4 }

      given_on_kinds : IsGivenOnKinds d given first size g
      given_on_kinds = record {
        unifies = agreeing_unifies d (unfolded bindings) g (problem_of given) values good.fits ready.is_given.kinds h.fit solved.unifies;
        binds = λ x. (λ m. (h.binds x).0 ((listed x).1 m), λ b. (listed x).0 ((h.binds x).1 b));
        once = h.once;
        fit = h.fit;
        small = λ x m. subst (λ v. symbols v ≤ size) (sym (values x m)) (h.small x ((listed x).1 m));
        new = is_new;
        unfolded_from = record { class = class_at t (class_of s); partition = partition; list = bindings; solved = (planned.plan, solved); unfolds = values };
      }

      covered : (u : Substitution) → IsCovering d (problem_of given) t s y u c → CoversOnKinds d (variables_of (problem_of given)) (value g) u
      covered u covering =
          let k = covering.covers first planned.next planned.plan ready.is_given.numbers planned.plan_by bindings planned.bindings_by in
          record {
            later = k.later;
            keeps = k.keeps;
            equal = λ x m. subst (λ v. BEqual d (u x) (apply k.later (plain v))) (sym (values x m)) (k.equal x m);
            sorts = λ x m below. subst (λ v. AtOrBelow d (sort_in d (λ z. least_sort d (canon d (k.later z))) v) x.sort) (sym (values x m)) (k.sorts x m below);
          }

    pub drawn : (r : Drawn) → IsUnfoldedFrom d bindings vars size r → IsDrawnBy d given first size t s y c r
    drawn Nothing h = absurd h
    drawn (TooLarge list) h = subst (IsTooLarge d given size) (sym h.0) (too_large h.1)
    drawn (Unifier g) h = (given_on_kinds g h, covered g h)
