-- The bindings that the choice makes.
use Rattle.std.proofs.Common.{◌≡◌, ◌++◌, ◌<◌, List, length, map, slice_index_or, sym, ◌∙◌, subst, All}
use Rattle.fvn_terms.specs.declared.plain.Var.{Var as Variable}
use Rattle.fvn_combine_nodes.specs.States.{class_of}
use Rattle.fvn_combine_unfolding.specs.Sizes.{IsFitting}
use Rattle.fvn_combine_triangular.specs.declared.binders.Binder.TheVariants.{Nothing}
use Rattle.fvn_combine_triangular.specs.inner.Ordering.{IsOrderOf}
use Rattle.fvn_combine_triangular.specs.inner.Planning.{plan_of, AreKinded, AreApart, AreClassesBelow, AreVariablesBelow}
use Rattle.fvn_combine_triangular.proofs.Made.{IsLeafWithChoice, IsMade, are_sized, are_kinded, are_apart, classes_within}
use Rattle.fvn_combine_triangular.proofs.Parts.{makes}
use Rattle.fvn_combine_triangular.proofs.PlanBy.{next_of, next_bounded, plan_by}
use Rattle.fvn_combine_triangular.proofs.BindingsBy.{bindings_by}
use Rattle.fvn_combine_triangular.proofs.Fitted.{fitting}
use Rattle.fvn_combine_triangular.proofs.NoOrder.{no_rank}
use Rattle.fvn_combine_triangular.proofs.choice.bindings.Goals as goal
use Rattle.fvn_combine_triangular.proofs.choice.bindings.Goals.{After-node_partitions_are_partitions, In_ok-shares, In_ok-classes}

leaf : (c : After-node_partitions_are_partitions) → IsLeafWithChoice c.args.sig.now c.args.problem.now c.args.first c.args.table.now c.args.state.now c.args.reading.now c.args.bases.now c.args.tags.now c.args.numbers.now
leaf c = record {
  good = c.recall_good.ensures;
  made = c.recall_well_made.ensures;
  ready = c.requires.ready;
  reading = c.requires.reading;
  listed = c.requires.listed;
  systems = c.requires.systems;
  possible = c.requires.possible;
  partitions = c.node_partitions_are_partitions.ensures c.args.sig.now c.args.problem.now.pairs c.requires.ready.is_given.fit c.args.table.now c.recall_well_made.ensures c.requires.ready.table;
}

made : (c : In_ok-shares) → IsLeafWithChoice c.args.sig.now c.args.problem.now c.args.first c.args.table.now c.args.state.now c.args.reading.now c.args.bases.now c.args.tags.now c.args.numbers.now
    → IsMade c.args.sig.now c.args.problem.now c.args.first c.args.table.now c.args.state.now c.args.reading.now c.args.bases.now c.args.tags.now c.args.numbers.now c.in_ok-names.names.items c.in_ok-binders.binders.items (map (λ w. w.items) c.in_ok-shares.shares.items)
made c so = record {
  leaf = so;
  names_are = c.in_ok-names.ensures;
  binders_are = c.in_ok-binders.ensures;
  shares_are = rw (c.as_slice.ensures.value, c.nodes.ensures) at c.in_ok-shares.ensures;
}

classes_are : (c : In_ok-classes) → AreClassesBelow c.args.sig.now c.args.table.now (class_of c.args.state.now) c.in_ok-names.names.items c.args.reading.now.sums (map (λ w. w.items) c.in_ok-shares.shares.items) c.in_ok-binders.binders.items (length c.args.table.now.nodes) c.in_ok-classes.classes.items
classes_are c = rw (c.as_slice-2.ensures.value, c.as_slice-3.ensures.value, c.as_slice-4.ensures.value) at c.in_ok-classes.ensures

pub all_shares-requires-clause-sized : goal.all_shares-requires-clause-sized
all_shares-requires-clause-sized c = are_sized (leaf (goal.at.all_shares-requires-clause-sized c).After-node_partitions_are_partitions)

pub class_bindings-requires-clause-kinded : goal.class_bindings-requires-clause-kinded
class_bindings-requires-clause-kinded c =
    subst (AreKinded c.args.sig.now c.args.table.now (class_of c.args.state.now)) (sym c.as_slice-2.ensures.value) (are_kinded (leaf (goal.at.class_bindings-requires-clause-kinded c).After-node_partitions_are_partitions) c.in_ok-names.ensures)

pub class_bindings-requires-clause-apart : goal.class_bindings-requires-clause-apart
class_bindings-requires-clause-apart c = subst AreApart (sym c.as_slice-2.ensures.value) (are_apart (leaf (goal.at.class_bindings-requires-clause-apart c).After-node_partitions_are_partitions) c.in_ok-names.ensures)

pub class_bindings-requires-clause-making : goal.class_bindings-requires-clause-making
class_bindings-requires-clause-making c = λ k l own.
    let at = goal.at.class_bindings-requires-clause-making c in
    let m = made at.In_ok-shares (leaf at.After-node_partitions_are_partitions) in
    rw (c.as_slice-2.ensures.value, c.as_slice-3.ensures.value, c.as_slice-4.ensures.value) (makes m k (slice_index_or c.in_ok-binders.binders.items k Nothing) (m.binders_are.each k l))

pub returns-in-None-clause-none : goal.returns-in-None-clause-none
returns-in-None-clause-none c =
    let at = goal.at.returns-in-None-clause-none c in
    no_rank (made at.In_ok-shares (leaf at.After-node_partitions_are_partitions)) c.in_ok-classes.classes.items (classes_are at.In_ok-classes) (rw c.in-None.is at c.in_ok-in_order.ensures)

pub variable_bindings-requires-clause-named : goal.variable_bindings-requires-clause-named
variable_bindings-requires-clause-named c =
    let at = goal.at.variable_bindings-requires-clause-named c in
    subst (λ (l : List Variable). All (λ k. k < length l) c.args.state.now.names) (sym c.as_slice-in-Some.ensures.value)
    (classes_within (leaf at.After-node_partitions_are_partitions) c.in_ok-names.names.items c.in_ok-names.ensures.as_many)

pub returns-clause-planned : goal.returns-clause-planned
returns-clause-planned c =
    let at = goal.at.returns-clause-planned c in
    let m = made at.In_ok-shares (leaf at.After-node_partitions_are_partitions) in
    let vars = c.in_ok-all-in-Some.all.items in
    let classes = c.in_ok-classes.classes.items in
    let placed = c.in-Some.ordered.items in
    let variables_are : AreVariablesBelow c.args.table.now (class_of c.args.state.now) c.in_ok-names.names.items (length c.args.table.now.nodes) vars = rw c.as_slice-in-Some.ensures.value at c.in_ok-all-in-Some.ensures in
    let order : IsOrderOf classes placed = rw c.in-Some.is at c.in_ok-in_order.ensures in
    let total : c.from_vec.result ≡ vars ++ placed = c.from_vec.ensures ∙ c.in_ok-append-in-Some.ensures.items in
    record {
      plan = plan_of c.args.table.now c.args.reading.now c.in_ok-names.names.items c.in_ok-binders.binders.items (map (λ w. w.items) c.in_ok-shares.shares.items);
      next = next_of c.args.table.now c.args.reading.now c.args.first;
      bounded = next_bounded m;
      plan_by = plan_by m;
      bindings_by = rw total (bindings_by m vars classes placed variables_are (classes_are at.In_ok-classes) order);
      fitting = subst (All (IsFitting c.args.sig.now)) (sym total) (fitting m vars classes placed variables_are (classes_are at.In_ok-classes) order);
    }
