-- One more solution that is taken.
use Rattle.std.proofs.Common.{◌≡◌, ◌+◌, ◌≤◌, true, length, refl, sym, ap, ◌∙◌, subst, arith}
use Rattle.std.proofs.lemmas.List.{length-map}
use Rattle.std.proofs.lemmas.List.Elements.{All-contains}
use Rattle.fvn_terms.specs.declared.plain.Var.{Var as Variable}
use Rattle.fvn_lindio.specs.declared.system.Solution.{Solution}
use Rattle.fvn_lindio.specs.Systems.{vectors_of}
use Rattle.fvn_combine_nodes.specs.States.{class_of}
use Rattle.fvn_combine_leaves.specs.Readings.{AreSums}
use Rattle.fvn_combine_admissible.specs.Listed.{tag_in}
use Rattle.fvn_combine_triangular.specs.declared.shares.Share.{Share}
use Rattle.fvn_combine_triangular.specs.inner.Planning.{AreShares}
use Rattle.fvn_combine_triangular.proofs.Standing.{stands, one_share, all_of_shares}
use Rattle.fvn_combine_triangular.proofs.Sharing.{asked_within, item_vector, item_sized, few_taken, variable_for_same, columns_within}
use Rattle.fvn_combine_triangular.proofs.shares.shares_of.Goals as goal
use Rattle.fvn_combine_triangular.proofs.shares.shares_of.Goals.{After-as_slice-solution-items}

few : (c : After-as_slice-solution-items) → length c.as_slice-solution-items.result.now ≤ length c.args.basis.now
few c = few_taken c.args.basis.now c.in_ok-solutions.solutions.items c.as_slice-solution-items.result.now c.args.number c.as_slice-solution-items.ensures.value c.in_ok-solutions.ensures

sums_are : (c : After-as_slice-solution-items) → AreSums c.args.sig.now c.args.table.now (class_of c.args.state.now) c.args.sums.now
sums_are c = All-contains (AreSums c.args.sig.now c.args.table.now (class_of c.args.state.now)) c.args.reading.now.sums c.args.sums.now c.requires.reading.sums c.requires.listed

pub variable_for-variable-requires-clause-columns : goal.variable_for-variable-requires-clause-columns
variable_for-variable-requires-clause-columns c =
    let list = c.as_slice-solution-items.result.now in
    asked_within c.in_ok-asked.ensures c.as_slice.result.now c.as_slice-in-loop-solution.result.now c.as_slice-parts.result.now c.solution-item.result.parts c.as_slice.ensures c.as_slice-in-loop-solution.ensures c.as_slice-parts.ensures
    (item_sized c.args.sums.now.columns c.args.basis.now c.in_ok-solutions.solutions.items list c.args.number c.as_slice-solution-items.ensures.value c.in_ok-solutions.ensures c.requires.sized c.loop-solution.solution-index c.solution-item.result c.loop-solution-test.true c.solution-item.is)

pub variable_for-variable-requires-clause-names : goal.variable_for-variable-requires-clause-names
variable_for-variable-requires-clause-names c =
    let at = (goal.at.variable_for-variable-requires-clause-names c).After-as_slice-solution-items in
    columns_within c.recall_well_made.ensures c.requires.closed c.args.sums.now (sums_are at) c.args.names.now c.requires.names c.as_slice-in-loop-solution.result.now c.as_slice-in-loop-solution.ensures

pub overflow_add-next : goal.overflow_add-next
overflow_add-next c =
    let at = (goal.at.overflow_add-next c).After-as_slice-solution-items in
    let next = c.loop-solution.invariant.next in
    let below = c.loop-solution-test.true in
    let most = few at in
    let limit = c.requires.few in
    let room = c.requires.room in
    omega (arith, next, below, most, limit, room)

pub loop-solution-preserved : goal.loop-solution-preserved
loop-solution-preserved c =
    let i = c.loop-solution.solution-index in
    let list = c.as_slice-solution-items.result.now in
    let sums = c.args.sums.now in
    let names = c.args.names.now in
    let fresh : Variable = record { name = c.loop-solution.next; sort = c.operator_kind-kind.result; fresh = true } in
    let share : Share = record { solution = c.from_vec.result; variable = c.variable_for-variable.result } in
    let copied : c.as_slice-parts.result.now ≡ c.from_vec.result = sym (c.from_vec.ensures ∙ c.in_ok-copy.ensures.items) in
    let l = c.loop-solution-test.true in
    let m = length-map list (λ (v : Solution). v.parts) in
    record {
      next = let n = c.loop-solution.invariant.next in omega (arith, n);
      shares = λ are.
          one_share c.args.sig.now c.args.table.now (class_of c.args.state.now) (tag_in c.args.tags.now) sums are names c.args.start (vectors_of list) i c.loop-solution.shares.items c.push.new.self.items share (omega (arith, l, m))
          (item_vector list i c.solution-item.result l c.solution-item.is c.from_vec.result (sym copied ∙ c.as_slice-parts.ensures))
          (stands c.args.sig.now c.args.table.now (class_of c.args.state.now) (tag_in c.args.tags.now) sums are names c.in_ok-asked.asked.constants c.in_ok-asked.asked.may_be_zero c.in_ok-asked.ensures (c.args.start + i) share fresh
          (variable_for_same c.as_slice.result.now c.in_ok-asked.asked.constants c.as_slice-in-loop-solution.result.now sums.columns c.as_slice-parts.result.now c.from_vec.result names fresh c.variable_for-variable.result c.as_slice.ensures c.as_slice-in-loop-solution.ensures copied c.variable_for-variable.ensures)
          (record { fresh = refl; is = c.loop-solution.invariant.next; sort = c.operator_kind-kind.ensures }))
          c.in_ok-push.ensures.items (c.loop-solution.invariant.shares are);
    }

pub returns : goal.returns
returns c =
    let at = (goal.at.returns c).After-as_slice-solution-items in
    let list = c.as_slice-solution-items.result.now in
    let l = c.loop-solution-test.false in
    let m = length-map list (λ (v : Solution). v.parts) in
    subst (λ vs. AreShares c.args.sig.now c.args.table.now (class_of c.args.state.now) (tag_in c.args.tags.now) c.args.sums.now c.args.names.now c.args.start vs c.loop-solution.shares.items) (ap vectors_of c.as_slice-solution-items.ensures.value ∙ c.in_ok-solutions.ensures)
    (all_of_shares c.args.sig.now c.args.table.now (class_of c.args.state.now) (tag_in c.args.tags.now) c.args.sums.now (sums_are at) c.args.names.now c.args.start (vectors_of list) c.loop-solution.solution-index c.loop-solution.shares.items (omega (arith, l, m)) (c.loop-solution.invariant.shares (sums_are at)))
