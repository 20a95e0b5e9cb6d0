-- A choice with an alias covers nothing, nor does one whose classes have no order; the bindings of others give what they unfold to.
use Rattle.std.proofs.Common.{ℕ, sym, ◌∙◌, subst}
use Rattle.std.specs.Prelude.{IfSome, IfNone, Option}
use Rattle.std.proofs.lemmas.Bool.{false≢true}
use Rattle.fvn_flat.specs.declared.solver.SolvedList.{SolvedList}
use Rattle.fvn_combine_nodes.specs.States.{class_of}
use Rattle.fvn_combine_choices.specs.Choosing.{Falls}
use Rattle.fvn_combine_triangular.specs.CombineAdmissibleListed.{systems_of, choice_of}
use Rattle.fvn_combine_triangular.specs.Ready.{ArePlanned}
use Rattle.fvn_combine_triangular.proofs.Planned.{planned, variables_sorted}
use Rattle.fvn_combine_drawing.proofs.Possible.{possible_iff}
use Rattle.fvn_combine_drawing.proofs.Given.{drawn}
use Rattle.fvn_combine_drawing.proofs.drawing.draw.Goals as goal

pub returns-then-not-branch : goal.returns-then-not-branch
returns-then-not-branch c = λ u covering.
    let iff = possible_iff c.listed_choices_are_possible.ensures c.recall_good.ensures c.recall_well_made.ensures c.requires.ready c.requires.reading c.requires.bases c.requires.listed.number_each c.requires.choice in
    false≢true (sym c.if-not-branch.true ∙ c.in_ok-leave_no_alias.ensures.1 (iff.0 (covering.possible, covering.full)))

pub bindings-requires-clause-systems : goal.bindings-requires-clause-systems
bindings-requires-clause-systems c = c.bases_make_systems.ensures c.args.sig.now c.args.table.now (class_of c.args.state.now) c.args.reading.now c.requires.reading c.args.bases.now c.requires.bases

pub bindings-requires-clause-possible : goal.bindings-requires-clause-possible
bindings-requires-clause-possible c =
    ((possible_iff c.listed_choices_are_possible.ensures c.recall_good.ensures c.recall_well_made.ensures c.requires.ready c.requires.reading c.requires.bases c.requires.listed.number_each c.requires.choice).1
    (c.in_ok-leave_no_alias.ensures.0 c.if-not-branch.false)).0

pub unfold_within-requires-clause-add_up : goal.unfold_within-requires-clause-add_up
unfold_within-requires-clause-add_up c =
    let y = systems_of c.args.reading.now c.args.bases.now in
    let k = choice_of c.args.reading.now c.args.tags.now c.args.numbers.now in
    let systems = c.bases_make_systems.ensures c.args.sig.now c.args.table.now (class_of c.args.state.now) c.args.reading.now c.requires.reading c.args.bases.now c.requires.bases in
    let possible = ((possible_iff c.listed_choices_are_possible.ensures c.recall_good.ensures c.recall_well_made.ensures c.requires.ready c.requires.reading c.requires.bases c.requires.listed.number_each c.requires.choice).1 (c.in_ok-leave_no_alias.ensures.0 c.if-not-branch.false)).0 in
    let p = subst (λ (o : Option SolvedList). IfSome o (λ list. ArePlanned c.args.sig.now c.args.problem.now c.args.first c.args.table.now c.args.state.now y k list.bindings)) c.in-Some.is c.in_ok-planned.ensures.planned in
    c.sizes_add_up.ensures c.args.sig.now c.args.problem.now c.args.first c.args.table.now c.args.state.now y k p.next p.plan c.in-Some.list.bindings
    (planned c.recall_good.ensures c.recall_well_made.ensures c.requires.ready systems possible p)

pub unfold_within-requires-clause-sorts : goal.unfold_within-requires-clause-sorts
unfold_within-requires-clause-sorts c = variables_sorted c.recall_good.ensures c.recall_well_made.ensures c.requires.ready c.requires.variables

pub returns-in-None : goal.returns-in-None
returns-in-None c = λ u covering.
    let y = systems_of c.args.reading.now c.args.bases.now in
    let k = choice_of c.args.reading.now c.args.tags.now c.args.numbers.now in
    subst (λ (o : Option SolvedList). IfNone o ((rank : ℕ → ℕ) → Falls c.args.sig.now c.args.table.now (class_of c.args.state.now) y k rank → ⊥)) c.in-None.is c.in_ok-planned.ensures.none
    covering.rank covering.falls

pub returns-in_ok-drawn-in-Some : goal.returns-in_ok-drawn-in-Some
returns-in_ok-drawn-in-Some c =
    let y = systems_of c.args.reading.now c.args.bases.now in
    let k = choice_of c.args.reading.now c.args.tags.now c.args.numbers.now in
    let systems = c.bases_make_systems.ensures c.args.sig.now c.args.table.now (class_of c.args.state.now) c.args.reading.now c.requires.reading c.args.bases.now c.requires.bases in
    let possible = ((possible_iff c.listed_choices_are_possible.ensures c.recall_good.ensures c.recall_well_made.ensures c.requires.ready c.requires.reading c.requires.bases c.requires.listed.number_each c.requires.choice).1 (c.in_ok-leave_no_alias.ensures.0 c.if-not-branch.false)).0 in
    let p = subst (λ (o : Option SolvedList). IfSome o (λ list. ArePlanned c.args.sig.now c.args.problem.now c.args.first c.args.table.now c.args.state.now y k list.bindings)) c.in-Some.is c.in_ok-planned.ensures.planned in
    drawn c.args.sig.now c.recall_good.ensures c.args.problem.now c.args.first c.args.size c.args.table.now c.recall_well_made.ensures c.args.state.now c.requires.ready y systems k possible c.in-Some.list.bindings p
    c.node_partitions_are_partitions.ensures c.planned_bindings_are_solved.ensures c.planned_bindings_unfold_to_new.ensures c.args.variables.now c.requires.variables c.in_ok-drawn-in-Some.drawn c.in_ok-drawn-in-Some.ensures
