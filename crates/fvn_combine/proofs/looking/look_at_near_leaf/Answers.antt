-- A state whose classes have two kinds admits no unifier.
use Rattle.std.proofs.Common.{sym, ◌∙◌}
use Rattle.std.proofs.lemmas.Bool.{false≢true}
use Rattle.fvn_flat.specs.Solving.{problem_of}
use Rattle.fvn_combine.proofs.looking.look_at_near_leaf.Goals as goal

pub returns-then-not-are_of_one_kind : goal.returns-then-not-are_of_one_kind
returns-then-not-are_of_one_kind c = λ u h.
    let k = c.args.task.now in
    let is = c.recall.ensures in
    false≢true (sym c.if-not-are_of_one_kind.true ∙ c.are_of_one_kind.ensures.1
    (c.classes_have_one_kind.ensures k.declarations is.good.fits (problem_of k.given) is.is_given.kinds k.table is.well_made is.table_of u h.0.unifies c.args.state.now c.requires.near.closed h.1))

pub look_at_bases-requires-clause-kinds : goal.look_at_bases-requires-clause-kinds
look_at_bases-requires-clause-kinds c = c.are_of_one_kind.ensures.0 c.if-not-are_of_one_kind.false

pub look_at_systems-requires-clause-kinds : goal.look_at_systems-requires-clause-kinds
look_at_systems-requires-clause-kinds c = c.are_of_one_kind.ensures.0 c.if-not-are_of_one_kind.false
