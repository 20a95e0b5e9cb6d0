-- The form that is bound, or the variable itself.
use Rattle.fvn_rewrite.specs.Usable.{equations_by}
use Rattle.fvn_flat.proofs.Composing.{bound_fits}
use Rattle.fvn_narrow_children.proofs.ValueFacts.{bound_reducible_as, unbound_irreducible}
use Rattle.fvn_narrow_children.proofs.values.is_reducible.Goals as goal

pub steps_on-requires : goal.steps_on-requires
steps_on-requires c = bound_fits c.args.rewriter.now.signature c.args.s.now c.args.x c.in-Some.t.now c.requires.values c.requires.sort (rw c.in-Some.is at c.get.ensures)

pub returns-in_ok-is-in-Some : goal.returns-in_ok-is-in-Some
returns-in_ok-is-in-Some c =
    let r = c.args.rewriter.now in
    bound_reducible_as r.signature (equations_by r) c.args.s.now c.args.x c.in-Some.t.now c.in_ok-is-in-Some.is' (rw c.in-Some.is at c.get.ensures) c.in_ok-is-in-Some.ensures

pub returns-in-None : goal.returns-in-None
returns-in-None c =
    let r = c.args.rewriter.now in
    unbound_irreducible r.signature (equations_by r)
    (c.rules_are_coherent.ensures r.signature c.recall.ensures.good c.recall.ensures.completed (equations_by r) c.recall.ensures.usable.admissible)
    c.args.s.now c.args.x c.requires.sort (rw c.in-None.is at c.get.ensures)
