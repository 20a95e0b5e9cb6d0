-- What is found is what the search gives.
use Rattle.std.proofs.Common.{refl, sym, ap, ◌∙◌, subst, Err, Some}
use Rattle.std.proofs.lemmas.Result.{err_from_is_err_and}
use Rattle.fvn_combine.specs.Advancing.{IsAdvanced}
use Rattle.fvn_combine.specs.inner.Found.{IsFound}
use Rattle.fvn_combine.specs.inner.Parts.{search_by}
use Rattle.fvn_combine.proofs.Coarser.{finer_at}
use Rattle.fvn_combine.proofs.Ends.{end_told}
use Rattle.fvn_combine.proofs.combiner.next_of_parts.Goals as goal

pub returns-in_err-next_unifier-clause-advanced : goal.returns-in_err-next_unifier-clause-advanced
returns-in_err-next_unifier-clause-advanced c =
    let k = c.args.task.now in
    let p = err_from_is_err_and c.from_residual.result c.from_residual.ensures.1 in
    subst (IsAdvanced (search_by k c.args.tree.now c.args.leaf.now c.args.ended.now) (search_by k c.next_unifier.new.tree c.next_unifier.new.leaf c.args.ended.now)) (sym (p.1 ∙ ap Err p.2)) (refl, c.in_err-next_unifier.ensures.found)

pub returns-in_err-end-in-Ends-clause-advanced : goal.returns-in_err-end-in-Ends-clause-advanced
returns-in_err-end-in-Ends-clause-advanced c =
    let k = c.args.task.now in
    let p = err_from_is_err_and c.from_residual-in_err-end-in-Ends.result c.from_residual-in_err-end-in-Ends.ensures.1 in
    let h = subst (IsFound k c.args.tree.now c.args.leaf.now c.next_unifier.new.tree c.next_unifier.new.leaf) c.in-Ends.is c.in_ok-next_unifier.ensures.found in
    subst (IsAdvanced (search_by k c.args.tree.now c.args.leaf.now c.args.ended.now) (search_by k c.next_unifier.new.tree c.next_unifier.new.leaf c.args.ended.now)) (sym (p.1 ∙ ap Err p.2)) (refl, h.3)

pub returns-in-Nothing-clause-advanced : goal.returns-in-Nothing-clause-advanced
returns-in-Nothing-clause-advanced c =
    let h = subst (IsFound c.args.task.now c.args.tree.now c.args.leaf.now c.next_unifier.new.tree c.next_unifier.new.leaf) c.in-Nothing.is c.in_ok-next_unifier.ensures.found in
    record { none = h.0; none_after = λ u m. h.0 u ((h.1 u).1 m); running = c.requires.running }

pub returns-in-Given-clause-advanced : goal.returns-in-Given-clause-advanced
returns-in-Given-clause-advanced c =
    let h = subst (IsFound c.args.task.now c.args.tree.now c.args.leaf.now c.next_unifier.new.tree c.next_unifier.new.leaf) c.in-Given.is c.in_ok-next_unifier.ensures.found in
    record { given = h.0; covers = h.1; running = c.requires.running }

pub returns-in_ok-end-in-Ends-clause-advanced : goal.returns-in_ok-end-in-Ends-clause-advanced
returns-in_ok-end-in-Ends-clause-advanced c =
    let k = c.args.task.now in
    let before = search_by k c.args.tree.now c.args.leaf.now c.args.ended.now in
    let after = search_by k c.next_unifier.new.tree c.next_unifier.new.leaf (Some c.in-Ends.cause) in
    let h = subst (IsFound k c.args.tree.now c.args.leaf.now c.next_unifier.new.tree c.next_unifier.new.leaf) c.in-Ends.is c.in_ok-next_unifier.ensures.found in
    let finer =
    finer_at c.node_partitions_are_partitions.ensures c.node_systems_are_sum_systems.ensures c.unifiers_partition.ensures k c.requires.search.combining c.next_unifier.new.tree c.next_unifier.ensures.closed c.next_unifier.new.leaf c.in-Ends.cause h.0 h.1 h.2 in
    subst (λ end. IsAdvanced before after (Err end)) (sym c.in_ok-end-in-Ends.ensures) (end_told before after c.in-Ends.cause h.0 h.1 h.2 finer refl h.3)
