-- The arguments of a node are nodes.
use Rattle.std.proofs.Common.{◌<◌, length, sym, ap, ◌∙◌, subst, All, Some}
use Rattle.std.specs.Prelude.{IfSome}
use Rattle.fvn_combine_nodes.proofs.Nodes.{arguments_within}
use Rattle.fvn_combine_systems.proofs.Members.{pair_within}
use Rattle.fvn_combine_reading.proofs.sums.addends.Goals as goal

pub returns-then-eq-clause-within : goal.returns-then-eq-clause-within
returns-then-eq-clause-within c =
    let nodes = c.args.table.now.nodes in
    let within = arguments_within nodes c.recall_well_made.ensures.ordered c.args.i c.in-App.g c.in-App.ks (c.node.ensures ∙ ap Some c.in-App.is) in
    subst (λ o. IfSome o (λ p. (p.0 < length nodes) × (p.1 < length nodes))) (sym c.pair.ensures)
    (pair_within (length nodes) c.as_slice.result.now (subst (All (λ k. k < length nodes)) (sym c.as_slice.ensures) within))
