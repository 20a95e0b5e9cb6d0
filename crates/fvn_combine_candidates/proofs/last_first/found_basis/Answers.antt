-- What is alive by the heads that are read, or all.
use Rattle.std.proofs.Common.{ℕ, ◌<◌, length, sym, subst, All, Some}
use Rattle.fvn_combine_nodes.proofs.Lists.{all_from}
use Rattle.fvn_combine_nodes.specs.States.{class_of}
use Rattle.fvn_combine_leaves.proofs.ReadOfState.{column_within}
use Rattle.fvn_combine_candidates.proofs.Living.{whole_alive_where, by_heads_alive}
use Rattle.fvn_combine_candidates.proofs.last_first.found_basis.Goals as goal
use Rattle.fvn_combine_candidates.proofs.last_first.found_basis.Goals.{After-recall_well_made}

-- the class of each column is a node
within : (c : After-recall_well_made) → All (λ k. k < length c.args.table.now.nodes) c.args.sums.now.columns
within c =
    let e = c.args.sums.now in
    all_from (λ k. k < length c.args.table.now.nodes) e.columns
    (λ k m. column_within c.args.sig.now c.args.table.now c.recall_well_made.ensures c.args.state.now c.requires.closed e.operator k ((c.requires.sums.is_system.exact k).0 m))

pub alive_basis-requires-clause-within : goal.alive_basis-requires-clause-within
alive_basis-requires-clause-within c =
    subst (λ n. All (λ k. k < n) c.args.sums.now.columns) (sym c.requires.closed.whole) (within (goal.at.alive_basis-requires-clause-within c).After-recall_well_made)

pub alive_basis-requires-clause-wide : goal.alive_basis-requires-clause-wide
alive_basis-requires-clause-wide c = c.requires.sums.is_system.wide

pub returns-in-Some : goal.returns-in-Some
returns-in-Some c = whole_alive_where c.args.sig.now c.args.table.now c.args.state.now c.args.sums.now c.requires.associative c.requires.sums (Some c.in-Some.whole) (rw c.in-Some.is at c.in_ok-whole.ensures)

pub returns-in-Some-2 : goal.returns-in-Some-2
returns-in-Some-2 c =
    by_heads_alive c.args.sig.now c.args.table.now c.args.state.now c.args.sums.now c.requires.associative c.requires.sums c.args.reading.now.heads c.requires.heads
    (within (goal.at.returns-in-Some-2 c).After-recall_well_made) c.in-Some-2.basis (rw (c.in-Some-2.is, c.as_slice.ensures) at c.in_ok-basis.ensures)

pub returns : goal.returns
returns c = whole_alive_where c.args.sig.now c.args.table.now c.args.state.now c.args.sums.now c.requires.associative c.requires.sums c.in_ok-found.found c.in_ok-found.ensures
