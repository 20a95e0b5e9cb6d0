-- The minimal solutions go with their systems, none of which is refused.
use Rattle.std.proofs.Common.{List, sym, subst}
use Rattle.fvn_combine_nodes.specs.States.{class_of}
use Rattle.fvn_combine_leaves.specs.declared.reading.Sums.{Sums}
use Rattle.fvn_combine_leaves.specs.Bases.{AreBases}
use Rattle.fvn_combine_candidates.specs.inner.Walking.{AreKeptBases}
use Rattle.fvn_combine_candidates.proofs.Walked.{kept_are_bases, kept_are_alive, kept_are_few, none_refused}
use Rattle.fvn_combine_candidates.proofs.opening.bases.Goals as goal
use Rattle.fvn_combine_candidates.proofs.opening.bases.Goals.{In_ok-all}

kept : (c : In_ok-all) → AreKeptBases c.args.reading.now.sums c.in_ok-all.all.items
kept c = subst (λ (sums : List Sums). AreKeptBases sums c.in_ok-all.all.items) c.as_slice.ensures c.in_ok-all.ensures.exact

pub returns-clause-bases : goal.returns-clause-bases
returns-clause-bases c = kept_are_bases c.args.reading.now.sums c.in_ok-all.all.items (kept (goal.at.returns-clause-bases c).In_ok-all)

pub returns-clause-alive : goal.returns-clause-alive
returns-clause-alive c = kept_are_alive c.args.sig.now c.args.table.now c.args.state.now c.args.reading.now.sums c.in_ok-all.all.items (kept (goal.at.returns-clause-alive c).In_ok-all)

pub returns-clause-systems : goal.returns-clause-systems
returns-clause-systems c =
    c.bases_make_systems.ensures c.args.sig.now c.args.table.now (class_of c.args.state.now) c.args.reading.now c.requires c.in_ok-all.all.items
    (kept_are_bases c.args.reading.now.sums c.in_ok-all.all.items (kept (goal.at.returns-clause-systems c).In_ok-all))

pub returns-clause-as_many : goal.returns-clause-as_many
returns-clause-as_many c = (kept (goal.at.returns-clause-as_many c).In_ok-all).as_many

pub returns-clause-few : goal.returns-clause-few
returns-clause-few c = kept_are_few c.args.reading.now.sums c.in_ok-all.all.items (kept (goal.at.returns-clause-few c).In_ok-all)

pub returns-clause-kept : goal.returns-clause-kept
returns-clause-kept c = none_refused c.args.reading.now.sums c.in_ok-all.all.items (kept (goal.at.returns-clause-kept c).In_ok-all)
