-- One of the two classes has a summand.
use Rattle.fvn_combine_nodes.specs.States.{class_of}
use Rattle.fvn_combine_inferring.proofs.Values.{split_within}
use Rattle.fvn_combine_inferring.proofs.Added.{first_some, second_some}
use Rattle.fvn_combine_inferring.proofs.summed.adds_summand.Goals as goal

pub has_known_summand-requires-clause-within : goal.has_known_summand-requires-clause-within
has_known_summand-requires-clause-within c =
    (split_within c.args.sig.now c.args.table.now c.args.state.now c.requires.closed c.recall_well_made.ensures c.args.f (class_of c.args.state.now c.args.i) c.in-Some.p c.in-Some.ensures).0

pub has_known_summand-requires-in-Some-clause-within : goal.has_known_summand-requires-in-Some-clause-within
has_known_summand-requires-in-Some-clause-within c =
    (split_within c.args.sig.now c.args.table.now c.args.state.now c.requires.closed c.recall_well_made.ensures c.args.f (class_of c.args.state.now c.args.i) c.in-Some.p c.in-Some.ensures).1

pub returns-then-has_known_summand : goal.returns-then-has_known_summand
returns-then-has_known_summand c t =
    first_some c.args.sig.now c.args.table.now c.recall_well_made.ensures c.requires.sums c.args.state.now c.requires.closed c.args.f c.requires.associative c.args.i c.requires.within c.in-Some.p c.in-Some.ensures c.args.known.now.sorted
    (c.has_known_summand.ensures c.if-has_known_summand.true)

pub returns-else-has_known_summand : goal.returns-else-has_known_summand
returns-else-has_known_summand c t =
    second_some c.args.sig.now c.args.table.now c.recall_well_made.ensures c.requires.sums c.args.state.now c.requires.closed c.args.f c.requires.associative c.args.i c.requires.within c.in-Some.p c.in-Some.ensures c.args.known.now.sorted
    (c.has_known_summand-in-Some.ensures t)
