-- One of the two classes is a part.
use Rattle.fvn_combine_nodes.specs.States.{class_of}
use Rattle.fvn_combine_inferring.proofs.Values.{split_within}
use Rattle.fvn_combine_inferring.proofs.Added.{first_part, second_part}
use Rattle.fvn_combine_inferring.proofs.heads.has_part.Goals as goal

pub is_part-requires-clause-part : goal.is_part-requires-clause-part
is_part-requires-clause-part c =
    (split_within c.args.sig.now c.args.table.now c.args.state.now c.requires.closed c.recall_well_made.ensures c.args.addition.now.operator (class_of c.args.state.now c.args.i) c.in-Some.p c.in-Some.ensures).0

pub is_part-requires-in-Some-clause-part : goal.is_part-requires-in-Some-clause-part
is_part-requires-in-Some-clause-part c =
    (split_within c.args.sig.now c.args.table.now c.args.state.now c.requires.closed c.recall_well_made.ensures c.args.addition.now.operator (class_of c.args.state.now c.args.i) c.in-Some.p c.in-Some.ensures).1

pub returns-then-is_part : goal.returns-then-is_part
returns-then-is_part c t =
    first_part c.args.sig.now c.args.table.now c.recall_well_made.ensures c.requires.sums c.args.state.now c.requires.closed c.args.addition.now.operator c.requires.addition.associative c.args.i c.requires.within c.in-Some.p c.in-Some.ensures c.args.known.now.sorted
    (c.is_part.ensures c.if-is_part.true)

pub returns-else-is_part : goal.returns-else-is_part
returns-else-is_part c t =
    second_part c.args.sig.now c.args.table.now c.recall_well_made.ensures c.requires.sums c.args.state.now c.requires.closed c.args.addition.now.operator c.requires.addition.associative c.args.i c.requires.within c.in-Some.p c.in-Some.ensures c.args.known.now.sorted
    (c.is_part-in-Some.ensures t)
