-- A question, or nearly a leaf.
use Rattle.fvn_combine_questions.proofs.AskedOfLeaves.{reading_whole, swap_question, first_asked}
use Rattle.fvn_combine_questions.proofs.asking.first_question.Goals as goal

pub identity_question-requires-clause-reading : goal.identity_question-requires-clause-reading
identity_question-requires-clause-reading c = reading_whole c.args.sig.now c.args.table.now c.recall_well_made.ensures c.args.state.now c.requires.closed c.args.reading.now c.requires.reading

pub returns-in-Some : goal.returns-in-Some
returns-in-Some c = swap_question c.args.sig.now c.args.table.now c.recall_well_made.ensures c.args.state.now c.requires.closed c.in-Some.pair c.in-Some.ensures

pub returns-in-None : goal.returns-in-None
returns-in-None c =
    first_asked c.args.sig.now c.args.table.now c.recall_well_made.ensures c.args.state.now c.requires.closed c.args.reading.now c.requires.reading c.in-None.ensures c.identity_question.result c.identity_question.ensures
