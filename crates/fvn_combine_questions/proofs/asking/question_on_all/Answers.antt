-- A question, or a leaf.
use Rattle.fvn_combine_questions.proofs.AskedOfLeaves.{reading_whole, asked_on_all}
use Rattle.fvn_combine_questions.proofs.asking.question_on_all.Goals as goal

pub constants_question-requires-clause-reading : goal.constants_question-requires-clause-reading
constants_question-requires-clause-reading c = reading_whole c.args.sig.now c.args.table.now c.recall_well_made.ensures c.args.state.now c.requires.near.closed c.args.reading.now c.requires.reading

pub returns : goal.returns
returns c = asked_on_all c.args.sig.now c.args.table.now c.recall_well_made.ensures c.args.state.now c.requires.near.closed c.args.reading.now c.requires.reading c.requires.near c.constants_question.result c.constants_question.ensures
