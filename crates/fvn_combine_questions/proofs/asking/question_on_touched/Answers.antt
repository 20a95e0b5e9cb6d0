-- A question, or a leaf.
use Rattle.fvn_combine_questions.proofs.AskedOfLeaves.{reading_whole, all_wide, asked_on_touched}
use Rattle.fvn_combine_questions.proofs.asking.question_on_touched.Goals as goal

pub touched_question-requires-clause-reading : goal.touched_question-requires-clause-reading
touched_question-requires-clause-reading c = reading_whole c.args.sig.now c.args.table.now c.recall_well_made.ensures c.args.state.now c.requires.near.closed c.args.reading.now c.requires.reading

pub touched_question-requires-clause-wide : goal.touched_question-requires-clause-wide
touched_question-requires-clause-wide c = all_wide c.args.sig.now c.args.table.now c.recall_well_made.ensures c.args.state.now c.requires.near.closed c.args.reading.now c.requires.reading c.args.heads.now c.args.bases.now c.requires.bases

pub returns : goal.returns
returns c = asked_on_touched c.args.sig.now c.args.table.now c.recall_well_made.ensures c.args.state.now c.requires.near.closed c.args.reading.now c.requires.reading c.args.heads.now c.args.bases.now c.requires.bases c.requires.alive c.requires.near c.touched_question.result c.touched_question.ensures
