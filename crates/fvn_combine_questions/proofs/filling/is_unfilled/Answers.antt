-- A column of the reading is a class of the state.
use Rattle.fvn_combine_questions.proofs.AskedOfLeaves.{reading_whole, all_wide}
use Rattle.fvn_combine_questions.proofs.Unfilled.{unfilled_from}
use Rattle.fvn_combine_questions.proofs.filling.is_unfilled.Goals as goal

pub has_unfilled-requires-clause-reading : goal.has_unfilled-requires-clause-reading
has_unfilled-requires-clause-reading c = reading_whole c.args.sig.now c.args.table.now c.recall_well_made.ensures c.args.state.now c.requires.closed c.args.reading.now c.requires.reading

pub has_unfilled-requires-clause-wide : goal.has_unfilled-requires-clause-wide
has_unfilled-requires-clause-wide c = all_wide c.args.sig.now c.args.table.now c.recall_well_made.ensures c.args.state.now c.requires.closed c.args.reading.now c.requires.reading c.args.heads.now c.args.bases.now c.requires.bases

pub returns : goal.returns
returns c = λ is. unfilled_from c.args.sig.now c.args.table.now c.recall_well_made.ensures c.args.state.now c.requires.closed c.args.reading.now c.requires.reading c.args.heads.now c.args.bases.now c.requires.alive (c.has_unfilled.ensures is)
