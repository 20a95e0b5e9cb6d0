-- What is left are labels.
use Rattle.fvn_combine_questions.proofs.AskedOfLeaves.{reading_whole, all_wide}
use Rattle.fvn_combine_questions.proofs.Labelled.{labels_are}
use Rattle.fvn_combine_questions.proofs.labels.sieve_labels.Goals as goal

pub sieve-requires-clause-reading : goal.sieve-requires-clause-reading
sieve-requires-clause-reading c = reading_whole c.args.sig.now c.args.table.now c.recall_well_made.ensures c.args.state.now c.requires.closed c.args.reading.now c.requires.reading

pub sieve-requires-clause-wide : goal.sieve-requires-clause-wide
sieve-requires-clause-wide c = all_wide c.args.sig.now c.args.table.now c.recall_well_made.ensures c.args.state.now c.requires.closed c.args.reading.now c.requires.reading c.args.heads.now c.args.bases.now c.requires.bases

pub returns-clause-labels : goal.returns-clause-labels
returns-clause-labels c =
    labels_are c.args.sig.now c.args.table.now c.recall_well_made.ensures c.args.state.now c.requires.closed c.args.reading.now c.requires.reading c.args.bases.now c.requires.bases c.requires.alive
    c.sieve.new.labels.items c.args.heads.now c.args.labels.now.items c.sieve.ensures.kept c.sieve.ensures.within
