-- What is promised may be kept.
use Rattle.fvn_remembering.proofs.keeping.offered.Goals as goal

pub set_written-requires : goal.set_written-requires
set_written-requires g c = (c.requires.rule _ c.args.answer).1 c.requires.kept
