-- A term that fits can be printed.
use Rattle.fvn_answer.proofs.Printable.{fits-printable}
use Rattle.fvn_answer.proofs.answer.steps_line.Goals as goal

pub numbered_text-requires-clause-printed : goal.numbered_text-requires-clause-printed
numbered_text-requires-clause-printed c = fits-printable c.args.signature.now c.args.t.now c.requires.term
