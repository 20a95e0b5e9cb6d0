-- What is left to prove.
use Rattle.fvn_module.proofs.Texts.{alone-only}
use Rattle.fvn_module.proofs.reading.read_module.Goals as goal

pub returns-clause-only : goal.returns-clause-only
returns-clause-only c = alone-only c.args.bytes.now c.read_text.result c.read_text.ensures.ok
