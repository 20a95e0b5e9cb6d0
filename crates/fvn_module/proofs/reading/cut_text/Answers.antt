-- What is left to prove.
use Rattle.fvn_module.proofs.Texts.{cut-fault}
use Rattle.fvn_module.proofs.reading.cut_text.Goals as goal

pub returns-in-Err-clause-err : goal.returns-in-Err-clause-err
returns-in-Err-clause-err c = rw c.cut_fault.ensures (cut-fault c.args.bytes.now c.in-Err.fault c.in-Err.ensures.err)
