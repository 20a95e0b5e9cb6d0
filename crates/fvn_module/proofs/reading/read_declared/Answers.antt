-- What is left to prove.
use Rattle.fvn_module.proofs.Texts.{signing-fault}
use Rattle.fvn_module.proofs.reading.read_declared.Goals as goal

pub returns-in-Err-clause-err : goal.returns-in-Err-clause-err
returns-in-Err-clause-err c = signing-fault c.args.form.now c.in-Err.fault c.in-Err.ensures.err
