-- What is left to prove.
use Rattle.fvn_module.proofs.Texts.{numbered, signed-fault, signed-readable}
use Rattle.fvn_module.proofs.reading.read_signed.Goals as goal

pub read_equations-requires-clause-numbered : goal.read_equations-requires-clause-numbered
read_equations-requires-clause-numbered c = numbered c.args.form.now c.args.signed c.requires.signed

pub invariant_of-result : goal.invariant_of-result
invariant_of-result c =
    signed-readable c.args.form.now c.requires.writable c.args.signed c.requires.signed c.recall_completed.ensures c.in-Ok.equations
    (rw c.as_slice.ensures at c.in-Ok.ensures.ok)

pub returns-in-Err-clause-err : goal.returns-in-Err-clause-err
returns-in-Err-clause-err c = signed-fault c.args.form.now c.args.signed c.requires.signed c.in-Err.fault (rw c.as_slice.ensures at c.in-Err.ensures.err)
