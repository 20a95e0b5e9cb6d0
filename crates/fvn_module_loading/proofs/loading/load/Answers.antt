-- What follows from what was read and judged.
use Rattle.fvn_module_loading.proofs.Loaded.{judged_ok, judged_alone, judged_fault, judged_none, not_read, read_fault}
use Rattle.fvn_module_loading.proofs.loading.load.Goals as goal

pub returns-in-Ok-clause-ok : goal.returns-in-Ok-clause-ok
returns-in-Ok-clause-ok c = judged_ok c.args.bytes.now c.in-Ok.declared c.in-Ok.ensures.ok c.judged.result c.judged.ensures.ok

pub returns-in-Ok-clause-only : goal.returns-in-Ok-clause-only
returns-in-Ok-clause-only c = judged_alone c.args.bytes.now c.in-Ok.declared c.in-Ok.ensures.only c.judged.result c.judged.ensures.ok

pub returns-in-Ok-clause-err : goal.returns-in-Ok-clause-err
returns-in-Ok-clause-err c = judged_fault c.args.bytes.now c.in-Ok.declared c.in-Ok.ensures.ok c.judged.result c.judged.ensures.err

pub returns-in-Ok-clause-none : goal.returns-in-Ok-clause-none
returns-in-Ok-clause-none c = judged_none c.args.bytes.now c.in-Ok.declared c.in-Ok.ensures.only c.judged.result c.judged.ensures.err

pub returns-in-Err-clause-err : goal.returns-in-Err-clause-err
returns-in-Err-clause-err c = read_fault c.args.bytes.now c.in-Err.fault c.in-Err.ensures.err

pub returns-in-Err-clause-none : goal.returns-in-Err-clause-none
returns-in-Err-clause-none c = not_read c.args.bytes.now c.in-Err.fault c.in-Err.ensures.none
