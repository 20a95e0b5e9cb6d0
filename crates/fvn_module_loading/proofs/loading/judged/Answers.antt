-- What the first left side at fault says.
use Rattle.std.proofs.Common.{refl, inl, inr}
use Rattle.fvn_module_loading.proofs.Loaded.{no_left, told_left}
use Rattle.fvn_module_loading.proofs.loading.judged.Goals as goal

pub returns-in-Ok-None-clause-ok : goal.returns-in-Ok-None-clause-ok
returns-in-Ok-None-clause-ok c = (refl, no_left c.args.declared _ c.in-Ok-None.field-0-is c.in-Ok-None.ensures)

pub returns-in-Ok-Some-clause-err : goal.returns-in-Ok-Some-clause-err
returns-in-Ok-Some-clause-err c = inr (told_left c.args.declared _ c.in-Ok-Some.left c.in-Ok-Some.field-0-is c.in-Ok-Some.ensures _ c.fault_of_left.ensures)

pub returns-in-Err-clause-err : goal.returns-in-Err-clause-err
returns-in-Err-clause-err c = inl refl
