-- What the module keeps of its equations.
use Rattle.fvn_module_loading.proofs.checks.first_left_fault.Goals as goal

pub first_left_fault-requires : goal.first_left_fault-requires
first_left_fault-requires c = rw (c.signature.ensures, c.equations.ensures) c.recall_readable.ensures.equations

pub returns : goal.returns
returns c = rw (c.signature.ensures, c.equations.ensures) at c.in_ok-fault.ensures
