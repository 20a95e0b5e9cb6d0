-- The equations are those of the module.
use Rattle.fvn_module_loading.proofs.checks.instances_fit.Goals as goal

pub instances_fit-requires : goal.instances_fit-requires
instances_fit-requires c = rw c.equations.ensures c.requires

pub returns : goal.returns
returns c = rw (c.signature.ensures, c.equations.ensures) at c.in_ok-fit.ensures
