-- What the module keeps of its equations.
use Rattle.fvn_module_loading.proofs.checks.left_collapses.Goals as goal

pub left_collapses-requires-clause-readable : goal.left_collapses-requires-clause-readable
left_collapses-requires-clause-readable c = rw (c.signature.ensures, c.equations.ensures) c.recall_readable.ensures.equations

pub returns : goal.returns
returns c = rw (c.signature.ensures, c.equations.ensures) at c.in_ok-collapse.ensures

pub left_collapses-requires-clause-number : goal.left_collapses-requires-clause-number
left_collapses-requires-clause-number c = rw c.equations.ensures c.requires
