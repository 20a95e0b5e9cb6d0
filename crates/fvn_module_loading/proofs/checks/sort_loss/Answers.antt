-- What the module keeps of its equations.
use Rattle.fvn_module_loading.proofs.checks.sort_loss.Goals as goal

pub sort_loss-requires : goal.sort_loss-requires
sort_loss-requires c = rw (c.signature.ensures, c.equations.ensures) c.recall_readable.ensures.equations

pub returns : goal.returns
returns c = rw (c.signature.ensures, c.equations.ensures) at c.in_ok-loss.ensures
