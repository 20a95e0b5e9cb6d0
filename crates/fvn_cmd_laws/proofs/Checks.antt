-- What is told of sorts is one thing.
use Rattle.std.proofs.Common.{ap, ◌∙◌}
use Rattle.fvn_module_loading.specs.Laws.{LossesAreDetermined}
use Rattle.fvn_cmd_check.specs.Checks.{told_lines}
use Rattle.fvn_cmd_laws.specs.Laws.{SortsAreToldOnce}

pub told_once : LossesAreDetermined → SortsAreToldOnce
told_once losses m s t x loss k = (x.told.0, x.told.1 ∙ ap (told_lines m) (losses m x.loss loss x.loss_is k))
