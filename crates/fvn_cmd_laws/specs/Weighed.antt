-- What an answer to `terminates` promises, in words over its status.
use Rattle.std.specs.Prelude.{◌≡◌, ◌↔◌}
use Rattle.fvn_module.specs.Contents.{Contents}
use Rattle.fvn_weights.specs.declared.weights.Weights.{Weights}
use Rattle.fvn_cmd.specs.declared.status.Status.{Status}
use Rattle.fvn_cmd.specs.declared.status.Status.TheVariants.{Solved}
use Rattle.fvn_cmd_terminates.specs.Weighings.{AreWeighedBy, AreTerminatingIn}

-- What a status tells of weights: it is Solved exactly where under them all operators fit and all equations fall; and then
-- the equations terminate.
pub record IsWeighingExact (m : Contents) (w : Weights) (status : Status) : Type 0 where
  pub solved : status ≡ Solved ↔ AreWeighedBy m w
  pub terminating : status ≡ Solved → AreTerminatingIn m
