-- How it is told what weights show of the equations of a module, and with which status.
use Rattle.std.specs.Prelude.{◌≡◌, List, ℕ, Option, Some, None}
use Rattle.fvn_terms.specs.Rewriting.{IsTerminating}
use Rattle.fvn_theory.specs.Equations.{equations_of}
use Rattle.fvn_module.specs.Contents.{Contents}
use Rattle.fvn_weights.specs.declared.weights.Weights.{Weights}
use Rattle.fvn_weights.specs.declared.fault.WeighFault.{WeighFault}
use Rattle.fvn_weights.specs.Weighing.{linear, AreWeighed, IsWeighFault}
use Rattle.fvn_cmd_texts.specs.Weighings.{weighing_text}
use Rattle.fvn_cmd.specs.declared.status.Status.{Status}
use Rattle.fvn_cmd.specs.declared.status.Status.TheVariants.{Solved, Nothing}
use Rattle.fvn_cmd.specs.Texts.{line}

-- the status that goes with what was found: no fault, or a first one
abbrev pub status_of_weighing : Option WeighFault → Status
status_of_weighing None = Solved
status_of_weighing (Some fault) = Nothing

-- the equations of the module terminate
abbrev pub AreTerminatingIn : Contents → Type 0
AreTerminatingIn m = IsTerminating m.signature (equations_of m.equations)

module _ (m : Contents) where
  -- under the weights all operators fit and all equations fall
  abbrev pub AreWeighedBy : Weights → Type 0
  AreWeighedBy w = AreWeighed m.signature m.equations (linear w.list)

  -- the weights have no fault, and so the equations terminate; or this is the first fault
  abbrev pub IsWeighed : Weights → Option WeighFault → Type 0
  IsWeighed w None = AreWeighedBy w × AreTerminatingIn m
  IsWeighed w (Some fault) = IsWeighFault m.signature m.equations (linear w.list) fault

  -- the line of what was found
  pub record IsWeighingLine (found : Option WeighFault) (text : List ℕ) : Type 0 where
    pub words : List ℕ
    pub told : weighing_text m.names found ≡ Some words
    pub text_is : text ≡ line words

  -- this status and this text tell what the weights show
  pub record TellsWeighing (w : Weights) (status : Status) (text : List ℕ) : Type 0 where
    pub found : Option WeighFault
    pub right : IsWeighed w found
    pub status_is : status ≡ status_of_weighing found
    pub shown : IsWeighingLine found text
