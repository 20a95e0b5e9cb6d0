-- What is proved of all texts of weights.
use Rattle.std.specs.Prelude.{◌≡◌}
use Rattle.fvn_terms.specs.declared.declarations.Declarations.{Declarations}
use Rattle.fvn_syntax.specs.declared.names.Names.{Names}
use Rattle.fvn_syntax.specs.Pieces.{Text}
use Rattle.fvn_problems.specs.declared.fault.ProblemFault.{ProblemFault}
use Rattle.fvn_problems.specs.Faults.{AreOneFault}
use Rattle.fvn_weights.specs.declared.weights.Weights.{Weights}
use Rattle.fvn_weights_reading.specs.declared.limits.TheConstants.{NUMBER_DIGITS}
use Rattle.fvn_weights_reading.specs.Reading.{IsWeights, IsOnlyWeights, RefusesWeights, HasNoWeights}

-- A number has nine digits at most.
abbrev pub NumbersHaveNineDigits : Type 0
NumbersHaveNineDigits = NUMBER_DIGITS ≡ 9

-- A text gives one list of weights at most.
abbrev pub WeightsAreDetermined : Type 0
WeightsAreDetermined = (d : Declarations) (names : Names) (bytes : Text) (ws : Weights) → IsWeights d names bytes ws → IsOnlyWeights d names bytes ws

-- But for want of memory, a text has one first fault at most.
abbrev pub WeightFaultsAreDetermined : Type 0
WeightFaultsAreDetermined = (d : Declarations) (names : Names) (bytes : Text) (f g : ProblemFault) →
    RefusesWeights d names bytes f → RefusesWeights d names bytes g → AreOneFault f g

-- But for want of memory, a text that has a first fault gives no weights.
abbrev pub RefusedTextsWeighNothing : Type 0
RefusedTextsWeighNothing = (d : Declarations) (names : Names) (bytes : Text) (fault : ProblemFault) →
    RefusesWeights d names bytes fault → HasNoWeights d names bytes fault
