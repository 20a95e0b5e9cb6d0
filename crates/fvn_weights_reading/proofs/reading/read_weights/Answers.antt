-- Facts of what is read.
use Rattle.std.proofs.lemmas.Result.{IfOk-weaker, IfErr-weaker}
use Rattle.fvn_weights.specs.Weighing.{AreWeightsOf}
use Rattle.fvn_weights_reading.specs.Reading.{IsWeights, IsOnlyWeights, RefusesWeights, HasNoWeights}
use Rattle.fvn_weights_reading.proofs.Texts.{determined, refuted, all-weights}
use Rattle.fvn_weights_reading.proofs.reading.read_weights.Goals as goal

pub returns-clause-only : goal.returns-clause-only
returns-clause-only c =
    IfOk-weaker c.weights_in.result (IsWeights c.args.signature.now c.args.names.now c.args.bytes.now) (IsOnlyWeights c.args.signature.now c.args.names.now c.args.bytes.now)
    (determined c.args.signature.now c.args.names.now c.args.bytes.now) c.weights_in.ensures.ok

pub returns-clause-all : goal.returns-clause-all
returns-clause-all c =
    IfOk-weaker c.weights_in.result (IsWeights c.args.signature.now c.args.names.now c.args.bytes.now) (λ ws. AreWeightsOf c.args.signature.now ws.list)
    (all-weights c.args.signature.now c.args.names.now c.args.bytes.now) c.weights_in.ensures.ok

pub returns-clause-none : goal.returns-clause-none
returns-clause-none c =
    IfErr-weaker c.weights_in.result (RefusesWeights c.args.signature.now c.args.names.now c.args.bytes.now) (HasNoWeights c.args.signature.now c.args.names.now c.args.bytes.now)
    (refuted c.args.signature.now c.args.names.now c.args.bytes.now) c.weights_in.ensures.err
