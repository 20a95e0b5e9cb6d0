-- What is told, or what was asked before.
use Rattle.std.proofs.Common.{◌<◌, length, inl, inr, sym, subst}
use Rattle.fvn_combine_inferring.specs.Inferred.{IsInferred}
use Rattle.fvn_combine_inferring.proofs.inferring.infer_of.Goals as goal

pub addition_of-requires-clause-heads : goal.addition_of-requires-clause-heads
addition_of-requires-clause-heads c = c.requires.heads.as_many

pub loop-i-init : goal.loop-i-init
loop-i-init c = record { told = tt; pairs = c.in_ok-idle.ensures.pairs }

pub infer_at-requires-clause-pairs : goal.infer_at-requires-clause-pairs
infer_at-requires-clause-pairs c = c.loop-i.invariant.pairs

pub infer_at-requires-clause-within : goal.infer_at-requires-clause-within
infer_at-requires-clause-within c = subst (λ ns. c.loop-i.i < length ns) c.nodes-i-end.ensures c.loop-i-test.true

pub loop-i-preserved : goal.loop-i-preserved
loop-i-preserved c =
    let told = IsInferred c.args.sig.now c.args.table.now c.args.state.now c.args.known.now.sorted in
    record {
      told = elim c.or_told-asked.ensures [
        | inl e ↦ subst told (sym e) c.loop-i.invariant.told
        | inr e ↦ subst told (sym e) c.in_ok-told.ensures.is
      ];
      pairs = c.in_ok-told.ensures.pairs;
    }
