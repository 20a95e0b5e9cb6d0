-- What is told of each node, or of one before it.
use Rattle.std.proofs.Common.{◌<◌, length, inl, inr, sym, subst}
use Rattle.fvn_combine_inferring.specs.Inferred.{IsInferred}
use Rattle.fvn_combine_inferring.proofs.idle.each_idle.Goals as goal

pub loop-i-init : goal.loop-i-init
loop-i-init c = record { told = tt; equal = c.requires.equal }

pub idle_at-told-requires-clause-within : goal.idle_at-told-requires-clause-within
idle_at-told-requires-clause-within c = subst (λ ns. c.loop-i.i < length ns) c.nodes-i-end.ensures c.loop-i-test.true

pub note_met-requires : goal.note_met-requires
note_met-requires c = record { equal = c.loop-i.invariant.equal; told = c.idle_at-told.ensures }

pub loop-i-preserved : goal.loop-i-preserved
loop-i-preserved c =
    let told = IsInferred c.args.sig.now c.args.table.now c.args.state.now c.args.sorted in
    record {
      told = elim c.or_told-said.ensures [
        | inl e ↦ subst told (sym e) c.loop-i.invariant.told
        | inr e ↦ subst told (sym e) c.idle_at-told.ensures
      ];
      equal = c.in_ok-note_met.ensures;
    }
