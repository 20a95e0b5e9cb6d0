-- One more column.
use Rattle.std.proofs.Common.{◌+◌, sym, ◌∙◌, subst, arith}
use Rattle.std.proofs.lemmas.Bool.{false≢true}
use Rattle.fvn_combine_admissible.specs.inner.Reads.{AreConstantsBelow}
use Rattle.fvn_combine_admissible.proofs.Demands.{no_constants, one_constant, no_constant, all_constants}
use Rattle.fvn_combine_admissible.proofs.asking.constants_of.Goals as goal

pub loop-j-init : goal.loop-j-init
loop-j-init c = subst (AreConstantsBelow c.args.reading.now c.args.tags.now c.args.sums.now 0) (sym c.new-constants.ensures.items) (no_constants c.args.reading.now c.args.tags.now c.args.sums.now)

pub loop-j-preserved-then-not-is_constant_at : goal.loop-j-preserved-then-not-is_constant_at
loop-j-preserved-then-not-is_constant_at c =
    no_constant c.args.reading.now c.args.tags.now c.args.sums.now c.loop-j.j c.loop-j.constants.items c.loop-j.invariant
    (λ h. false≢true (sym c.if-not-is_constant_at.true ∙ c.is_constant_at.ensures.1 h))

pub loop-j-preserved : goal.loop-j-preserved
loop-j-preserved c =
    subst (AreConstantsBelow c.args.reading.now c.args.tags.now c.args.sums.now (c.loop-j.j + 1)) (sym c.in_ok-push.ensures.items)
    (one_constant c.args.reading.now c.args.tags.now c.args.sums.now c.loop-j.j c.loop-j.constants.items c.loop-j.invariant (c.is_constant_at.ensures.0 c.if-not-is_constant_at.false))

pub returns : goal.returns
returns c = all_constants c.args.reading.now c.args.tags.now c.args.sums.now c.loop-j.j c.loop-j.constants.items (omega arith) (omega arith) c.loop-j.invariant
