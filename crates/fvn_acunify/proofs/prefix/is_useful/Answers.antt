-- The part counts where the solution has at most one constant, and that once.
use Rattle.std.proofs.Common.{arith}
use Rattle.fvn_acunify.proofs.ColumnSums.{useful_part-le, useful_part-iff}
use Rattle.fvn_acunify.proofs.prefix.is_useful.Goals as goal

pub returns-then-part-eq0 : goal.returns-then-part-eq0
returns-then-part-eq0 c =
    let small = useful_part-le c.args.constants.now c.args.j c.args.parts.now in
    (λ e. cc, λ h. absurd (omega (arith, small, h, c.if-part-eq0.true)))

pub returns : goal.returns
returns c = useful_part-iff c.args.constants.now c.args.j c.args.parts.now _ c.if-part-eq0.false c.uses_two.ensures
