-- Past the last column there is nothing.
use Rattle.std.proofs.Common.{length, sym, arith}
use Rattle.std.proofs.lemmas.Bool.{true≢false}
use Rattle.std.proofs.lemmas.List.{get_or_past}
use Rattle.fvn_acunify.proofs.ColumnSums.{useful_sum-past}
use Rattle.fvn_acunify.proofs.prefix.is_reached.Goals as goal

pub returns-then-j-sums : goal.returns-then-j-sums
returns-then-j-sums c =
    let here = get_or_past c.args.sums.now c.args.j 0 (omega arith) in
    let rest = useful_sum-past c.args.constants.now (length c.args.sums.now) c.args.j c.args.lower.now c.requires.sized (omega arith) in
    let whole = get_or_past c.args.changed.now c.args.j 1 (omega arith) in
    (λ e. absurd (true≢false (sym e)), λ h. absurd (let some = h (omega (arith, whole)) in omega (arith, here, rest, some)))
