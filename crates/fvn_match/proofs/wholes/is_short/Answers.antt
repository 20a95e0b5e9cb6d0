-- too few pieces
use Rattle.std.proofs.Common.{length, sym, arith}
use Rattle.std.proofs.lemmas.Bool.{ltb-true}
use Rattle.fvn_match.proofs.Runs.{length_references}
use Rattle.fvn_match.proofs.wholes.is_short.Goals as goal

pub total-requires : goal.total-requires
total-requires c = c.requires.small

pub returns-in-None : goal.returns-in-None
returns-in-None c = λ yes.
    let few = ltb-true c.total.result (length c.args.goal.now.patterns.now) yes in
    let all = c.total.ensures in
    let long = length_references c.args.goal.now.patterns.now in
    (sym c.in-None.ensures, omega (arith, few, all, long))
