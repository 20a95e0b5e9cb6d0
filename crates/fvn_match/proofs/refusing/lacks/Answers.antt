-- Fewer pieces of the sort than patterns.
use Rattle.std.proofs.Common.{arith}
use Rattle.std.proofs.lemmas.Bool.{ltb-true}
use Rattle.fvn_match.proofs.Hopeless.{lacking_hopeless}
use Rattle.fvn_match.proofs.refusing.lacks.Goals as goal

pub returns : goal.returns
returns c = λ yes.
    let few = ltb-true c.low_pieces-have.result c.low_patterns-need.result yes in
    lacking_hopeless c.args.sig.now c.args.goal.now c.requires c.recall_good.ensures c.args.s (c.keeps_low-keeps.ensures c.if-not-keeps.false) (c.has_no_identity-lasting.ensures c.if-not-lasting.false)
    (omega (arith, few, c.low_pieces-have.ensures, c.low_patterns-need.ensures))
