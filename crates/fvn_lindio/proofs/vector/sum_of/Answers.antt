-- One component more.
use Rattle.std.proofs.Common.{ap, ◌∙◌, arith, ◌++◌, ◌∷◌, [], ◌+◌, get_or, sym}
use Rattle.fvn_lindio.proofs.VectorLemmas.{add-take_more}
use Rattle.fvn_lindio.proofs.vector.sum_of.Goals as goal

pub loop-i-preserved : goal.loop-i-preserved
loop-i-preserved c =
    let x = c.args.x.now in
    let y = c.args.y.now in
    let i = c.loop-i.i in
    c.in_ok-push.ensures.ok ∙ (ap (λ z. z ++ ((get_or x i 0 + get_or y i 0) ∷ [])) c.loop-i.invariant ∙ sym (add-take_more x y i (omega arith) (omega arith)))
