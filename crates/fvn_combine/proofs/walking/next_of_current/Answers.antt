-- What is drawn under the current tags is so whatever is noted of classes, and by what is noted at the leaf.
use Rattle.std.proofs.Common.{List, sym, subst}
use Rattle.fvn_lindio.specs.declared.system.Solution.{Solution}
use Rattle.fvn_combine.specs.Leaves.{IsCoveredUnder, IsCoveredByCurrent}
use Rattle.fvn_combine.specs.inner.Found.{IsDrawnFrom}
use Rattle.fvn_combine.proofs.walking.next_of_current.Goals as goal

pub returns-in_ok-drawn-in-Some-clause-drawn : goal.returns-in_ok-drawn-in-Some-clause-drawn
returns-in_ok-drawn-in-Some-clause-drawn c =
    let k = c.args.task.now in
    let s = c.args.state.now in
    let o = c.args.opened.now in
    let new = c.next_of_turning.new.turning in
    let drawn = c.in_ok-drawn-in-Some.drawn in
    subst (λ t. IsDrawnFrom k (IsCoveredByCurrent k s o.reading o.bases o.labels t) (IsCoveredUnder k s o.reading o.bases o.labels new) drawn) (sym c.in-Some.is)
    (subst (λ (b : List (List Solution)). IsDrawnFrom k (IsCoveredUnder k s o.reading b o.labels c.in-Some.turning) (IsCoveredUnder k s o.reading b o.labels new) drawn) c.as_slice.ensures
    (c.in_ok-drawn-in-Some.ensures.drawn o.labels))
