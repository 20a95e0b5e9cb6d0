-- the marks that the variant is kept with
use Rattle.fvn_cover.specs.inner.Profiled.{IsMarked}
use Rattle.fvn_cover.proofs.keeping.Kept.own_marks.Goals as goal

pub returns : goal.returns
returns c =
    let are : IsMarked c.args.self.now c.self.inside.marks = rw c.self.view_is at c.self.invariant.2 in
    are
