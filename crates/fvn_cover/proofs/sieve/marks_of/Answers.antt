-- the marks of one more
use Rattle.std.proofs.Common.{take, subst}
use Rattle.std.specs.Prelude.{Any}
use Rattle.std.proofs.lemmas.List.{take_all}
use Rattle.fvn_cover.specs.inner.Profiled.{IsMarked}
use Rattle.fvn_cover.specs.inner.Sieved.{HaveMarksIn}
use Rattle.fvn_cover.proofs.Leftovers.{all_more}
use Rattle.fvn_cover.proofs.Sieving.{still_in, now_in}
use Rattle.fvn_cover.proofs.sieve.marks_of.Goals as goal

pub loop-k-preserved : goal.loop-k-preserved
loop-k-preserved c =
    let list = c.args.list.now in
    let i = c.loop-k.k-index in
    let k = c.k-item.result in
    let marks = c.loop-k.all in
    let more = c.in_ok-all.all in
    let m = c.own_marks.result in
    all_more (λ v. Any (IsMarked v) more) list i k c.loop-k-test.true c.k-item.is
    (still_in marks more m c.in_ok-all.ensures (take i list) c.loop-k.invariant) (now_in marks more m c.in_ok-all.ensures k c.own_marks.ensures)

pub returns : goal.returns
returns c = subst (HaveMarksIn c.loop-k.all) (take_all c.loop-k.k-index c.args.list.now c.loop-k-test.false) c.loop-k.invariant
