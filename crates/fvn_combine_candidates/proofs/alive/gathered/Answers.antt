-- The solutions at one more row.
use Rattle.std.proofs.Common.{◌≡◌, List, ◌+◌, length, sym, subst, arith, All}
use Rattle.fvn_lindio.specs.declared.system.Solution.{Solution}
use Rattle.fvn_lindio.specs.declared.system.Row.{Row}
use Rattle.fvn_lindio.specs.Systems.{vectors_of}
use Rattle.fvn_combine_candidates.specs.inner.Placed.{GrowsBy}
use Rattle.fvn_combine_candidates.specs.inner.Alive.{IsMarking, AreZeroAt, AreGathered}
use Rattle.fvn_combine_candidates.proofs.Entries.{of_entry}
use Rattle.fvn_combine_candidates.proofs.Living.{gathered_start, gathered_more, gathered_ordered, gathered_all, zero_sized}
use Rattle.fvn_combine_candidates.proofs.alive.gathered.Goals as goal

pub loop-i-init : goal.loop-i-init
loop-i-init c = subst (AreGathered c.args.system.now c.args.rows.now 0) (sym c.new-list.ensures.items) (gathered_start c.args.system.now c.args.rows.now)

pub basis_at-requires-clause-row : goal.basis_at-requires-clause-row
basis_at-requires-clause-row c =
    of_entry (λ (row : Row). IsMarking c.args.system.now.columns row.coefficients) c.args.rows.now c.loop-i.i c.index-rows-i.result c.loop-i-test.true c.index-rows-i.is c.requires.rows

pub put_all-requires-clause-sized : goal.put_all-requires-clause-sized
put_all-requires-clause-sized c =
    subst (λ (xs : List Solution). All (λ v. length v ≡ c.args.system.now.columns) (vectors_of xs)) (sym c.as_slice.ensures)
    (zero_sized c.args.system.now c.index-rows-i.result.coefficients c.in-Some.more (rw c.in-Some.is at c.in_ok-basis_at.ensures))

pub put_all-requires-clause-ordered : goal.put_all-requires-clause-ordered
put_all-requires-clause-ordered c = gathered_ordered c.args.system.now c.args.rows.now c.loop-i.i c.loop-i.list.items c.loop-i.invariant

pub loop-i-preserved : goal.loop-i-preserved
loop-i-preserved c =
    gathered_more c.args.system.now c.args.rows.now c.loop-i.i c.index-rows-i.result c.loop-i.list.items c.as_slice.result.now c.put_all.new.list.items c.loop-i-test.true c.index-rows-i.is c.loop-i.invariant
    (subst (AreZeroAt c.args.system.now c.index-rows-i.result.coefficients) (sym c.as_slice.ensures) (rw c.in-Some.is at c.in_ok-basis_at.ensures))
    c.in_ok-put_all-in-Some.ensures.ordered.ordered c.in_ok-put_all-in-Some.ensures.exact

pub returns : goal.returns
returns c = gathered_all c.args.system.now c.args.rows.now c.loop-i.i c.loop-i.list.items c.loop-i-test.false c.loop-i.invariant
