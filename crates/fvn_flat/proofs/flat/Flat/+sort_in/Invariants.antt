-- The sorts of the arguments so far.
use Rattle.std.proofs.Common.{◌≡◌, length, map, take}
use Rattle.fvn_forms.specs.LeastSort.{least_sort}
use Rattle.fvn_flat.specs.Weight.{places}
use Rattle.fvn_flat.specs.inner.SumSorts.{sort_so_far}
use Rattle.fvn_flat.proofs.flat.Flat.+sort_in.Given as goal

abbrev pub invariant-loop-t : goal.invariant-loop-t
invariant-loop-t l = l.sum ≡ sort_so_far l.sig l.f (map (least_sort l.sig) (take l.t-index l.t-items))

abbrev pub invariant-loop-u : goal.invariant-loop-u
invariant-loop-u l = record {
  at : l.i ≡ l.u-index;
  room : length l.sorts ≡ 8;
  sorts : take l.i l.sorts ≡ map (least_sort l.sig) (take l.u-index l.u-items);
}

abbrev pub decreases-sort_in : goal.decreases-sort_in
decreases-sort_in l = places l.self.now
