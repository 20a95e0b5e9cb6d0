-- What the loops of `size` keep.
use Rattle.std.proofs.Common.{◌≡◌, ◌-◌, ◌^◌, take, min}
use Rattle.fvn_terms.specs.Term.{nodes_all}
use Rattle.fvn_terms.specs.Plain.{terms}
use Rattle.fvn_terms.proofs.plain.+size.Given as goal

-- the nodes so far
abbrev pub invariant-Args::size-loop-t : goal.invariant-Args::size-loop-t
invariant-Args::size-loop-t l = l.count ≡ min (nodes_all (terms (take l.t-index l.t-items))) (2 ^ 64 - 1)
