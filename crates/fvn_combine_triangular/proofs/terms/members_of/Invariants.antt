-- The members so far, with those of the shares that are left.
use Rattle.std.proofs.Common.{◌≡◌, ◌++◌, map, drop}
use Rattle.fvn_flat.specs.SolvedLists.{members}
use Rattle.fvn_combine_triangular.specs.inner.Planning.{part_of}
use Rattle.fvn_combine_triangular.proofs.terms.members_of.Given as goal

abbrev pub invariant-loop-share : goal.invariant-loop-share
invariant-loop-share l = l.terms.items ++ members l.columns (map part_of (drop l.share-index l.shares)) l.k ≡ members l.columns (map part_of l.shares) l.k
