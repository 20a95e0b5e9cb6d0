-- Those so far.
use Rattle.std.proofs.Common.{◌≡◌, take, slice_get}
use Rattle.std.specs.Prelude.{filter}
use Rattle.fvn_purify.specs.Parts.{may_collapse}
use Rattle.fvn_purify.proofs.listing.collapsing.Given as goal

abbrev pub invariant-loop-i : goal.invariant-loop-i
invariant-loop-i l = l.rest.items ≡ filter (λ i. may_collapse l.sig (slice_get l.table.nodes i)) (take l.i-index l.list)
