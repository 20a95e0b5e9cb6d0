-- One vector more.
use Rattle.std.proofs.Common.{ℕ, List, length, ◌≤◌, ◌∙◌}
use Rattle.std.specs.List.{All}
use Rattle.fvn_lindio.specs.inner.Generators.{IsRow, vectors_in}
use Rattle.fvn_base.proofs.MappedLists.{all_mapped_at}
use Rattle.fvn_lindio.proofs.GeneratorLemmas.{known_more}
use Rattle.fvn_lindio.proofs.generators.known_points.Goals as goal

-- what holds of each vector holds of this one
each : (c : goal.After-as_slice) (P : List ℕ → Type 0) → All P (vectors_in c.args.known.now) → P c.as_slice.result.now
each c P = all_mapped_at (λ v. v.items) P c.args.known.now c.loop-v.v-index c.v-item.result c.as_slice.result.now c.loop-v-test.true c.v-item.is c.as_slice.ensures

pub point_at-requires-clause-row : goal.point_at-requires-clause-row
point_at-requires-clause-row c = each c (λ v. IsRow (length v) c.args.row.now) c.requires.row

pub point_at-requires-clause-narrow : goal.point_at-requires-clause-narrow
point_at-requires-clause-narrow c = each c (All (λ a. a ≤ 65535)) c.requires.narrow

pub loop-v-preserved : goal.loop-v-preserved
loop-v-preserved c =
    known_more c.args.row.now c.args.known.now c.loop-v.v-index c.v-item.result c.loop-v.points.items c.push.new.self.items c.in_ok-point.point c.loop-v-test.true c.v-item.is c.in_ok-push.ensures.items (c.in_ok-point.ensures.0 ∙ c.as_slice.ensures) c.in_ok-point.ensures.1 c.loop-v.invariant
