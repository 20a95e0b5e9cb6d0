-- Each vector has small components.
use Rattle.std.proofs.Common.{◌≤◌}
use Rattle.std.specs.List.{All}
use Rattle.fvn_base.proofs.MappedLists.{all_mapped_at}
use Rattle.fvn_lindio.proofs.answer.solutions_of.Goals as goal

pub solution_of-requires : goal.solution_of-requires
solution_of-requires c = all_mapped_at (λ v. v.items) (All (λ a. a ≤ 65535)) c.args.list.now c.loop-v.v-index c.v-item.result c.as_slice.result.now c.loop-v-test.true c.v-item.is c.as_slice.ensures c.requires
