-- They go on from the empty path.
use Rattle.std.proofs.Common.{[], ap, ◌++◌, ◌∙◌}
use Rattle.fvn_places.specs.Paths.{paths_after}
use Rattle.fvn_places.proofs.PathFacts.{after_nothing}
use Rattle.fvn_places.proofs.leading.paths.Goals as goal

pub returns : goal.returns
returns c = after_nothing c.args.t.now c.in_ok-all.all.items (c.in_ok-all.ensures ∙ ap (λ l. l ++ paths_after [] c.args.t.now) c.new.ensures.items)
