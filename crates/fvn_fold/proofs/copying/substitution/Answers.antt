-- after nothing comes all of it
use Rattle.std.proofs.Common.{◌∙◌}
use Rattle.fvn_flat.proofs.Composing.{empty_fits}
use Rattle.fvn_fold.proofs.Copies.{all_chosen}
use Rattle.fvn_fold.proofs.copying.substitution.Goals as goal

pub compose-requires-clause-first : goal.compose-requires-clause-first
compose-requires-clause-first c = rw c.empty-nothing.ensures (empty_fits c.args.sig.now)

pub returns : goal.returns
returns c = (rw c.empty-nothing.ensures at c.in_ok-all.ensures.exact) ∙ all_chosen c.args.s.now
