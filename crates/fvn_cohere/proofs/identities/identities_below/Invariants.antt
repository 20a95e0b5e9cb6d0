-- Those so far whose sort is this one or below it.
use Rattle.std.proofs.Common.{◌≡◌, [], take}
use Rattle.std.specs.Prelude.{filter}
use Rattle.fvn_forms.specs.SortOrder.{at_or_below}
use Rattle.fvn_forms.specs.Ranks.{result}
use Rattle.fvn_cohere.proofs.identities.identities_below.Given as goal

abbrev pub invariant-loop-e : goal.invariant-loop-e
invariant-loop-e l = l.all.items ≡ filter (λ e. at_or_below l.sig (result l.sig e []) l.s) (take l.e-index l.es)
