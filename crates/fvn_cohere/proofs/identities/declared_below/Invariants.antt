-- Those among the first sorts.
use Rattle.std.proofs.Common.{◌≡◌}
use Rattle.std.specs.Prelude.{filter}
use Rattle.fvn_forms.specs.SortOrder.{at_or_below}
use Rattle.fvn_signature.specs.FirstSorts.{first_sorts}
use Rattle.fvn_cohere.proofs.identities.declared_below.Given as goal

abbrev pub invariant-loop-n : goal.invariant-loop-n
invariant-loop-n l = l.all.items ≡ filter (λ q. at_or_below l.sig q l.s) (first_sorts l.n)
