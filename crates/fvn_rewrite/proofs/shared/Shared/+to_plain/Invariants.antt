-- The plain terms of the arguments so far.
use Rattle.std.proofs.Common.{◌≡◌, take}
use Rattle.fvn_terms.specs.Plain.{terms}
use Rattle.fvn_rewrite.specs.inner.SortedTerms.{terms_of}
use Rattle.fvn_rewrite.proofs.shared.Shared.+to_plain.Given as goal

abbrev pub invariant-loop-t : goal.invariant-loop-t
invariant-loop-t l = terms l.items.items ≡ terms_of (take l.t-index l.t-items)
