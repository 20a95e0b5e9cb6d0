-- Each sort so far is named.
use Rattle.std.proofs.Common.{ℕ, ◌<◌, get_or}
use Rattle.fvn_terms.specs.declared.plain.SortId.{SortId}
use Rattle.fvn_signature_draft.specs.Collected.{Names}
use Rattle.fvn_tests_samples.proofs.signatures.all_names.Given as goal

abbrev pub invariant-loop-s : goal.invariant-loop-s
invariant-loop-s l = (k : ℕ) (d : SortId) → k < l.s-index → Names l.sorts (get_or l.list k d)
