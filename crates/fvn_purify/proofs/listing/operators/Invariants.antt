-- Just the operators so far are listed.
use Rattle.std.proofs.Common.{ℕ, ◌<◌}
use Rattle.fvn_terms.specs.declared.plain.OpId.{OpId}
use Rattle.fvn_purify.specs.Parts.{IsEach}
use Rattle.fvn_purify.specs.inner.Standing.{HeadsWithAxioms}
use Rattle.fvn_purify.proofs.listing.operators.Given as goal

abbrev pub invariant-loop-i : goal.invariant-loop-i
invariant-loop-i l = IsEach (λ (f : OpId). (k : ℕ) × (k < l.i) × HeadsWithAxioms l.sig l.table k f) l.list.items
