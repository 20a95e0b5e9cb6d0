-- Just those so far are listed.
use Rattle.std.proofs.Common.{ℕ, ◌<◌}
use Rattle.fvn_purify.specs.Theories.{IsAbstracted}
use Rattle.fvn_purify.specs.Parts.{IsEach}
use Rattle.fvn_purify.proofs.listing.abstracted.Given as goal

abbrev pub invariant-loop-i : goal.invariant-loop-i
invariant-loop-i l = IsEach (λ (i : ℕ). (i < l.i) × IsAbstracted l.sig l.table i) l.list.items
