-- the operators that are left decide
use Rattle.std.proofs.Common.{◌≡◌, drop}
use Rattle.fvn_cover_counts.specs.inner.Bits.{with_identities}
use Rattle.fvn_cover_counts.proofs.bits.identities_word.Given as goal

abbrev pub invariant-loop-g : goal.invariant-loop-g
invariant-loop-g l = with_identities 0 l.ops 0 ≡ with_identities l.g (drop l.g l.ops) l.word
