-- the words of all operators
use Rattle.std.proofs.Common.{◌≡◌}
use Rattle.fvn_cover_counts.specs.inner.Bits.{with_identities}
use Rattle.fvn_cover_counts.proofs.MarkFacts.{unkept_are}
use Rattle.fvn_cover_counts.proofs.marks.Unkept.of.Goals as goal

pub returns : goal.returns
returns c =
    let word : c.identities_word.result ≡ with_identities 0 c.args.sig.now.ops 0 = rw (c.as_slice.ensures, c.declarations.ensures) at c.identities_word.ensures in
    unkept_are c.args.sig.now c.identities_word.result word
