-- More patterns that stand there so often than pieces of which so many are left.
use Rattle.std.proofs.Common.{subst}
use Rattle.fvn_match.specs.inner.Goals.{patterns_of}
use Rattle.fvn_match.specs.inner.Refusing.{HaveCopies}
use Rattle.fvn_match.proofs.Copies.{copies_hopeless}
use Rattle.fvn_match.proofs.refusing.is_short_of_copies.Goals as goal

pub shares-have-requires-clause-some : goal.shares-have-requires-clause-some
shares-have-requires-clause-some c = c.alike-k.ensures.some

pub shares-have-requires-clause-small : goal.shares-have-requires-clause-small
shares-have-requires-clause-small c = c.requires.small

pub returns : goal.returns
returns c = λ yes.
    copies_hopeless c.args.sig.now c.args.goal.now c.requires (c.has_no_identity-lasting.ensures c.if-not-lasting.false) c.alike-k.result c.alike-k.ensures.some
    (subst (λ n. HaveCopies c.alike-k.result n (patterns_of c.args.goal.now)) c.shares-have.ensures (c.have_copies.ensures yes))
