-- One way or the other.
use Rattle.std.proofs.Common.{subst, inl, inr}
use Rattle.fvn_terms.specs.declared.declarations.Declarations.{Declarations}
use Rattle.fvn_lifting.specs.Pairs.{IsMetByTwo}
use Rattle.fvn_narrow.proofs.pairing.is_enough.Goals as goal

pub returns-then-two : goal.returns-then-two
returns-then-two c = λ yes. inl (subst (λ (d : Declarations). IsMetByTwo d c.args.f c.args.t.now) c.signature.ensures (c.is_met_by_two-two.ensures c.if-two.true))

pub returns : goal.returns
returns c = λ yes. inr (c.in_ok-some.ensures yes)
