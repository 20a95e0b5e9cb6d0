-- What the tests told.
use Rattle.std.proofs.Common.{sym, subst, inl, inr}
use Rattle.fvn_terms.specs.declared.declarations.Declarations.{Declarations}
use Rattle.fvn_flat.specs.Fits.{Fits}
use Rattle.fvn_narrow.specs.inner.Serving.{SomeServes}
use Rattle.fvn_narrow.proofs.trying.is_passed_over.Goals as goal

pub some_serves-served-requires : goal.some_serves-served-requires
some_serves-served-requires g c = subst (λ (d : Declarations). Fits d c.args.at.now) (sym c.signature.ensures) c.requires

pub returns-then-passes : goal.returns-then-passes
returns-then-passes g c = λ yes. inl (c.if-passes.true, c.in_ok-met.ensures yes)

pub returns : goal.returns
returns g c = λ yes. inr (c.if-passes.false, subst (λ (d : Declarations). SomeServes d c.args.at.now c.args.rules.now c.args.rule.now) c.signature.ensures (c.some_serves-served.ensures yes))
