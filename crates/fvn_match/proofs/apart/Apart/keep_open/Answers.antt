-- The pair is compared, or kept.
use Rattle.std.proofs.Common.{◌≡◌, ◌+◌, subst}
use Rattle.std.specs.Prelude.{IfSome}
use Rattle.fvn_forms.specs.Canon.{inst}
use Rattle.fvn_match.specs.inner.Goals.{bindings_of, weight}
use Rattle.fvn_match.specs.inner.Apart.{TakesApart}
use Rattle.fvn_match.proofs.apart.Apart.keep_open.Goals as goal

pub returns-in-Some : goal.returns-in-Some
returns-in-Some c =
    let d = c.args.sig.now in
    subst (λ o. IfSome o (TakesApart d (bindings_of c.args.bound.now) c.args.self.now c.args.self.now (λ v. inst d v c.args.p.now ≡ c.args.t.now) (weight c.args.p.now + 2))) c.in-Some.is c.in_ok-made.ensures
