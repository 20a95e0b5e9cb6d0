-- The newest value is another form.
use Rattle.std.proofs.Common.{◌≡◌, true, Some, subst}
use Rattle.std.specs.Prelude.{not}
use Rattle.std.proofs.lemmas.Bool.{false≢true}
use Rattle.fvn_flat.specs.Bindings.{bound}
use Rattle.fvn_match.specs.inner.Goals.{bindings_of, with_bindings}
use Rattle.fvn_match.proofs.apart.Apart.has_other.Goals as goal

pub returns-in-Some : goal.returns-in-Some
returns-in-Some c = λ yes.
    let b = bindings_of c.args.bound.now in (
      c.in-Some.v.now,
      subst (λ l. bound (with_bindings b l) c.args.x ≡ Some c.in-Some.v.now) c.as_slice.ensures.value (c.in-Some.ensures b c.get-before.ensures),
      λ e. false≢true (subst (λ r. not r ≡ true) (c.same.ensures.exact.1 e) yes),
    )
