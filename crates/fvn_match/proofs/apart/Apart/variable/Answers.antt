-- A variable that is bound, or is bound now.
use Rattle.std.proofs.Common.{◌≡◌, Some, None, refl, sym, ◌∙◌, subst}
use Rattle.std.proofs.lemmas.Bool.{false≢true}
use Rattle.fvn_flat.specs.Bindings.{bound}
use Rattle.fvn_match.specs.inner.Goals.{bindings_of, with_bindings}
use Rattle.fvn_match.proofs.TakingApart.{compared, unsorted, bound_one}
use Rattle.fvn_match.proofs.apart.Apart.variable.Goals as goal

pub returns-in-Some : goal.returns-in-Some
returns-in-Some c =
    let b = bindings_of c.args.bound.now in
    compared c.args.sig.now b c.args.x c.args.self.now c.requires.fits c.args.t.now c.in-Some.v.now
    (subst (λ l. bound (with_bindings b l) c.args.x ≡ Some c.in-Some.v.now) c.as_slice.ensures.value (c.in-Some.ensures b c.get.ensures)) c.same-is.result c.same-is.ensures.exact

pub returns-then-not-has_sort_of : goal.returns-then-not-has_sort_of
returns-then-not-has_sort_of c = λ v k is asked.
    unsorted c.args.sig.now (bindings_of c.args.bound.now) c.args.x c.args.t.now c.requires.pair (λ h. false≢true (sym c.if-not-has_sort_of.true ∙ c.has_sort_of.ensures.1 h)) v k is

pub returns-in_ok-push-in-None : goal.returns-in_ok-push-in-None
returns-in_ok-push-in-None c =
    let b = bindings_of c.args.bound.now in
    bound_one c.args.sig.now b c.args.x c.args.self.now _ c.args.t c.requires.fits c.requires.pair (c.has_sort_of.ensures.0 c.if-not-has_sort_of.false)
    (subst (λ l. bound (with_bindings b l) c.args.x ≡ None) c.as_slice.ensures.value (c.in-None.ensures b c.get.ensures)) c.in_ok-push-in-None.ensures.items refl refl
