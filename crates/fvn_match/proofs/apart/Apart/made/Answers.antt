-- The pattern makes one form under all values.
use Rattle.std.proofs.Common.{sym, subst}
use Rattle.fvn_flat.specs.Bindings.{value}
use Rattle.fvn_match.specs.inner.Candidates.{IsCandidate}
use Rattle.fvn_match.specs.inner.Goals.{bindings_of, with_bindings}
use Rattle.fvn_match.specs.inner.Known.{MakesOnly}
use Rattle.fvn_match.proofs.KnownForms.{made_apart}
use Rattle.fvn_match.proofs.apart.Apart.made.Goals as goal

pub instance-requires-clause-pattern : goal.instance-requires-clause-pattern
instance-requires-clause-pattern c = record { flat = c.requires.pair.pattern; kinded = (c.requires.pair.of_kind, c.requires.pair.pattern_kind) }

pub instance-requires-clause-values : goal.instance-requires-clause-values
instance-requires-clause-values c = subst (λ l. IsCandidate c.args.sig.now (value (with_bindings (bindings_of c.args.bound.now) l))) (sym c.as_slice.ensures.value) c.requires.fits.values

pub instance-requires-clause-known : goal.instance-requires-clause-known
instance-requires-clause-known c = c.are_bound-known.ensures c.if-not-known.false

pub returns : goal.returns
returns c =
    let d = c.args.sig.now in
    let b = bindings_of c.args.bound.now in
    made_apart d b c.args.self.now c.requires.fits c.args.p.now c.args.t.now c.in_ok-u.u
    (subst (λ l. MakesOnly d (with_bindings b l) c.args.p.now c.in_ok-u.u) c.as_slice.ensures.value c.in_ok-u.ensures) c.same-is.result c.same-is.ensures.exact
