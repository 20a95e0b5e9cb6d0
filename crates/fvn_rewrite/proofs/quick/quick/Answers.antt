-- The form that is reached.
use Rattle.std.proofs.Common.{[], refl}
use Rattle.fvn_terms.specs.Substitution.{apply}
use Rattle.fvn_forms.specs.Flat.{plain}
use Rattle.fvn_theory.specs.Equations.{equations_of}
use Rattle.fvn_rewrite.specs.inner.Fitting.{standing_for}
use Rattle.fvn_rewrite.specs.inner.Making.{IsMade}
use Rattle.fvn_rewrite.proofs.InsideOut.{begun_here, made_is_term}
use Rattle.fvn_rewrite.proofs.quick.quick.Goals as goal

pub flatten-requires : goal.flatten-requires
flatten-requires c =
    let d = c.args.sig.now in
    let one : IsMade d (equations_of c.args.rules.now.equations) (apply (standing_for []) (plain c.args.t.now)) c.args.bounds.steps c.in-Some.one = rw c.in-Some.is at c.in_ok-made.ensures in
    made_is_term d c.args.rules.now c.requires.laws c.args.t.now c.args.bounds.steps c.in-Some.one c.in_ok-plain-in-Some.plain c.requires.term one c.in_ok-plain-in-Some.ensures

pub returns-in_ok-form-in-Some : goal.returns-in_ok-form-in-Some
returns-in_ok-form-in-Some c =
    let d = c.args.sig.now in
    let one : IsMade d (equations_of c.args.rules.now.equations) (apply (standing_for []) (plain c.args.t.now)) c.args.bounds.steps c.in-Some.one = rw c.in-Some.is at c.in_ok-made.ensures in
    begun_here d c.args.rules.now c.requires.laws c.args.t.now c.args.bounds.steps c.in-Some.one c.in_ok-plain-in-Some.plain record { form = c.in_ok-form-in-Some.form; left = c.in-Some.one.left } one c.in_ok-plain-in-Some.ensures c.in_ok-form-in-Some.ensures.equal
    c.in_ok-form-in-Some.ensures.fits refl
