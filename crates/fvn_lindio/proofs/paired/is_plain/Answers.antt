-- The tests of a point, with its value as the code reads it.
use Rattle.std.proofs.Common.{◌≤◌, ◌∙◌, ℤ, w64, ap, sum, sym, subst, FitsSigned, rules}
use Rattle.std.proofs.lemmas.Int.{to_z-of_z}
use Rattle.fvn_lindio.specs.Systems.{above, below}
use Rattle.fvn_lindio.specs.inner.Paired.{HasSign}
use Rattle.fvn_lindio.proofs.LeastLemmas.{not_false}
use Rattle.fvn_lindio.proofs.paired.is_plain.Goals as goal

pub returns-then-not-has_sign : goal.returns-then-not-has_sign
returns-then-not-has_sign c =
    let p = c.args.p.now in
    let fits : FitsSigned w64 p.value = search rules in
    let read = to_z-of_z w64 p.value fits in
    let off = not_false c.has_sign.result c.if-not-has_sign.true c.has_sign.ensures.1 in
    λ _. record {
      highest = subst (λ (z : ℤ). above z ≤ 1) read (c.is_small.ensures.above c.if-not-is_small.false);
      lowest = subst (λ (z : ℤ). below z ≤ 1) read (c.is_small.ensures.below c.if-not-is_small.false);
      single = λ o. absurd (off (subst (λ (z : ℤ). HasSign c.args.sign z) (sym read) o));
    }

pub returns : goal.returns
returns c =
    let p = c.args.p.now in
    let fits : FitsSigned w64 p.value = search rules in
    let read = to_z-of_z w64 p.value fits in
    λ h. record {
      highest = subst (λ (z : ℤ). above z ≤ 1) read (c.is_small.ensures.above c.if-not-is_small.false);
      lowest = subst (λ (z : ℤ). below z ≤ 1) read (c.is_small.ensures.below c.if-not-is_small.false);
      single = λ _. ap sum (sym c.as_slice.ensures) ∙ c.is_unit.ensures h;
    }
