-- The constants, or the numbers of a variable.
use Rattle.std.proofs.Common.{◌<◌, ◌≡◌, inl, inr, refl, arith, true}
use Rattle.fvn_weights.proofs.FitTests.{contradicts}
use Rattle.fvn_weights.proofs.FormTests.{not_above}
use Rattle.fvn_weights.proofs.comparing.grows.Goals as goal

pub returns-then-not-falls : goal.returns-then-not-falls
returns-then-not-falls c = (λ t. inl (not_above c.args.right.now.constant c.args.left.now.constant (λ h. contradicts c.is_smaller-falls.result (c.is_smaller-falls.ensures.1 h) c.if-not-falls.true)), λ h. refl)

pub returns : goal.returns
returns c =
    let less : c.args.right.now.constant < c.args.left.now.constant = c.is_smaller-falls.ensures.0 c.if-not-falls.false in (
      λ t. inr (c.grows_somewhere-some.ensures.0 t),
      λ h. elim h as (λ _. c.grows_somewhere-some.result ≡ true) [
        | inl le ↦ absurd (omega (arith, le, less))
        | inr some ↦ c.grows_somewhere-some.ensures.1 some
      ],
    )
