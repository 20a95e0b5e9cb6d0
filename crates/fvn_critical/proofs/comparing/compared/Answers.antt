-- One form, or two in order.
use Rattle.std.proofs.Common.{◌≡◌, true, false, inl, inr, refl, sym, ◌∙◌, arith}
use Rattle.fvn_critical.proofs.comparing.compared.Goals as goal

pub returns-then-same : goal.returns-then-same
returns-then-same c = c.same-same.ensures.exact.0 c.if-same.true

pub returns-then-ordered : goal.returns-then-ordered
returns-then-ordered c = (
  λ e. let z : true ≡ false = sym (c.same-same.ensures.exact.1 e) ∙ c.if-same.false in cc,
  record { ordered = omega (arith, c.if-ordered.true); are = inl (refl, refl, refl, refl) },
)

pub returns-else-ordered : goal.returns-else-ordered
returns-else-ordered c = (
  λ e. let z : true ≡ false = sym (c.same-same.ensures.exact.1 e) ∙ c.if-same.false in cc,
  record { ordered = omega (arith, c.if-ordered.false); are = inr (refl, refl, refl, refl) },
)
