-- The steps of `same` that the check leaves open.
use Rattle.std.proofs.Common.{arith, ◌≡◌, ap, sym, ◌∙◌}
use Rattle.fvn_terms.specs.Plain.{terms}
use Rattle.fvn_terms.proofs.Plains.{terms-injective, terms_length}
use Rattle.fvn_terms.proofs.plain.+same.Goals as goal

pub Args::same-returns-then-len : goal.Args::same-returns-then-len
Args::same-returns-then-len t c = (
  λ h. grind arith,
  λ e. absurd (let l = terms_length c.self.inside.items.items c.other.inside.items.items (c.self.view_is ∙ e ∙ sym c.other.view_is) in grind arith),
)

pub Args::same-loop-t-init : goal.Args::same-loop-t-init
Args::same-loop-t-init t c =
    let left : c.into_iter-t-iterator.result.a.rest.now ≡ c.self.inside.items.items = cc in
    let right : c.into_iter-t-iterator.result.b.rest.now ≡ c.other.inside.items.items = cc in
    record {
      as_long = rw (left, right) (grind arith);
      decide = rw (left, right) (
        λ e. terms-injective _ _ (c.self.view_is ∙ e ∙ sym c.other.view_is),
        λ e. sym c.self.view_is ∙ ap terms e ∙ c.other.view_is,
      );
    }
