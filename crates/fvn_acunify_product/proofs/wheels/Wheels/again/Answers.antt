-- No more lists are left at the start than there are.
use Rattle.std.proofs.Common.{◌∙◌, ap, subst, sym, map}
use Rattle.std.specs.List.{AllZip}
use Rattle.std.proofs.lemmas.List.{with_items_is}
use Rattle.fvn_acunify_product.specs.Wheels.{IsChoice, wheel_of}
use Rattle.fvn_acunify_product.proofs.Left.{bounded_at_start, choices_are_below}
use Rattle.fvn_acunify_product.proofs.wheels.Wheels.again.Goals as goal

pub returns-clause-bounded : goal.returns-clause-bounded
returns-clause-bounded c =
    let kept = ap (map wheel_of) (with_items_is c.self.inside.wheels c.first.new.wheels (c.first.auto.wheels ∙ c.as_mut_slice.ensures.len)) ∙ c.first.ensures.same in
    bounded_at_start _ c.first.new.numbers _ c.first.result
    (with_items_is c.self.inside.numbers c.first.new.numbers (c.first.auto.numbers ∙ c.as_mut_slice-2.ensures.len))
    (λ found. choices_are_below _ c.first.new.numbers (subst (λ ws. AllZip IsChoice ws c.first.new.numbers) (sym kept) (c.first.ensures.greatest found).0))
