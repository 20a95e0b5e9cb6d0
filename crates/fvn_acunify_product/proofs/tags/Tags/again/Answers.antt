-- No more lists are left at the start than there are.
use Rattle.std.proofs.Common.{◌<◌, ◌∙◌, subst}
use Rattle.std.specs.List.{AllZip}
use Rattle.std.proofs.lemmas.List.{with_items_is}
use Rattle.fvn_acunify_product.proofs.Left.{bounded_at_start}
use Rattle.fvn_acunify_product.proofs.tags.Tags.again.Goals as goal

pub returns-clause-bounded : goal.returns-clause-bounded
returns-clause-bounded c =
    bounded_at_start c.self.inside.counts.items c.first.new.numbers _ c.first.result
    (with_items_is c.self.inside.numbers c.first.new.numbers (c.first.auto.numbers ∙ c.as_mut_slice.ensures.len))
    (λ found. subst (λ l. AllZip (λ k n. n < k) l c.first.new.numbers) c.as_slice.ensures.value (c.first.ensures.greatest found).0)
