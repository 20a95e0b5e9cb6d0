-- A sort puts the texts in byte order.
use Rattle.std.proofs.Common.{sym, ◌∙◌}
use Rattle.fvn_answer.specs.Writing.{bytes_of}
use Rattle.fvn_answer.proofs.TextOrder.{sorted_is, arranged-sorted}
use Rattle.fvn_answer.proofs.texts.arrange.Goals as goal

pub returns-in_ok-sort : goal.returns-in_ok-sort
returns-in_ok-sort c =
    sorted_is (λ v. v.items) c.args.texts.now.items c.sort.new.self.items c.in_ok-sort.ensures.permutation c.in_ok-sort.ensures.sorted
    ∙ sym (arranged-sorted c.args.axioms (sym c.is_commutative.ensures.exact ∙ c.if-is_commutative.true) (bytes_of c.args.texts.now.items))
