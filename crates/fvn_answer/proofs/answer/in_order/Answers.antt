-- Lines that are sorted, and without what repeats.
use Rattle.fvn_answer.proofs.Answering.{in-byte-order}
use Rattle.fvn_answer.proofs.answer.in_order.Goals as goal

pub returns : goal.returns
returns c =
    in-byte-order (λ v. v.items) c.args.lines.items c.sort.new.self.items c.dedup.new.self.items
    c.in_ok-sort.ensures.permutation c.in_ok-sort.ensures.sorted c.dedup.ensures.filtered
