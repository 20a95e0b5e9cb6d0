-- One more name is joined.
use Rattle.std.proofs.lemmas.List.{take_all}
use Rattle.fvn_forms.specs.SortOrder.{sort_number}
use Rattle.fvn_module_names.proofs.OrderLemmas.{joined-name_more}
use Rattle.fvn_module_names.proofs.order.join_names.Goals as goal

pub loop-name-preserved : goal.loop-name-preserved
loop-name-preserved c =
    joined-name_more c.args.sorts.now c.args.classes c.loop-name.joined c.in_ok-joined.joined (λ s. (s, sort_number c.args.with)) c.args.names.now c.loop-name.name-index c.name-item.result
    c.loop-name-test.true c.name-item.is c.loop-name.invariant (rw c.bytes.ensures at c.in_ok-joined.ensures)

pub returns : goal.returns
returns c = rw (take_all c.loop-name.name-index c.args.names.now c.loop-name-test.false) at c.loop-name.invariant
