-- The first of the sorts right below the kind.
use Rattle.fvn_answer.proofs.Tops.{some, top-maximal}
use Rattle.fvn_answer.proofs.texts.top.Goals as goal

pub direct_subsort-requires-clause-number : goal.direct_subsort-requires-clause-number
direct_subsort-requires-clause-number c =
    some c.args.signature.now c.recall_good.ensures c.recall_completed.ensures c.direct_subsorts_cover.ensures c.direct_subsorts_of_kinds.ensures c.args.kind c.requires

pub returns-clause-declared : goal.returns-clause-declared
returns-clause-declared c = (top-maximal c.args.signature.now c.recall_good.ensures c.recall_completed.ensures c.direct_subsorts_cover.ensures c.direct_subsorts_of_kinds.ensures c.args.kind c.requires c.direct_subsort.result c.direct_subsort.ensures).declared
