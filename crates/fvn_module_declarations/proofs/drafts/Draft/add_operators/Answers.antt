-- The sorts of the rank are declared.
use Rattle.fvn_module_declarations.proofs.RankLemmas.{rank_named}
use Rattle.fvn_module_declarations.proofs.drafts.Draft.add_operators.Goals as goal

pub add_each-requires-clause-args : goal.add_each-requires-clause-args
add_each-requires-clause-args c =
    let named = (rank_named c.args.v.now c.args.rank.now c.requires.known).0 in
    rw (c.in_ok-shape.ensures, c.requires.as_many) named

pub add_each-requires-clause-gives : goal.add_each-requires-clause-gives
add_each-requires-clause-gives c =
    let named = (rank_named c.args.v.now c.args.rank.now c.requires.known).1 in
    rw (c.in_ok-shape.ensures, c.requires.as_many) named

pub returns : goal.returns
returns c = rw c.in_ok-shape.ensures at c.add_each.ensures
