-- What is read, and what it means.
use Rattle.fvn_combine_leaves.proofs.ReadOfState.{are_sums, marked_to, marked_from}
use Rattle.fvn_combine_admissible.proofs.classes.uses.Goals as goal

pub is_user-requires : goal.is_user-requires
is_user-requires c = (are_sums c.args.sig.now c.args.table.now c.recall_well_made.ensures c.args.state.now c.requires.closed c.args.reading.now c.requires.reading c.args.sums.now c.requires.listed).marked

pub returns : goal.returns
returns c =
    let d = c.args.sig.now in
    let t = c.args.table.now in
    let made = c.recall_well_made.ensures in
    let s = c.args.state.now in
    let closed = c.requires.closed in
    let r = c.args.reading.now in
    let reading = c.requires.reading in
    let e = c.args.sums.now in
    let listed = c.requires.listed in
    let k = c.args.k in
    (λ u. marked_from d t made s closed r reading e listed k (c.is_user.ensures.0 u), λ u. c.is_user.ensures.1 (marked_to d t made s closed r reading e listed k u))
