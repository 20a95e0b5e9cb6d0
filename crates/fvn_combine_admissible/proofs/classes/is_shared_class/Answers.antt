-- What is read, and what it means.
use Rattle.std.proofs.Common.{◌<◌, length, List, sym, subst}
use Rattle.fvn_combine_nodes.specs.declared.table.Node.{Node}
use Rattle.fvn_combine_leaves.specs.Users.{IsWhole}
use Rattle.fvn_combine_leaves.proofs.ReadOfState.{reading_whole, shared_in, shared_from}
use Rattle.fvn_combine_admissible.proofs.classes.is_shared_class.Goals as goal

pub is_shared-requires : goal.is_shared-requires
is_shared-requires c =
    let d = c.args.sig.now in
    let t = c.args.table.now in
    let made = c.recall_well_made.ensures in
    record {
      whole = subst (λ (ns : List Node). IsWhole (length ns) c.args.reading.now) (sym c.nodes-n.ensures) (reading_whole d t made c.args.state.now c.requires.closed c.args.reading.now c.requires.reading);
      within = subst (λ (ns : List Node). c.args.k < length ns) (sym c.nodes-n.ensures) c.requires.within;
    }

pub returns : goal.returns
returns c =
    let d = c.args.sig.now in
    let t = c.args.table.now in
    let made = c.recall_well_made.ensures in
    let s = c.args.state.now in
    let closed = c.requires.closed in
    let r = c.args.reading.now in
    let reading = c.requires.reading in
    let k = c.args.k in
    (λ u. shared_from d t made s closed r reading k c.requires.within (c.is_shared.ensures.0 u), λ u. c.is_shared.ensures.1 (shared_in d t made s closed r reading k c.requires.within u))
