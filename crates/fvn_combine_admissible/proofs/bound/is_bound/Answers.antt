-- What is read, and what it means.
use Rattle.std.proofs.Common.{◌<◌, length, List, sym, subst}
use Rattle.fvn_combine_nodes.specs.declared.table.Node.{Node}
use Rattle.fvn_combine_leaves.specs.Users.{IsWholeSums, IsWhole}
use Rattle.fvn_combine_leaves.proofs.ReadOfState.{reading_whole, sums_whole}
use Rattle.fvn_combine_admissible.proofs.Binding.{bound_iff}
use Rattle.fvn_combine_admissible.proofs.bound.is_bound.Goals as goal

pub is_bound_in-requires : goal.is_bound_in-requires
is_bound_in-requires c =
    let d = c.args.sig.now in
    let t = c.args.table.now in
    let made = c.recall_well_made.ensures in
    record {
      whole = subst (λ (ns : List Node). IsWhole (length ns) c.args.reading.now) (sym c.nodes-n.ensures) (reading_whole d t made c.args.state.now c.requires.closed c.args.reading.now c.requires.reading);
      sums = subst (λ (ns : List Node). IsWholeSums (length ns) c.args.sums.now) (sym c.nodes-n.ensures) (sums_whole d t made c.args.state.now c.requires.closed c.args.reading.now c.requires.reading c.args.sums.now c.requires.listed);
      within = subst (λ (ns : List Node). c.args.k < length ns) (sym c.nodes-n.ensures) c.requires.within;
    }

pub returns : goal.returns
returns c =
    let iff = bound_iff c.args.sig.now c.args.table.now c.recall_well_made.ensures c.args.state.now c.requires.closed c.args.reading.now c.requires.reading c.args.tags.now c.args.sums.now c.requires.listed c.args.k c.requires.within in
    (λ e. iff.0 (c.is_bound_in.ensures.0 e), λ b. c.is_bound_in.ensures.1 (iff.1 b))
