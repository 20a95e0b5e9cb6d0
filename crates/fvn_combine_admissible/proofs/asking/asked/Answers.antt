-- What is read, and what it means.
use Rattle.std.proofs.Common.{List, ℕ, length, sym, subst}
use Rattle.fvn_combine_nodes.specs.declared.table.Node.{Node}
use Rattle.fvn_combine_nodes.specs.States.{class_of}
use Rattle.fvn_combine_leaves.specs.Users.{IsWholeSums, IsWhole}
use Rattle.fvn_combine_choices.specs.Binding.{AreAsked}
use Rattle.fvn_combine_admissible.specs.Listed.{tag_in}
use Rattle.fvn_combine_leaves.proofs.ReadOfState.{reading_whole, sums_whole}
use Rattle.fvn_combine_admissible.proofs.Demands.{are_asked}
use Rattle.fvn_combine_admissible.proofs.asking.asked.Goals as goal

pub constants_of-requires : goal.constants_of-requires
constants_of-requires c =
    let d = c.args.sig.now in
    let t = c.args.table.now in
    let made = c.recall_well_made.ensures in
    record {
      whole = subst (λ (ns : List Node). IsWhole (length ns) c.args.reading.now) (sym c.nodes-n.ensures) (reading_whole d t made c.args.state.now c.requires.closed c.args.reading.now c.requires.reading);
      sums = subst (λ (ns : List Node). IsWholeSums (length ns) c.args.sums.now) (sym c.nodes-n.ensures) (sums_whole d t made c.args.state.now c.requires.closed c.args.reading.now c.requires.reading c.args.sums.now c.requires.listed);
    }

pub marks_of-requires : goal.marks_of-requires
marks_of-requires c =
    let d = c.args.sig.now in
    let t = c.args.table.now in
    let made = c.recall_well_made.ensures in
    record {
      whole = subst (λ (ns : List Node). IsWhole (length ns) c.args.reading.now) (sym c.nodes-n.ensures) (reading_whole d t made c.args.state.now c.requires.closed c.args.reading.now c.requires.reading);
      sums = subst (λ (ns : List Node). IsWholeSums (length ns) c.args.sums.now) (sym c.nodes-n.ensures) (sums_whole d t made c.args.state.now c.requires.closed c.args.reading.now c.requires.reading c.args.sums.now c.requires.listed);
    }

pub returns : goal.returns
returns c =
    let d = c.args.sig.now in
    let t = c.args.table.now in
    let s = c.args.state.now in
    let e = c.args.sums.now in
    let Asked = AreAsked d t (class_of s) (tag_in c.args.tags.now) e.operator e.columns in
    subst (λ (cs : List ℕ). Asked cs c.from_vec-2.result) (sym c.from_vec.ensures)
    (subst (Asked c.in_ok-constants.constants.items) (sym c.from_vec-2.ensures)
    (are_asked d t c.recall_well_made.ensures s c.requires.closed c.args.reading.now c.requires.reading c.args.tags.now e c.requires.listed c.in_ok-constants.constants.items c.in_ok-marks.marks.items c.in_ok-constants.ensures c.in_ok-marks.ensures))
