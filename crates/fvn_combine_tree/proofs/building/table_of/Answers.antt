-- The table is that of the problem.
use Rattle.std.proofs.Common.{sym, ap, ◌∙◌, subst}
use Rattle.fvn_flat.specs.Problems.{subterms_of, plain_pairs}
use Rattle.fvn_flat.specs.Solving.{problem_of}
use Rattle.fvn_combine_nodes.specs.Table.{IsTableOf}
use Rattle.fvn_combine_tree.specs.declared.building.Draft.{Draft}
use Rattle.fvn_combine_tree.specs.inner.Drafts.{AreNodes, HasWalked, AreSides, once_each}
use Rattle.fvn_combine_tree.proofs.Tables.{empty_nodes, table_made, table_is}
use Rattle.fvn_combine_tree.proofs.building.table_of.Goals as goal

pub add_pairs-requires : goal.add_pairs-requires
add_pairs-requires c = record { nodes = subst AreNodes (sym c.new.ensures.items) empty_nodes }

pub of_parts-requires : goal.of_parts-requires
of_parts-requires c =
    let empty : Draft = record { nodes = c.new.result; walk = c.new-2.result } in
    let problem = problem_of c.args.problem.now in
    let draft = c.add_pairs.new.self in
    let sides = c.in_ok-sides in
    let pairs = ap plain_pairs c.as_slice.ensures in
    let walked : HasWalked empty draft (subterms_of problem) = subst (λ ps. HasWalked empty draft (subterms_of ps)) pairs sides.ensures.walked in
    let are_sides : AreSides draft.nodes.items sides.sides.items problem = subst (AreSides draft.nodes.items sides.sides.items) pairs sides.ensures.sides in
    let once_is = c.in_ok-subterms.ensures ∙ ap once_each c.as_slice-2.ensures.value in
    table_made c.args.sig.now problem empty draft c.new.ensures.items c.new-2.ensures.items walked sides.ensures.nodes sides.sides.items are_sides c.in_ok-subterms.subterms.items once_is c.add_units.new.nodes.items c.in_ok-units.units.items c.in_ok-units.ensures.nodes c.in_ok-units.ensures.units

pub returns : goal.returns
returns c =
    let empty : Draft = record { nodes = c.new.result; walk = c.new-2.result } in
    let problem = problem_of c.args.problem.now in
    let draft = c.add_pairs.new.self in
    let sides = c.in_ok-sides in
    let pairs = ap plain_pairs c.as_slice.ensures in
    let walked : HasWalked empty draft (subterms_of problem) = subst (λ ps. HasWalked empty draft (subterms_of ps)) pairs sides.ensures.walked in
    let are_sides : AreSides draft.nodes.items sides.sides.items problem = subst (AreSides draft.nodes.items sides.sides.items) pairs sides.ensures.sides in
    let once_is = c.in_ok-subterms.ensures ∙ ap once_each c.as_slice-2.ensures.value in
    subst (IsTableOf c.args.sig.now problem) (sym c.of_parts.ensures) (table_is c.args.sig.now problem empty draft c.new.ensures.items c.new-2.ensures.items walked sides.ensures.nodes sides.sides.items are_sides c.in_ok-subterms.subterms.items once_is c.add_units.new.nodes.items c.in_ok-units.units.items c.in_ok-units.ensures.nodes c.in_ok-units.ensures.units)
