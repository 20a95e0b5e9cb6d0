-- The pairs are kept apart, and the state is closed again.
use Rattle.std.proofs.Common.{◌≡◌, ◌++◌, length, ap, ◌∙◌, subst}
use Rattle.fvn_combine_nodes.specs.declared.state.State.{State}
use Rattle.fvn_combine_tree.specs.inner.Chains.{HasRoom}
use Rattle.fvn_combine_tree.proofs.Starting.{parted_naming, parted_sides, apart_is}
use Rattle.fvn_combine_tree.proofs.asking.ask_all_apart.Goals as goal
use Rattle.fvn_combine_tree.proofs.asking.ask_all_apart.Goals.{In_ok-extend_from_slice}

-- the state with these pairs too
abbrev parted : (c : goal.In_ok-extend_from_slice) → State
parted c = record { names = c.in_ok-closing.closing.names.items; apart = c.extend_from_slice.new.self.items }

names_are : (c : goal.In_ok-extend_from_slice) → (parted c).names ≡ c.args.state.now.names
names_are c = ap (λ (s : State). s.names) c.in_ok-closing.ensures

apart_are : (c : goal.In_ok-extend_from_slice) → (parted c).apart ≡ c.args.state.now.apart ++ c.args.pairs.now
apart_are c = c.in_ok-extend_from_slice.ensures.items ∙ ap (λ (s : State). s.apart ++ c.args.pairs.now) c.in_ok-closing.ensures

pub close-left-requires : goal.close-left-requires
close-left-requires c =
    let at = (goal.at.close-left-requires c).In_ok-extend_from_slice in
    record {
      naming = parted_naming c.args.sig.now c.args.table.now c.args.state.now c.requires.closed c.args.pairs.now c.requires.within (parted at) (names_are at) (apart_are at);
      whole = ap length (names_are at) ∙ c.requires.closed.whole;
      sides = parted_sides c.args.sig.now c.args.table.now c.args.state.now c.requires.closed c.args.pairs.now c.requires.within (parted at) (names_are at) (apart_are at);
      room = subst (λ n. HasRoom n c.in_ok-chains.chains) (ap length c.nodes.ensures) c.in_ok-chains.ensures;
    }

pub returns : goal.returns
returns c =
    let at = (goal.at.returns c).In_ok-extend_from_slice in
    let one = c.requires.some_open in
    apart_is c.args.sig.now c.args.table.now c.args.state.now c.requires.closed c.args.pairs.now c.requires.within (parted at) (names_are at) (apart_are at) one.0 one.1 one.2 one.3 c.close-left.result c.close-left.ensures
