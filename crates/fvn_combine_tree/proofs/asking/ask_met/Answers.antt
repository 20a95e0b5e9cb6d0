-- The nodes of each pair are joined, and the state is closed again.
use Rattle.std.proofs.Common.{◌≡◌, ◌<◌, length, sym, ap, ◌∙◌, subst}
use Rattle.std.specs.Prelude.{All}
use Rattle.fvn_combine_nodes.specs.States.{IsNaming}
use Rattle.fvn_combine_nodes.specs.declared.state.State.{State}
use Rattle.fvn_combine_tree.specs.inner.Closing.{state_of}
use Rattle.fvn_combine_tree.specs.inner.Starts.{IsJoinedFrom}
use Rattle.fvn_combine_tree.specs.inner.Chains.{HasRoom}
use Rattle.fvn_combine_tree.proofs.Starting.{met_sides, met_is}
use Rattle.fvn_combine_tree.proofs.asking.ask_met.Goals as goal
use Rattle.fvn_combine_tree.proofs.asking.ask_met.Goals.{After-join_sides}

-- what joining the nodes of the state did
joined : (c : goal.After-join_sides) → IsJoinedFrom c.args.pairs.now c.args.state.now (state_of c.join_sides.new.closing)
joined c = subst (λ (s : State). IsJoinedFrom c.args.pairs.now s (state_of c.join_sides.new.closing)) c.in_ok-closing.ensures c.join_sides.ensures

pub join_sides-requires : goal.join_sides-requires
join_sides-requires c =
    let e : state_of c.in_ok-closing.closing ≡ c.args.state.now = c.in_ok-closing.ensures in
    record {
      naming = subst IsNaming (sym e) c.requires.closed.naming;
      sides = subst (λ n. All (λ p. (p.0 < n) × (p.1 < n)) c.args.pairs.now) (sym (ap (λ (s : State). length s.names) e ∙ c.requires.closed.whole)) c.requires.within;
    }

pub close-left-requires : goal.close-left-requires
close-left-requires c =
    let at = (goal.at.close-left-requires c).After-join_sides in
    let one = c.requires.some_open in
    record {
      naming = (joined at).nodes.naming;
      whole = (joined at).nodes.whole ∙ c.requires.closed.whole;
      sides = met_sides c.args.sig.now c.args.table.now c.recall_well_made.ensures c.args.state.now c.requires.closed c.args.pairs.now c.requires.within one.0 one.1 one.2 one.3 (state_of c.join_sides.new.closing) (joined at);
      room = subst (λ n. HasRoom n c.in_ok-chains.chains) (ap length c.nodes.ensures) c.in_ok-chains.ensures;
    }

pub returns : goal.returns
returns c =
    let at = (goal.at.returns c).After-join_sides in
    let one = c.requires.some_open in
    met_is c.args.sig.now c.args.table.now c.recall_well_made.ensures c.args.state.now c.requires.closed c.args.pairs.now c.requires.within one.0 one.1 one.2 one.3 (state_of c.join_sides.new.closing) (joined at) c.close-left.result c.close-left.ensures
