-- What every partition has, closed.
use Rattle.std.proofs.Common.{◌<◌, length, All, sym, ap, ◌∙◌, subst}
use Rattle.fvn_combine_tree.specs.inner.Closing.{state_of}
use Rattle.fvn_combine_tree.specs.inner.Starts.{IsSingles, IsJoinedFrom}
use Rattle.fvn_combine_tree.specs.inner.Chains.{HasRoom}
use Rattle.fvn_combine_tree.proofs.Starting.{singles_naming, started_sides, start_is}
use Rattle.fvn_combine_tree.proofs.asking.start.Goals as goal
use Rattle.fvn_combine_tree.proofs.asking.start.Goals.{After-join_sides}

-- each node in a class of its own, and then the sides joined
begun : (c : goal.After-join_sides) → IsSingles (length c.args.table.now.nodes) (state_of c.in_ok-closing.closing)
begun c = subst (λ l. IsSingles (length l) (state_of c.in_ok-closing.closing)) c.nodes.ensures c.in_ok-closing.ensures

joined : (c : goal.After-join_sides) → IsJoinedFrom c.args.table.now.sides (state_of c.in_ok-closing.closing) (state_of c.join_sides.new.closing)
joined c = subst (λ l. IsJoinedFrom l (state_of c.in_ok-closing.closing) (state_of c.join_sides.new.closing)) c.sides.ensures c.join_sides.ensures

pub join_sides-requires : goal.join_sides-requires
join_sides-requires c =
    let singles : IsSingles (length c.args.table.now.nodes) (state_of c.in_ok-closing.closing) = subst (λ l. IsSingles (length l) (state_of c.in_ok-closing.closing)) c.nodes.ensures c.in_ok-closing.ensures in
    record {
      naming = singles_naming (length c.args.table.now.nodes) (state_of c.in_ok-closing.closing) singles;
      sides =
          subst (λ n. All (λ p. (p.0 < n) × (p.1 < n)) c.sides.result.now) (sym singles.whole)
          (subst (All (λ p. (p.0 < length c.args.table.now.nodes) × (p.1 < length c.args.table.now.nodes))) (sym c.sides.ensures) c.recall_well_made.ensures.sides);
    }

pub close-state-requires : goal.close-state-requires
close-state-requires c =
    let at = (goal.at.close-state-requires c).After-join_sides in
    record {
      naming = (joined at).nodes.naming;
      whole = (joined at).nodes.whole ∙ (begun at).whole;
      sides = started_sides c.args.sig.now c.args.table.now (state_of c.in_ok-closing.closing) (state_of c.join_sides.new.closing) (begun at) (joined at);
      room = subst (λ n. HasRoom n c.in_ok-chains.chains) (ap length c.nodes-2.ensures) c.in_ok-chains.ensures;
    }

pub returns : goal.returns
returns c =
    let at = (goal.at.returns c).After-join_sides in
    start_is c.args.sig.now c.args.table.now (state_of c.in_ok-closing.closing) (state_of c.join_sides.new.closing) (begun at) (joined at) c.close-state.result c.close-state.ensures
