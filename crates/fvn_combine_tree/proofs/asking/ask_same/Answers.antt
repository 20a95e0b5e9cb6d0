-- The nodes are joined, and the state is closed again.
use Rattle.std.proofs.Common.{◌≡◌, ℕ, length, sym, ap, ◌∙◌, subst}
use Rattle.fvn_combine_nodes.specs.States.{IsNaming, class_of}
use Rattle.fvn_combine_nodes.specs.declared.state.State.{State}
use Rattle.fvn_combine_tree.specs.inner.Closing.{state_of, HasSameNodes, IsForced}
use Rattle.fvn_combine_tree.specs.inner.Chains.{HasRoom}
use Rattle.fvn_combine_tree.proofs.Starting.{moved_forced, joined_sides, same_is}
use Rattle.fvn_combine_tree.proofs.asking.ask_same.Goals as goal
use Rattle.fvn_combine_tree.proofs.asking.ask_same.Goals.{After-join-moved}

-- what joining the nodes of the state did
moved : (c : goal.After-join-moved) → HasSameNodes c.args.state.now (state_of c.join-moved.new.self) × IsForced (λ class. class c.args.i ≡ class c.args.j) c.args.state.now (state_of c.join-moved.new.self)
moved c =
    let e : state_of c.in_ok-closing.closing ≡ c.args.state.now = c.in_ok-closing.ensures in
    let Holds : (ℕ → ℕ) → Type 0 = λ class. class c.args.i ≡ class c.args.j in
    let both = moved_forced Holds (λ s. class_of s c.args.i ≡ class_of s c.args.j) (state_of c.in_ok-closing.closing) (state_of c.join-moved.new.self) c.join-moved.result (subst IsNaming (sym e) c.requires.closed.naming) c.join-moved.ensures.no_clash c.join-moved.ensures.moved in
    (subst (λ (s : State). HasSameNodes s (state_of c.join-moved.new.self)) e both.0, subst (λ (s : State). IsForced Holds s (state_of c.join-moved.new.self)) e both.1)

pub close-left-requires : goal.close-left-requires
close-left-requires c =
    let at = (goal.at.close-left-requires c).After-join-moved in
    record {
      naming = (moved at).0.naming;
      whole = (moved at).0.whole ∙ c.requires.closed.whole;
      sides = joined_sides c.args.sig.now c.args.table.now c.recall_well_made.ensures c.args.state.now c.requires.closed c.args.i c.args.j c.requires.left c.requires.right c.requires.open (state_of c.join-moved.new.self) (moved at).0 (moved at).1 c.join-moved.ensures.together;
      room = subst (λ n. HasRoom n c.in_ok-chains.chains) (ap length c.nodes.ensures) c.in_ok-chains.ensures;
    }

pub returns : goal.returns
returns c =
    let at = (goal.at.returns c).After-join-moved in
    same_is c.args.sig.now c.args.table.now c.recall_well_made.ensures c.args.state.now c.requires.closed c.args.i c.args.j c.requires.left c.requires.right c.requires.open (state_of c.join-moved.new.self) (moved at).0 (moved at).1 c.join-moved.ensures.together c.close-left.result c.close-left.ensures
