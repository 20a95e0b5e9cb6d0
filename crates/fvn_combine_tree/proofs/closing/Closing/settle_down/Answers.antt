-- One more pair.
use Rattle.std.proofs.Common.{◌≡◌, ℕ, ◌<◌, length, refl, sym, ap, ◌∙◌, subst}
use Rattle.fvn_combine_nodes.specs.Classes.{IsNodePartition}
use Rattle.fvn_combine_nodes.specs.States.{IsNaming}
use Rattle.fvn_combine_nodes.specs.declared.state.State.{State}
use Rattle.fvn_combine_tree.specs.declared.closing.Move.TheVariants.{Changes}
use Rattle.fvn_combine_tree.specs.inner.Closing.{state_of, HasMoved, HasSameNodes, then_move}
use Rattle.fvn_combine_tree.specs.inner.Rounds.{AreSettled}
use Rattle.fvn_combine_tree.proofs.Moves.{moved_nodes, moved-then, moved-weaker}
use Rattle.fvn_combine_tree.proofs.closing.Closing.settle_down.Goals as goal
use Rattle.fvn_combine_tree.proofs.closing.Closing.settle_down.Goals.{After-then-whole}

pub down-init : goal.down-init
down-init c = record { left = c.requires.left; right = c.requires.right; moved = (refl, c.requires.naming) }

-- both moves as one
both : (c : goal.After-then-whole) → HasMoved (IsNodePartition c.args.sig.now c.args.table.now) IsNaming (state_of c.args.self.now) (state_of c.settle-one.new.self) c.then-whole.result
both c =
    let d = c.args.sig.now in
    let t = c.args.table.now in
    let a = state_of c.args.self.now in
    let b = state_of c.down.self in
    let e = state_of c.settle-one.new.self in
    let Holds : (ℕ → ℕ) → Type 0 = IsNodePartition d t in
    let T : State → Type 0 = AreSettled d t c.down.pair.0 c.down.pair.1 in
    subst (HasMoved Holds IsNaming a e) (sym c.then-whole.ensures)
    (moved-weaker Holds Holds (λ s. IsNaming s × T s) IsNaming a e (then_move c.down.whole c.settle-one.result) (λ class admits h. h) (λ h. h.0)
    (moved-then Holds IsNaming T a b e c.down.whole c.settle-one.result c.requires.naming c.down.invariant.moved c.settle-one.ensures))

pub returns-in-Stays : goal.returns-in-Stays
returns-in-Stays c = both (goal.at.returns-in-Stays c).After-then-whole

pub returns-in-Clashes : goal.returns-in-Clashes
returns-in-Clashes c = both (goal.at.returns-in-Clashes c).After-then-whole

pub down-preserved : goal.down-preserved
down-preserved c =
    let d = c.args.sig.now in
    let t = c.args.table.now in
    let nodes : HasSameNodes (state_of c.args.self.now) (state_of c.down.self) = moved_nodes (IsNodePartition d t) IsNaming (state_of c.args.self.now) (state_of c.down.self) c.down.whole c.requires.naming c.down.invariant.moved in
    let n : length c.as_slice.result.now ≡ length t.nodes = ap length c.as_slice.ensures.value ∙ nodes.whole ∙ c.requires.whole in
    record {
      left = subst (λ m. c.beneath-next.result.0 < m) n c.beneath-next.ensures.0;
      right = subst (λ m. c.beneath-next.result.1 < m) n c.beneath-next.ensures.1;
      moved = both (goal.at.down-preserved c).After-then-whole;
    }

pub down-smaller : goal.down-smaller
down-smaller c =
    let moved : HasMoved (IsNodePartition c.args.sig.now c.args.table.now) (AreSettled c.args.sig.now c.args.table.now c.down.pair.0 c.down.pair.1) (state_of c.down.self) (state_of c.settle-one.new.self) Changes = subst (HasMoved (IsNodePartition c.args.sig.now c.args.table.now) (AreSettled c.args.sig.now c.args.table.now c.down.pair.0 c.down.pair.1) (state_of c.down.self) (state_of c.settle-one.new.self)) c.in-Changes.is c.settle-one.ensures in
    moved.2
