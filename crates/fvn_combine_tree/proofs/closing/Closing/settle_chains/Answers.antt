-- One more chain.
use Rattle.std.proofs.Common.{◌≡◌, ℕ, ◌+◌, length, refl, sym, ap, ◌∙◌, subst, below_more, arith}
use Rattle.fvn_combine_nodes.specs.Classes.{IsNodePartition}
use Rattle.fvn_combine_nodes.specs.declared.state.State.{State}
use Rattle.fvn_combine_tree.specs.inner.Closing.{state_of, HasMoved, HasSameNodes, then_move}
use Rattle.fvn_combine_tree.specs.inner.Rounds.{IsChainSettled, AreChainsSettled}
use Rattle.fvn_combine_tree.proofs.Moves.{moved_nodes, moved-then, moved-weaker, moved_clash}
use Rattle.fvn_combine_tree.proofs.closing.Closing.settle_chains.Goals as goal
use Rattle.fvn_combine_tree.proofs.closing.Closing.settle_chains.Goals.{After-then-whole}

pub loop-i-init : goal.loop-i-init
loop-i-init c = (refl, λ j h. absurd (omega arith))

pub settle_chain-one-requires : goal.settle_chain-one-requires
settle_chain-one-requires c =
    let d = c.args.sig.now in
    let t = c.args.table.now in
    let nodes : HasSameNodes (state_of c.args.self.now) (state_of c.loop-i.self) =
    moved_nodes (IsNodePartition d t) (AreChainsSettled d t c.args.chains.now.keys.items c.loop-i.i) (state_of c.args.self.now) (state_of c.loop-i.self) c.loop-i.whole c.requires.naming c.loop-i.invariant in
    let l = c.loop-i-test.true in
    let n : length c.nodes-i-end.result.now ≡ length t.nodes = ap length c.nodes-i-end.ensures in
    record { naming = nodes.naming; whole = nodes.whole ∙ c.requires.whole; room = c.requires.room; chained = c.requires.chained; within = omega arith }

-- both moves as one
both : (c : goal.After-then-whole) → HasMoved (IsNodePartition c.args.sig.now c.args.table.now) (AreChainsSettled c.args.sig.now c.args.table.now c.args.chains.now.keys.items (c.loop-i.i + 1)) (state_of c.args.self.now) (state_of c.settle_chain-one.new.self) c.then-whole.result
both c =
    let d = c.args.sig.now in
    let t = c.args.table.now in
    let keys = c.args.chains.now.keys.items in
    let i = c.loop-i.i in
    let a = state_of c.args.self.now in
    let b = state_of c.loop-i.self in
    let e = state_of c.settle_chain-one.new.self in
    let Holds : (ℕ → ℕ) → Type 0 = IsNodePartition d t in
    let S : State → Type 0 = AreChainsSettled d t keys i in
    let T : State → Type 0 = IsChainSettled d t keys i 0 in
    let U : State → Type 0 = AreChainsSettled d t keys (i + 1) in
    let one = moved-then Holds S T a b e c.loop-i.whole c.settle_chain-one.result c.requires.naming c.loop-i.invariant c.settle_chain-one.ensures in
    subst (HasMoved Holds U a e) (sym c.then-whole.ensures)
    (moved-weaker Holds Holds (λ s. S s × T s) U a e (then_move c.loop-i.whole c.settle_chain-one.result) (λ class admits h. h) (λ h. below_more (λ k. IsChainSettled d t keys k 0 a) i h.0 h.1) one)

pub loop-i-preserved : goal.loop-i-preserved
loop-i-preserved c = both (goal.at.loop-i-preserved c).After-then-whole

pub returns-in-Clashes : goal.returns-in-Clashes
returns-in-Clashes c = moved_clash (IsNodePartition c.args.sig.now c.args.table.now) (AreChainsSettled c.args.sig.now c.args.table.now c.args.chains.now.keys.items (c.loop-i.i + 1)) (AreChainsSettled c.args.sig.now c.args.table.now c.args.chains.now.keys.items (length c.args.table.now.nodes)) (state_of c.args.self.now) (state_of c.settle_chain-one.new.self) c.then-whole.result c.in-Clashes.is (both (goal.at.returns-in-Clashes c).After-then-whole)

pub returns : goal.returns
returns c =
    let end = c.loop-i-test.false in
    let n : length c.nodes-i-end.result.now ≡ length c.args.table.now.nodes = ap length c.nodes-i-end.ensures in
    moved-weaker (IsNodePartition c.args.sig.now c.args.table.now) (IsNodePartition c.args.sig.now c.args.table.now) (AreChainsSettled c.args.sig.now c.args.table.now c.args.chains.now.keys.items c.loop-i.i) (AreChainsSettled c.args.sig.now c.args.table.now c.args.chains.now.keys.items (length c.args.table.now.nodes)) (state_of c.args.self.now) (state_of c.loop-i.self) c.loop-i.whole
    (λ class admits h. h) (λ h j l. h j (omega arith)) c.loop-i.invariant
