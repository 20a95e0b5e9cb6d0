-- One more node of the chain.
use Rattle.std.proofs.Common.{ℕ, ◌-◌, refl, sym, subst, arith}
use Rattle.fvn_combine_nodes.specs.Classes.{IsNodePartition}
use Rattle.fvn_combine_nodes.specs.declared.state.State.{State}
use Rattle.fvn_combine_tree.specs.inner.Closing.{state_of, HasMoved}
use Rattle.fvn_combine_tree.specs.inner.Rounds.{AreSettled, IsChainSettled}
use Rattle.fvn_combine_tree.proofs.Moves.{moved-then, moved-weaker, moved_clash}
use Rattle.fvn_combine_tree.proofs.Chaining.{from_next_end}
use Rattle.fvn_combine_tree.proofs.closing.Closing.settle_chain.Goals as goal
use Rattle.fvn_combine_tree.proofs.closing.Closing.settle_chain.Goals.{After-then-whole}

pub loop-end-init : goal.loop-end-init
loop-end-init c = record { within = c.end-end.ensures.lower; moved = (refl, λ j low l e. absurd (let n = c.end-end.ensures.end j l e in omega arith)) }

-- both moves as one
both : (c : goal.After-then-whole) → HasMoved (IsNodePartition c.args.sig.now c.args.table.now) (λ s. IsChainSettled c.args.sig.now c.args.table.now c.args.chains.now.keys.items c.args.i c.loop-end.end s × AreSettled c.args.sig.now c.args.table.now c.args.i (c.loop-end.end - 1) s) (state_of c.args.self.now) (state_of c.settle-one.new.self) c.then-whole.result
both c =
    let d = c.args.sig.now in
    let t = c.args.table.now in
    let i = c.args.i in
    let end = c.loop-end.end in
    let a = state_of c.args.self.now in
    let b = state_of c.loop-end.self in
    let e = state_of c.settle-one.new.self in
    let Holds : (ℕ → ℕ) → Type 0 = IsNodePartition d t in
    let S : State → Type 0 = IsChainSettled d t c.args.chains.now.keys.items i end in
    let T : State → Type 0 = AreSettled d t i (end - 1) in
    subst (HasMoved Holds (λ s. S s × T s) a e) (sym c.then-whole.ensures)
    (moved-then Holds S T a b e c.loop-end.whole c.settle-one.result c.requires.naming c.loop-end.invariant.moved c.settle-one.ensures)

pub loop-end-preserved : goal.loop-end-preserved
loop-end-preserved c =
    let d = c.args.sig.now in
    let t = c.args.table.now in
    let keys = c.args.chains.now.keys.items in
    let i = c.args.i in
    let end = c.loop-end.end in
    let next = c.end-end-in-loop-end.result in
    let a = state_of c.args.self.now in
    let e = state_of c.settle-one.new.self in
    let test = c.loop-end-test.true in
    let lower = c.end-end-in-loop-end.ensures.lower in
    let within = c.loop-end.invariant.within in
    let Holds : (ℕ → ℕ) → Type 0 = IsNodePartition d t in
    let U : State → Type 0 = IsChainSettled d t keys i next in
    let V : State → Type 0 = λ s. IsChainSettled d t keys i end s × AreSettled d t i (end - 1) s in
    record {
      within = omega arith;
      moved = moved-weaker Holds Holds V U a e c.then-whole.result (λ class admits h. h) (λ h. from_next_end keys (λ m. AreSettled d t i m a) i end (end - 1) next (omega arith) c.end-end-in-loop-end.ensures.end h.0 h.1) (both (goal.at.loop-end-preserved c).After-then-whole);
    }

pub returns-in-Clashes : goal.returns-in-Clashes
returns-in-Clashes c =
    let d = c.args.sig.now in
    let t = c.args.table.now in
    let keys = c.args.chains.now.keys.items in
    let i = c.args.i in
    let end = c.loop-end.end in
    moved_clash (IsNodePartition d t) (λ s. IsChainSettled d t keys i end s × AreSettled d t i (end - 1) s) (IsChainSettled d t keys i 0) (state_of c.args.self.now) (state_of c.settle-one.new.self) c.then-whole.result c.in-Clashes.is (both (goal.at.returns-in-Clashes c).After-then-whole)

pub returns : goal.returns
returns c =
    let d = c.args.sig.now in
    let t = c.args.table.now in
    let keys = c.args.chains.now.keys.items in
    let i = c.args.i in
    let end = c.loop-end-test.false in
    moved-weaker (IsNodePartition d t) (IsNodePartition d t) (IsChainSettled d t keys i c.loop-end.end) (IsChainSettled d t keys i 0) (state_of c.args.self.now) (state_of c.loop-end.self) c.loop-end.whole
    (λ class admits h. h) (λ h j low l. h j (omega arith) l) c.loop-end.invariant.moved
