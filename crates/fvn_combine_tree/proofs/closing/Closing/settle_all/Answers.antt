-- What is alike in one way and in the other.
use Rattle.std.proofs.Common.{ℕ, sym, ◌∙◌, subst}
use Rattle.fvn_combine_nodes.specs.Classes.{IsNodePartition}
use Rattle.fvn_combine_nodes.specs.declared.state.State.{State}
use Rattle.fvn_combine_tree.specs.declared.chains.By.TheVariants.{Class, Arguments}
use Rattle.fvn_combine_tree.specs.inner.Closing.{state_of, HasMoved, HasSameNodes, then_move}
use Rattle.fvn_combine_tree.specs.inner.Rounds.{IsSettledBy, IsAllSettled}
use Rattle.fvn_combine_tree.proofs.Moves.{moved_nodes, moved-then, moved-weaker}
use Rattle.fvn_combine_tree.proofs.Settling.{all_settled}
use Rattle.fvn_combine_tree.proofs.closing.Closing.settle_all.Goals as goal

pub settle_by-other-requires : goal.settle_by-other-requires
settle_by-other-requires c =
    let d = c.args.sig.now in
    let t = c.args.table.now in
    let nodes : HasSameNodes (state_of c.args.self.now) (state_of c.settle_by-one.new.self) =
    moved_nodes (IsNodePartition d t) (IsSettledBy d t Class) (state_of c.args.self.now) (state_of c.settle_by-one.new.self) c.settle_by-one.result c.requires.naming c.settle_by-one.ensures.moved in
    record { naming = nodes.naming; whole = nodes.whole ∙ c.requires.whole; room = c.settle_by-one.ensures.room }

pub returns-clause-moved : goal.returns-clause-moved
returns-clause-moved c =
    let d = c.args.sig.now in
    let t = c.args.table.now in
    let a = state_of c.args.self.now in
    let b = state_of c.settle_by-one.new.self in
    let e = state_of c.settle_by-other.new.self in
    let Holds : (ℕ → ℕ) → Type 0 = IsNodePartition d t in
    let S : State → Type 0 = IsSettledBy d t Class in
    let T : State → Type 0 = IsSettledBy d t Arguments in
    let U : State → Type 0 = IsAllSettled d t in
    let both = moved-then Holds S T a b e c.settle_by-one.result c.settle_by-other.result c.requires.naming c.settle_by-one.ensures.moved c.settle_by-other.ensures.moved in
    subst (HasMoved Holds U a e) (sym c.then.ensures)
    (moved-weaker Holds Holds (λ s. S s × T s) U a e (then_move c.settle_by-one.result c.settle_by-other.result) (λ class admits h. h) (λ h. all_settled d t a h.0 h.1) both)
