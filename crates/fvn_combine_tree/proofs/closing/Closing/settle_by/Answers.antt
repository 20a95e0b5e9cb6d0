-- Chains by what is alike, and looks along them.
use Rattle.std.proofs.Common.{◌≡◌, length, sym, ap, ◌∙◌, subst}
use Rattle.fvn_combine_nodes.specs.Classes.{IsNodePartition}
use Rattle.fvn_combine_tree.specs.inner.Closing.{state_of}
use Rattle.fvn_combine_tree.specs.inner.Chains.{HasRoom, IsChained, AreKeys}
use Rattle.fvn_combine_tree.specs.inner.Rounds.{AreChainsSettled, IsSettledBy}
use Rattle.fvn_combine_tree.proofs.Moves.{moved-weaker}
use Rattle.fvn_combine_tree.proofs.Settling.{settled_by}
use Rattle.fvn_combine_tree.proofs.closing.Closing.settle_by.Goals as goal

pub chain-requires : goal.chain-requires
chain-requires c =
    let n : length c.as_slice.result.now ≡ length c.args.table.now.nodes = ap length c.as_slice.ensures.value ∙ c.requires.whole in
    record { room = subst (λ m. HasRoom m c.args.chains.now) (sym n) c.requires.room; whole = n }

pub settle_chains-requires : goal.settle_chains-requires
settle_chains-requires c =
    let n : length c.as_slice.result.now ≡ length c.args.table.now.nodes = ap length c.as_slice.ensures.value ∙ c.requires.whole in
    record {
      naming = c.requires.naming;
      whole = c.requires.whole;
      room = subst (λ m. HasRoom m c.chain.new.self) n c.chain.ensures.room;
      chained = subst (λ m. IsChained m c.chain.new.self.keys.items c.chain.new.self.before.items) n c.chain.ensures.chained;
    }

pub returns-clause-room : goal.returns-clause-room
returns-clause-room c =
    let n : length c.as_slice.result.now ≡ length c.args.table.now.nodes = ap length c.as_slice.ensures.value ∙ c.requires.whole in
    subst (λ m. HasRoom m c.chain.new.self) n c.chain.ensures.room

pub returns-clause-moved : goal.returns-clause-moved
returns-clause-moved c =
    let d = c.args.sig.now in
    let t = c.args.table.now in
    let a = state_of c.args.self.now in
    let keys = c.chain.new.self.keys.items in
    let are : AreKeys t.nodes a.names c.args.by keys = subst (λ ns. AreKeys t.nodes ns c.args.by keys) c.as_slice.ensures.value c.chain.ensures.keys in
    moved-weaker (IsNodePartition d t) (IsNodePartition d t) (AreChainsSettled d t keys (length t.nodes)) (IsSettledBy d t c.args.by) a (state_of c.settle_chains.new.self) c.settle_chains.result
    (λ class admits h. h) (settled_by d t a c.args.by keys are) c.settle_chains.ensures
