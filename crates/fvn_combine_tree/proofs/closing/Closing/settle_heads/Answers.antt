-- One more node.
use Rattle.std.proofs.Common.{◌≡◌, ℕ, length, refl, sym, ap, ◌∙◌, subst}
use Rattle.fvn_combine_nodes.specs.Classes.{IsNodePartition}
use Rattle.fvn_combine_nodes.specs.States.{IsNaming}
use Rattle.fvn_combine_tree.specs.inner.Closing.{state_of, HasMoved, HasSameNodes, then_move}
use Rattle.fvn_combine_tree.specs.inner.Chains.{HasRoom}
use Rattle.fvn_combine_tree.proofs.Moves.{moved_nodes, moved-then, moved-weaker}
use Rattle.fvn_combine_tree.proofs.closing.Closing.settle_heads.Goals as goal

pub lead_all-requires : goal.lead_all-requires
lead_all-requires c =
    let n : length c.as_slice.result.now ≡ length c.args.table.now.nodes = ap length c.as_slice.ensures.value ∙ c.requires.whole in
    record { room = subst (λ m. HasRoom m c.args.chains.now) (sym n) c.requires.room; whole = n }

pub loop-k-init : goal.loop-k-init
loop-k-init c =
    let n : length c.as_slice.result.now ≡ length c.args.table.now.nodes = ap length c.as_slice.ensures.value ∙ c.requires.whole in
    record { room = subst (λ m. HasRoom m c.lead_all.new.self) n c.lead_all.ensures.room; moved = (refl, c.requires.naming) }

pub loop-k-preserved : goal.loop-k-preserved
loop-k-preserved c =
    let d = c.args.sig.now in
    let t = c.args.table.now in
    let a = state_of c.args.self.now in
    let b = state_of c.loop-k.self in
    let e = state_of c.settle_down-one.new.self in
    let Holds : (ℕ → ℕ) → Type 0 = IsNodePartition d t in
    let nodes : HasSameNodes a b = moved_nodes Holds IsNaming a b c.loop-k.whole c.requires.naming c.loop-k.invariant.moved in
    let n : length c.as_slice-in-loop-k.result.now ≡ length t.nodes = ap length c.as_slice-in-loop-k.ensures.value ∙ nodes.whole ∙ c.requires.whole in
    let both = moved-then Holds IsNaming IsNaming a b e c.loop-k.whole c.settle_down-one.result c.requires.naming c.loop-k.invariant.moved c.settle_down-one.ensures in
    record {
      room = subst (λ m. HasRoom m c.head-head.new.self) n c.head-head.ensures.room;
      moved = subst (HasMoved Holds IsNaming a e) (sym c.then-whole.ensures)
          (moved-weaker Holds Holds (λ s. IsNaming s × IsNaming s) IsNaming a e (then_move c.loop-k.whole c.settle_down-one.result) (λ class admits h. h) (λ h. h.0) both);
    }
