-- Two moves, one after the other.
use Rattle.std.proofs.Common.{◌≡◌, ℕ, sym, subst, arith}
use Rattle.fvn_combine_nodes.specs.States.{class_of}
use Rattle.fvn_combine_nodes.specs.declared.state.State.{State}
use Rattle.fvn_combine_tree.specs.inner.Closing.{state_of, HasMoved}
use Rattle.fvn_combine_tree.proofs.Moves.{moved_nodes, moved-then, moved-weaker}
use Rattle.fvn_combine_tree.proofs.closing.Closing.join_both.Goals as goal

pub join-other-requires : goal.join-other-requires
join-other-requires c =
    let p = c.args.first in
    let nodes = moved_nodes (λ class. class p.0 ≡ class p.1) (λ s. class_of s p.0 ≡ class_of s p.1) (state_of c.args.self.now) (state_of c.join-one.new.self) c.join-one.result c.requires.naming c.join-one.ensures.moved in
    let w = nodes.whole in
    let l = c.requires.second.0 in
    let m = c.requires.second.1 in
    record { naming = nodes.naming; left = omega arith; right = omega arith }

pub returns : goal.returns
returns c =
    let p = c.args.first in
    let q = c.args.second in
    let a = state_of c.args.self.now in
    let b = state_of c.join-one.new.self in
    let e = state_of c.join-other.new.self in
    let Holds : (ℕ → ℕ) → Type 0 = λ class. (class p.0 ≡ class p.1) × (class q.0 ≡ class q.1) in
    let S : State → Type 0 = λ s. class_of s p.0 ≡ class_of s p.1 in
    let T : State → Type 0 = λ s. class_of s q.0 ≡ class_of s q.1 in
    let one : HasMoved Holds S a b c.join-one.result = moved-weaker (λ class. class p.0 ≡ class p.1) Holds S S a b c.join-one.result (λ class admits h. h.0) (λ h. h) c.join-one.ensures.moved in
    let other : HasMoved Holds T b e c.join-other.result = moved-weaker (λ class. class q.0 ≡ class q.1) Holds T T b e c.join-other.result (λ class admits h. h.1) (λ h. h) c.join-other.ensures.moved in
    subst (HasMoved Holds (λ s. S s × T s) a e) (sym c.then.ensures) (moved-then Holds S T a b e c.join-one.result c.join-other.result c.requires.naming one other)
