-- One more place.
use Rattle.std.proofs.Common.{◌≡◌, ℕ, ◌+◌, ◌<◌, length, get_or, refl, sym, subst, below_more, arith}
use Rattle.fvn_combine_nodes.specs.Classes.{AreTogether}
use Rattle.fvn_combine_nodes.specs.States.{class_of}
use Rattle.fvn_combine_nodes.specs.declared.state.State.{State}
use Rattle.fvn_combine_tree.specs.inner.Closing.{state_of, HasMoved, HasSameNodes}
use Rattle.fvn_combine_tree.proofs.Moves.{same_nodes, moved_nodes, moved-then, moved-weaker}
use Rattle.fvn_combine_tree.proofs.Alike.{together-at, together-from, together-length}
use Rattle.fvn_combine_tree.proofs.closing.Closing.join_all.Goals as goal

pub returns-then-ks-ls : goal.returns-then-ks-ls
returns-then-ks-ls c = (same_nodes (state_of c.args.self.now) c.requires.naming, λ class h admits. c.if-ks-ls.true (together-length class c.args.ks.now c.args.ls.now h))

pub loop-i-init : goal.loop-i-init
loop-i-init c = (refl, λ k h. absurd (omega arith))

pub join-one-requires : goal.join-one-requires
join-one-requires c =
    let ks = c.args.ks.now in
    let ls = c.args.ls.now in
    let a = state_of c.args.self.now in
    let nodes : HasSameNodes a (state_of c.loop-i.self) =
    moved_nodes (λ class. AreTogether class ks ls) (λ s. (k : ℕ) → k < c.loop-i.i → class_of s (get_or ks k 0) ≡ class_of s (get_or ls k 0)) a (state_of c.loop-i.self) c.loop-i.whole c.requires.naming c.loop-i.invariant in
    let w = nodes.whole in
    let t = c.loop-i-test.true in
    let e = c.if-ks-ls.false in
    let l = c.requires.left c.loop-i.i 0 t in
    let m = c.requires.right c.loop-i.i 0 (omega arith) in
    record { naming = nodes.naming; left = omega arith; right = omega arith }

pub loop-i-preserved : goal.loop-i-preserved
loop-i-preserved c =
    let ks = c.args.ks.now in
    let ls = c.args.ls.now in
    let i = c.loop-i.i in
    let k = get_or ks i 0 in
    let l = get_or ls i 0 in
    let a = state_of c.args.self.now in
    let b = state_of c.loop-i.self in
    let e = state_of c.join-one.new.self in
    let Holds : (ℕ → ℕ) → Type 0 = λ class. AreTogether class ks ls in
    let S : State → Type 0 = λ s. (n : ℕ) → n < i → class_of s (get_or ks n 0) ≡ class_of s (get_or ls n 0) in
    let T : State → Type 0 = λ s. class_of s k ≡ class_of s l in
    let t = c.loop-i-test.true in
    let u : i < length ls = let n = c.if-ks-ls.false in omega arith in
    let one : HasMoved Holds T b e c.join-one.result = moved-weaker (λ class. class k ≡ class l) Holds T T b e c.join-one.result (λ class admits h. together-at class ks ls h i t u) (λ h. h) c.join-one.ensures.moved in
    let both = moved-then Holds S T a b e c.loop-i.whole c.join-one.result c.requires.naming c.loop-i.invariant one in
    subst (HasMoved Holds (λ s. (n : ℕ) → n < i + 1 → class_of s (get_or ks n 0) ≡ class_of s (get_or ls n 0)) a e) (sym c.then-whole.ensures)
    (moved-weaker Holds Holds (λ s. S s × T s) (λ s. (n : ℕ) → n < i + 1 → class_of s (get_or ks n 0) ≡ class_of s (get_or ls n 0)) a e _ (λ class admits h. h) (λ h. below_more _ _ h.0 h.1) both)

pub returns : goal.returns
returns c =
    let ks = c.args.ks.now in
    let ls = c.args.ls.now in
    let end = c.loop-i-test.false in
    moved-weaker (λ class. AreTogether class ks ls) (λ class. AreTogether class ks ls) (λ s. (k : ℕ) → k < c.loop-i.i → class_of s (get_or ks k 0) ≡ class_of s (get_or ls k 0)) (λ s. AreTogether (class_of s) ks ls) (state_of c.args.self.now) (state_of c.loop-i.self) c.loop-i.whole
    (λ class admits h. h) (λ h. together-from (class_of (state_of c.args.self.now)) ks ls c.if-ks-ls.false (λ k l. h k (omega arith))) c.loop-i.invariant
