-- The way that is known.
use Rattle.std.proofs.Common.{◌≡◌, ◌⊎◌, ◌<◌, true, length, refl, sym, ◌∙◌, inl, inr}
use Rattle.fvn_combine_nodes.specs.Classes.{MeetEitherWay}
use Rattle.fvn_combine_nodes.specs.States.{class_of, IsOpen}
use Rattle.fvn_combine_tree.specs.inner.Closing.{state_of, is_straight}
use Rattle.fvn_combine_tree.proofs.Moves.{moved-weaker}
use Rattle.fvn_combine_tree.proofs.Alike.{straight, crosswise, undecided, four}
use Rattle.fvn_combine_tree.proofs.closing.Closing.turn.Goals as goal

pub returns-then-is_straight : goal.returns-then-is_straight
returns-then-is_straight c =
    let s = state_of c.args.self.now in
    let a = c.args.a in
    let b = c.args.b in
    let v = c.args.v in
    let w = c.args.w in
    let e : is_straight s a b v w ≡ true = sym c.is_straight.ensures ∙ c.if-is_straight.true in
    let h = four (λ k. k < length s.names) a b v w c.requires.all in
    moved-weaker (λ class. (class a ≡ class v) × (class b ≡ class w)) (λ class. MeetEitherWay class a b v w) (λ s. (class_of s a ≡ class_of s v) × (class_of s b ≡ class_of s w)) (λ s. MeetEitherWay (class_of s) a b v w ⊎ IsOpen s a v) s (state_of c.join_both.new.self) c.join_both.result
    (λ class admits m. straight s c.requires.naming a b v w h.0 h.1 h.2 h.3 e class admits m) (λ m. inl (inl m)) c.join_both.ensures

pub returns-then-is_straight-2 : goal.returns-then-is_straight-2
returns-then-is_straight-2 c =
    let s = state_of c.args.self.now in
    let a = c.args.a in
    let b = c.args.b in
    let v = c.args.v in
    let w = c.args.w in
    let e : is_straight s a b w v ≡ true = sym c.is_straight-2.ensures ∙ c.if-is_straight-2.true in
    let h = four (λ k. k < length s.names) a b v w c.requires.all in
    let done = c.join_both-then-is_straight-2 in
    moved-weaker (λ class. (class a ≡ class w) × (class b ≡ class v)) (λ class. MeetEitherWay class a b v w) (λ s. (class_of s a ≡ class_of s w) × (class_of s b ≡ class_of s v)) (λ s. MeetEitherWay (class_of s) a b v w ⊎ IsOpen s a v) s (state_of done.new.self) done.result
    (λ class admits m. straight s c.requires.naming a b w v h.0 h.1 h.3 h.2 e class admits (crosswise class a b v w m)) (λ m. inl (inr m)) done.ensures

pub returns : goal.returns
returns c = (refl, inr (undecided (state_of c.args.self.now) c.args.a c.args.b c.args.v c.args.w (sym c.is_straight.ensures ∙ c.if-is_straight.false) (sym c.is_straight-2.ensures ∙ c.if-is_straight-2.false)))
