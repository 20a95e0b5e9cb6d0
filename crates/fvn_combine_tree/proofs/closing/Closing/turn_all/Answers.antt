-- Two and two nodes meet; of others nothing is asked.
use Rattle.std.proofs.Common.{◌⊎◌, get_or, refl, inl, inr}
use Rattle.fvn_combine_nodes.specs.Classes.{MeetEitherWay, MeetInPairs}
use Rattle.fvn_combine_nodes.specs.States.{class_of, IsOpen}
use Rattle.fvn_combine_tree.specs.inner.Closing.{state_of}
use Rattle.fvn_combine_tree.proofs.Moves.{moved-weaker}
use Rattle.fvn_combine_tree.proofs.Alike.{pairs_meet, meet_in_pairs, no_pair}
use Rattle.fvn_combine_tree.proofs.closing.Closing.turn_all.Goals as goal

pub returns-then-ks-ne2 : goal.returns-then-ks-ne2
returns-then-ks-ne2 c = (refl, no_pair (IsOpen (state_of c.args.self.now)) (class_of (state_of c.args.self.now)) c.args.ks.now c.args.ls.now (inl c.if-ks-ne2.true))

pub returns-then-ls-ne2 : goal.returns-then-ls-ne2
returns-then-ls-ne2 c = (refl, no_pair (IsOpen (state_of c.args.self.now)) (class_of (state_of c.args.self.now)) c.args.ks.now c.args.ls.now (inr c.if-ls-ne2.true))

pub returns : goal.returns
returns c =
    let ks = c.args.ks.now in
    let ls = c.args.ls.now in
    let s = state_of c.args.self.now in
    moved-weaker (λ class. MeetEitherWay class (get_or ks 0 0) (get_or ks 1 0) (get_or ls 0 0) (get_or ls 1 0)) (MeetInPairs (λ a v. ⊥) ks ls)
    (λ s. MeetEitherWay (class_of s) (get_or ks 0 0) (get_or ks 1 0) (get_or ls 0 0) (get_or ls 1 0) ⊎ IsOpen s (get_or ks 0 0) (get_or ls 0 0)) (λ s. MeetInPairs (IsOpen s) ks ls (class_of s)) s (state_of c.turn.new.self) c.turn.result
    (λ class admits h. pairs_meet class ks ls c.if-ks-ne2.false c.if-ls-ne2.false h) (meet_in_pairs (IsOpen s) (class_of s) ks ls) c.turn.ensures
