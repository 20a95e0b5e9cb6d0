-- A round without a change has settled all.
use Rattle.std.proofs.Common.{◌≡◌, sym, ◌∙◌, subst}
use Rattle.fvn_combine_nodes.specs.Classes.{IsNodePartition}
use Rattle.fvn_combine_tree.specs.inner.Closing.{state_of, HasSameNodes, IsForced}
use Rattle.fvn_combine_tree.specs.inner.Rounds.{IsAllSettled}
use Rattle.fvn_combine_tree.proofs.Moves.{same_nodes, same_nodes-trans, forced-refl, forced-trans}
use Rattle.fvn_combine_tree.proofs.closing.Closing.settle_fully.Goals as goal

-- what the moves so far and this one did
pub returns-in-Stays : goal.returns-in-Stays
returns-in-Stays c =
    let d = c.args.sig.now in
    let t = c.args.table.now in
    let a = state_of c.args.self.now in
    let e = state_of c.settle_round.new.self in
    let same : e ≡ state_of c.rounds.self = c.in-Stays.ensures.moved.0 in (
      subst (HasSameNodes a) (sym same) c.rounds.invariant.nodes,
      subst (IsForced (IsNodePartition d t) a) (sym same) c.rounds.invariant.forced,
      subst (IsAllSettled d t) (sym same) c.in-Stays.ensures.moved.1,
    )

pub returns-in-Clashes : goal.returns-in-Clashes
returns-in-Clashes c = λ class partition admits. c.in-Clashes.ensures.moved.1 class partition (c.rounds.invariant.forced.forced class partition admits)

pub settle_round-requires : goal.settle_round-requires
settle_round-requires c = record { naming = c.rounds.invariant.nodes.naming; whole = c.rounds.invariant.nodes.whole ∙ c.requires.whole; room = c.rounds.invariant.room }

pub rounds-init : goal.rounds-init
rounds-init c = record { nodes = same_nodes (state_of c.args.self.now) c.requires.naming; forced = forced-refl (IsNodePartition c.args.sig.now c.args.table.now) (state_of c.args.self.now) c.requires.naming; room = c.requires.room }

pub rounds-preserved : goal.rounds-preserved
rounds-preserved c =
    let a = state_of c.args.self.now in
    let b = state_of c.rounds.self in
    let e = state_of c.settle_round.new.self in
    record {
      nodes = same_nodes-trans a b e c.rounds.invariant.nodes c.in-Changes.ensures.moved.0;
      forced = forced-trans (IsNodePartition c.args.sig.now c.args.table.now) a b e c.requires.naming c.rounds.invariant.nodes c.rounds.invariant.forced c.in-Changes.ensures.moved.1;
      room = c.in-Changes.ensures.room;
    }

pub rounds-smaller : goal.rounds-smaller
rounds-smaller c = c.in-Changes.ensures.moved.2
