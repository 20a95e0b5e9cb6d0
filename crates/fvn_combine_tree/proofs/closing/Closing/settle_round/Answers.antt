-- All is settled where the heads are.
use Rattle.std.proofs.Common.{length, sym, ap, ◌∙◌, subst}
use Rattle.fvn_combine_nodes.specs.Classes.{IsNodePartition}
use Rattle.fvn_combine_nodes.specs.States.{IsNaming}
use Rattle.fvn_combine_nodes.specs.declared.state.State.{State}
use Rattle.fvn_combine_tree.specs.inner.Closing.{state_of, HasMoved}
use Rattle.fvn_combine_tree.specs.inner.Rounds.{IsAllSettled}
use Rattle.fvn_combine_tree.proofs.closing.Closing.settle_round.Goals as goal

pub settle_all-requires : goal.settle_all-requires
settle_all-requires c =
    let same = c.in-Stays.ensures.moved.0 in
    record { naming = subst IsNaming (sym same) c.requires.naming; whole = ap (λ (s : State). length s.names) same ∙ c.requires.whole; room = c.in-Stays.ensures.room }

pub returns-in-Stays-clause-moved : goal.returns-in-Stays-clause-moved
returns-in-Stays-clause-moved c = subst (λ s. HasMoved (IsNodePartition c.args.sig.now c.args.table.now) (IsAllSettled c.args.sig.now c.args.table.now) s (state_of c.settle_all.new.self) c.settle_all.result) c.in-Stays.ensures.moved.0 c.settle_all.ensures.moved
