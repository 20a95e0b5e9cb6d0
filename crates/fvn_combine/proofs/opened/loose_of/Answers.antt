-- Loose classes of the state, in the task; none where all unifiers are asked for.
use Rattle.std.proofs.Common.{◌≡◌, true, All, sym, ◌∙◌, subst}
use Rattle.std.proofs.lemmas.Bool.{false≢true}
use Rattle.fvn_combine_nodes.specs.States.{IsClosed}
use Rattle.fvn_combine_loose.specs.Loose.{IsLooseClass}
use Rattle.fvn_combine.specs.Tasks.{Combining}
use Rattle.fvn_combine.proofs.opened.loose_of.Goals as goal

pub loose_classes-requires : goal.loose_classes-requires
loose_classes-requires c = record { closed = subst (λ (k : Combining). IsClosed k.declarations k.table c.args.state.now) (sym c.task.view_is) c.requires.closed }

pub returns-clause-loose : goal.returns-clause-loose
returns-clause-loose c = subst (λ (k : Combining). All (IsLooseClass k.declarations k.table c.args.state.now) c.in_ok-loose.loose.items) c.task.view_is c.in_ok-loose.ensures

pub returns-clause-none : goal.returns-clause-none
returns-clause-none c = λ e. absurd (false≢true (sym e ∙ subst (λ (k : Combining). k.general ≡ true) c.task.view_is c.if-not-task.false))
