-- The state is closed in the signature of the task, and what is asked is open there.
use Rattle.std.proofs.Common.{ℕ, sym, subst, Some}
use Rattle.fvn_combine_nodes.specs.States.{IsClosed, class_of}
use Rattle.fvn_combine_leaves.specs.Leaves.{IsFirstQuestion}
use Rattle.fvn_combine_leaves.specs.Readings.{IsReading}
use Rattle.fvn_combine.specs.Tasks.{Combining}
use Rattle.fvn_combine.proofs.looking.look_further.Goals as goal

pub first_question-requires : goal.first_question-requires
first_question-requires c = record {
  closed = subst (λ (k : Combining). IsClosed k.declarations k.table c.args.state.now) (sym c.task.view_is) c.requires.closed;
  reading = subst (λ (k : Combining). IsReading k.declarations k.table (class_of c.args.state.now) c.args.reading) (sym c.task.view_is) c.requires.reading;
}

pub asked-requires : goal.asked-requires
asked-requires c =
    let p : ℕ × ℕ = (c.in-Some.i, c.in-Some.j) in
    let q = subst (λ (k : Combining). IsFirstQuestion k.declarations k.table c.args.state.now (Some p)) c.task.view_is c.in-Some.ensures in
    record { closed = c.requires.closed; reading = c.requires.reading; heads = c.requires.heads; sorted = c.requires.sorted; left = q.0; right = q.1; «open» = q.2 }
