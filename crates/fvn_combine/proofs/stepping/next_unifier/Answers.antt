-- What is ahead stays so until a unifier is found.
use Rattle.std.proofs.Common.{◌<◌, ◌≤◌, sym, subst}
use Rattle.std.proofs.Math.Nat.{le_trans, lt_of_lt_of_le}
use Rattle.std.proofs.lemmas.Result.{err_from_is_err_and}
use Rattle.fvn_combine.specs.Search.{HasNoQuestion, HasNoChoiceAt, IsCoveredAt, IsOpenedAt}
use Rattle.fvn_combine.specs.Advancing.{IsCovered}
use Rattle.fvn_combine.specs.inner.Found.{IsDrawnFrom, IsStep, IsAheadAsBefore, AreFound, LeavesLess}
use Rattle.fvn_combine.specs.Work.{left_at}
use Rattle.fvn_combine.proofs.Less.{leaf_falls, leaf_stays}
use Rattle.fvn_combine.proofs.Ahead.{leaf_kept, leaf_gives, nothing_ahead, ahead_after}
use Rattle.fvn_combine.proofs.Ends.{no_choice}
use Rattle.fvn_combine.proofs.stepping.next_unifier.Goals as goal

pub returns-in_err-next_in-clause-found : goal.returns-in_err-next_in-clause-found
returns-in_err-next_in-clause-found c =
    let p = err_from_is_err_and c.from_residual.result c.from_residual.ensures.1 in
    subst (AreFound c.args.task.now c.args.tree.now c.args.leaf.now c.steps.tree c.next_in.new.leaf) (sym p.1) (leaf_kept c.args.task.now c.args.tree.now c.args.leaf.now c.steps.tree c.steps.leaf c.steps.invariant.same c.next_in.new.leaf c.in_err-next_in.ensures.drawn c.next_in.ensures.fewer)

pub returns-in-TooLarge-clause-found : goal.returns-in-TooLarge-clause-found
returns-in-TooLarge-clause-found c =
    let k = c.args.task.now in
    let h = subst (IsDrawnFrom k (IsCoveredAt k c.steps.leaf) (IsCoveredAt k c.next_in.new.leaf)) c.in-TooLarge.is c.in_ok-next_in.ensures.drawn in
    (h.0, tt, tt, leaf_kept k c.args.tree.now c.args.leaf.now c.steps.tree c.steps.leaf c.steps.invariant.same c.next_in.new.leaf h.1 c.next_in.ensures.fewer)

pub returns-in-Unifier-clause-found : goal.returns-in-Unifier-clause-found
returns-in-Unifier-clause-found c =
    let k = c.args.task.now in
    let h = subst (IsDrawnFrom k (IsCoveredAt k c.steps.leaf) (IsCoveredAt k c.next_in.new.leaf)) c.in-Unifier.is c.in_ok-next_in.ensures.drawn in
    (h.0, leaf_gives k c.args.tree.now c.args.leaf.now c.steps.tree c.steps.leaf c.steps.invariant.same c.next_in.new.leaf (IsCovered k c.in-Unifier.g) h.1)

pub returns-in_err-take_step-clause-opened : goal.returns-in_err-take_step-clause-opened
returns-in_err-take_step-clause-opened c = subst (IsOpenedAt c.args.task.now) (sym c.in_err-take_step.ensures.no_memory.1) c.next_in.ensures.opened

pub returns-in_err-take_step-clause-found : goal.returns-in_err-take_step-clause-found
returns-in_err-take_step-clause-found c =
    let k = c.args.task.now in
    let none = subst (IsDrawnFrom k (IsCoveredAt k c.steps.leaf) (IsCoveredAt k c.next_in.new.leaf)) c.in-Nothing.is c.in_ok-next_in.ensures.drawn in
    let e = c.in_err-take_step.ensures.no_memory in
    let p = err_from_is_err_and c.from_residual-in_err-take_step.result c.from_residual-in_err-take_step.ensures.1 in
    subst (AreFound k c.args.tree.now c.args.leaf.now c.take_step.new.tree c.take_step.new.leaf) (sym p.1) (subst (λ l. IsAheadAsBefore k c.args.tree.now c.args.leaf.now l c.take_step.new.leaf) (sym e.0)
    (subst (IsAheadAsBefore k c.args.tree.now c.args.leaf.now c.steps.tree) (sym e.1)
    (leaf_kept k c.args.tree.now c.args.leaf.now c.steps.tree c.steps.leaf c.steps.invariant.same c.next_in.new.leaf (λ u h. absurd (none u h)) c.next_in.ensures.fewer)))

pub returns-in-Over-clause-opened : goal.returns-in-Over-clause-opened
returns-in-Over-clause-opened c =
    let s = subst (IsStep c.args.task.now c.steps.tree c.next_in.new.leaf c.take_step.new.tree c.take_step.new.leaf) c.in-Over.is c.in_ok-take_step.ensures.stepped in
    subst (IsOpenedAt c.args.task.now) (sym s.2) c.next_in.ensures.opened

pub returns-in-Over-clause-found : goal.returns-in-Over-clause-found
returns-in-Over-clause-found c =
    let k = c.args.task.now in
    let none = subst (IsDrawnFrom k (IsCoveredAt k c.steps.leaf) (IsCoveredAt k c.next_in.new.leaf)) c.in-Nothing.is c.in_ok-next_in.ensures.drawn in
    let s = subst (IsStep k c.steps.tree c.next_in.new.leaf c.take_step.new.tree c.take_step.new.leaf) c.in-Over.is c.in_ok-take_step.ensures.stepped in (
      nothing_ahead k c.args.tree.now c.args.leaf.now c.steps.tree c.steps.leaf c.steps.invariant.same none c.next_in.new.leaf c.next_in.ensures.fewer s.0,
      subst (λ l. IsAheadAsBefore k c.args.tree.now c.args.leaf.now l c.take_step.new.leaf) (sym s.1)
          (subst (IsAheadAsBefore k c.args.tree.now c.args.leaf.now c.steps.tree) (sym s.2)
          (leaf_kept k c.args.tree.now c.args.leaf.now c.steps.tree c.steps.leaf c.steps.invariant.same c.next_in.new.leaf (λ u h. absurd (none u h)) c.next_in.ensures.fewer)),
    )

pub steps-preserved : goal.steps-preserved
steps-preserved c =
    let k = c.args.task.now in
    let none = subst (IsDrawnFrom k (IsCoveredAt k c.steps.leaf) (IsCoveredAt k c.next_in.new.leaf)) c.in-Nothing.is c.in_ok-next_in.ensures.drawn in
    let s = subst (IsStep k c.steps.tree c.next_in.new.leaf c.take_step.new.tree c.take_step.new.leaf) c.in-More.is c.in_ok-take_step.ensures.stepped in
    record {
      closed = c.take_step.ensures.closed;
      ordered = c.take_step.ensures.ordered;
      opened = s.1;
      same = ahead_after k c.args.tree.now c.args.leaf.now c.steps.tree c.steps.leaf c.steps.invariant.same none c.next_in.new.leaf c.next_in.ensures.fewer c.take_step.new.tree c.take_step.new.leaf s;
      less =
          let less : left_at k c.next_in.new.leaf ≤ left_at k c.steps.leaf = subst (LeavesLess (left_at k c.steps.leaf) (left_at k c.next_in.new.leaf)) c.in-Nothing.is c.in_ok-next_in.ensures.falls in
          le_trans s.3 (le_trans (leaf_stays k c.steps.tree c.steps.leaf c.next_in.new.leaf less) c.steps.invariant.less);
    }

pub returns-in-End-clause-opened : goal.returns-in-End-clause-opened
returns-in-End-clause-opened c =
    let s = subst (IsStep c.args.task.now c.steps.tree c.next_in.new.leaf c.take_step.new.tree c.take_step.new.leaf) c.in-End.is c.in_ok-take_step.ensures.stepped in
    subst (IsOpenedAt c.args.task.now) (sym s.3) c.next_in.ensures.opened

pub returns-in-End-clause-found : goal.returns-in-End-clause-found
returns-in-End-clause-found c =
    let k = c.args.task.now in
    let none = subst (IsDrawnFrom k (IsCoveredAt k c.steps.leaf) (IsCoveredAt k c.next_in.new.leaf)) c.in-Nothing.is c.in_ok-next_in.ensures.drawn in
    let s = subst (IsStep k c.steps.tree c.next_in.new.leaf c.take_step.new.tree c.take_step.new.leaf) c.in-End.is c.in_ok-take_step.ensures.stepped in (
      s.0,
      subst (λ l. HasNoQuestion k l c.in-End.ended) (sym s.2) s.1,
      subst (λ l. HasNoChoiceAt k l c.in-End.ended) (sym s.3) (no_choice k c.next_in.new.leaf c.in-End.ended (λ u m. none u (c.next_in.ensures.fewer u m))),
      subst (λ l. IsAheadAsBefore k c.args.tree.now c.args.leaf.now l c.take_step.new.leaf) (sym s.2)
          (subst (IsAheadAsBefore k c.args.tree.now c.args.leaf.now c.steps.tree) (sym s.3)
          (leaf_kept k c.args.tree.now c.args.leaf.now c.steps.tree c.steps.leaf c.steps.invariant.same c.next_in.new.leaf (λ u h. absurd (none u h)) c.next_in.ensures.fewer)),
    )

pub returns-in-Unifier-clause-falls : goal.returns-in-Unifier-clause-falls
returns-in-Unifier-clause-falls c =
    let k = c.args.task.now in
    let less : left_at k c.next_in.new.leaf < left_at k c.steps.leaf = subst (LeavesLess (left_at k c.steps.leaf) (left_at k c.next_in.new.leaf)) c.in-Unifier.is c.in_ok-next_in.ensures.falls in
    lt_of_lt_of_le (leaf_falls k c.steps.tree c.steps.leaf c.next_in.new.leaf less) c.steps.invariant.less
