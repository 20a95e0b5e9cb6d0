-- What is to come under the current tags and later, one list of tags after another.
use Rattle.std.proofs.Common.{◌<◌, ◌≤◌, ap, sym, subst, inr, arith}
use Rattle.std.proofs.Math.Nat.{le_trans, lt_of_lt_of_le}
use Rattle.std.proofs.lemmas.Result.{err_from_is_err_and}
use Rattle.fvn_acunify_product.specs.Tags.{Tagging, tags_left}
use Rattle.fvn_combine_loose.specs.Laws.{AreVariables}
use Rattle.fvn_combine.specs.Leaves.{IsCoveredNow, IsCoveredToCome}
use Rattle.fvn_combine.specs.Advancing.{IsCovered}
use Rattle.fvn_combine.specs.inner.Found.{IsDrawnFrom, AreDrawnFrom, IsTurned, LeavesLess}
use Rattle.fvn_combine.specs.Work.{leaf_left}
use Rattle.fvn_combine.proofs.Walk.{variables_kept, to_come_was, to_come_kept, to_come_or, later_alone}
use Rattle.fvn_combine.proofs.walking.next_of_leaf.Goals as goal

pub returns-in_err-next_of_current-clause-fewer : goal.returns-in_err-next_of_current-clause-fewer
returns-in_err-next_of_current-clause-fewer c = λ u h.
    c.tags.invariant.fewer u (to_come_was c.args.task.now c.args.state.now c.tags.opened c.next_of_current.new.opened c.next_of_current.ensures.same c.next_of_current.ensures.fewer u h)

pub returns-in_err-next_of_current-clause-drawn : goal.returns-in_err-next_of_current-clause-drawn
returns-in_err-next_of_current-clause-drawn c =
    let p = err_from_is_err_and c.from_residual.result c.from_residual.ensures.1 in
    subst (AreDrawnFrom c.args.task.now (IsCoveredToCome c.args.task.now c.args.state.now c.args.opened.now) (IsCoveredToCome c.args.task.now c.args.state.now c.next_of_current.new.opened)) (sym p.1) (λ u h.
    to_come_kept c.args.task.now c.args.state.now c.tags.opened c.next_of_current.new.opened c.next_of_current.ensures.same c.in_err-next_of_current.ensures.drawn u (c.tags.invariant.kept u h))

pub returns-in-TooLarge-clause-fewer : goal.returns-in-TooLarge-clause-fewer
returns-in-TooLarge-clause-fewer c = λ u h.
    c.tags.invariant.fewer u (to_come_was c.args.task.now c.args.state.now c.tags.opened c.next_of_current.new.opened c.next_of_current.ensures.same c.next_of_current.ensures.fewer u h)

pub returns-in-TooLarge-clause-drawn : goal.returns-in-TooLarge-clause-drawn
returns-in-TooLarge-clause-drawn c =
    let k = c.args.task.now in
    let s = c.args.state.now in
    let old = c.tags.opened in
    let new = c.next_of_current.new.opened in
    let h = subst (IsDrawnFrom k (IsCoveredNow k s old) (IsCoveredNow k s new)) c.in-TooLarge.is c.in_ok-next_of_current.ensures.drawn in
    (h.0, λ u m. to_come_kept k s old new c.next_of_current.ensures.same h.1 u (c.tags.invariant.kept u m))

pub returns-in-Unifier-clause-fewer : goal.returns-in-Unifier-clause-fewer
returns-in-Unifier-clause-fewer c = λ u h.
    c.tags.invariant.fewer u (to_come_was c.args.task.now c.args.state.now c.tags.opened c.next_of_current.new.opened c.next_of_current.ensures.same c.next_of_current.ensures.fewer u h)

pub returns-in-Unifier-clause-drawn : goal.returns-in-Unifier-clause-drawn
returns-in-Unifier-clause-drawn c =
    let k = c.args.task.now in
    let s = c.args.state.now in
    let old = c.tags.opened in
    let new = c.next_of_current.new.opened in
    let h = subst (IsDrawnFrom k (IsCoveredNow k s old) (IsCoveredNow k s new)) c.in-Unifier.is c.in_ok-next_of_current.ensures.drawn in
    (h.0, λ u m. to_come_or k s old new c.next_of_current.ensures.same (IsCovered k c.in-Unifier.g) h.1 u (c.tags.invariant.kept u m))

pub returns-in_err-turn-clause-fewer : goal.returns-in_err-turn-clause-fewer
returns-in_err-turn-clause-fewer c = λ u h.
    c.tags.invariant.fewer u (to_come_was c.args.task.now c.args.state.now c.tags.opened c.next_of_current.new.opened c.next_of_current.ensures.same c.next_of_current.ensures.fewer u
    (subst (λ o. IsCoveredToCome c.args.task.now c.args.state.now o u) c.in_err-turn.ensures.no_memory h))

pub returns-in_err-turn-clause-drawn : goal.returns-in_err-turn-clause-drawn
returns-in_err-turn-clause-drawn c =
    let k = c.args.task.now in
    let s = c.args.state.now in
    let old = c.tags.opened in
    let new = c.next_of_current.new.opened in
    let none = subst (IsDrawnFrom k (IsCoveredNow k s old) (IsCoveredNow k s new)) c.in-Nothing.is c.in_ok-next_of_current.ensures.drawn in
    let p = err_from_is_err_and c.from_residual-in_err-turn.result c.from_residual-in_err-turn.ensures.1 in
    subst (AreDrawnFrom k (IsCoveredToCome k s c.args.opened.now) (IsCoveredToCome k s c.turn.new.opened)) (sym p.1) (λ u h.
    let m = c.tags.invariant.kept u h in
    subst (λ o. IsCoveredToCome k s o u) (sym c.in_err-turn.ensures.no_memory)
    (variables_kept k s old new c.next_of_current.ensures.same u m, inr (later_alone k s old new c.next_of_current.ensures.same none u m)))

pub returns-then-not-branch-clause-fewer : goal.returns-then-not-branch-clause-fewer
returns-then-not-branch-clause-fewer c = λ u h.
    let k = c.args.task.now in
    let s = c.args.state.now in
    let new = c.next_of_current.new.opened in
    let over = subst (IsTurned k s new c.turn.new.opened) c.if-not-branch.true c.in_ok-turn.ensures.turned in
    c.tags.invariant.fewer u (to_come_was k s c.tags.opened new c.next_of_current.ensures.same c.next_of_current.ensures.fewer u (subst (λ o. IsCoveredToCome k s o u) over.0 h))

pub returns-then-not-branch-clause-drawn : goal.returns-then-not-branch-clause-drawn
returns-then-not-branch-clause-drawn c = λ u h.
    let k = c.args.task.now in
    let s = c.args.state.now in
    let old = c.tags.opened in
    let new = c.next_of_current.new.opened in
    let none = subst (IsDrawnFrom k (IsCoveredNow k s old) (IsCoveredNow k s new)) c.in-Nothing.is c.in_ok-next_of_current.ensures.drawn in
    let over = subst (IsTurned k s new c.turn.new.opened) c.if-not-branch.true c.in_ok-turn.ensures.turned in
    over.1 u (later_alone k s old new c.next_of_current.ensures.same none u (c.tags.invariant.kept u h))

pub tags-preserved : goal.tags-preserved
tags-preserved c =
    let k = c.args.task.now in
    let s = c.args.state.now in
    let old = c.tags.opened in
    let new = c.next_of_current.new.opened in
    let none = subst (IsDrawnFrom k (IsCoveredNow k s old) (IsCoveredNow k s new)) c.in-Nothing.is c.in_ok-next_of_current.ensures.drawn in
    let turned = subst (IsTurned k s new c.turn.new.opened) c.if-not-branch.false c.in_ok-turn.ensures.turned in
    record {
      opened = turned.0;
      fewer = λ u h.
          let variables = subst (λ l. AreVariables k.declarations k.table l u) turned.2 h.0 in
          c.tags.invariant.fewer u (to_come_was k s old new c.next_of_current.ensures.same c.next_of_current.ensures.fewer u (variables, inr (turned.4 u h)));
      kept = λ u h.
          let m = c.tags.invariant.kept u h in
          turned.3 u (variables_kept k s old new c.next_of_current.ensures.same u m) (later_alone k s old new c.next_of_current.ensures.same none u m);
      less =
          let less : leaf_left k new ≤ leaf_left k old = subst (LeavesLess (leaf_left k old) (leaf_left k new)) c.in-Nothing.is c.in_ok-next_of_current.ensures.falls in
          le_trans turned.5 (le_trans less c.tags.invariant.less);
    }

pub tags-smaller : goal.tags-smaller
tags-smaller c =
    let k = c.args.task.now in
    let s = c.args.state.now in
    let new = c.next_of_current.new.opened in
    let turned = subst (IsTurned k s new c.turn.new.opened) c.if-not-branch.false c.in_ok-turn.ensures.turned in
    let l = turned.1 in
    let e = ap (λ (t : Tagging). tags_left t) c.next_of_current.ensures.same.tags in
    omega (arith, l, e)

pub returns-in-Unifier-clause-falls : goal.returns-in-Unifier-clause-falls
returns-in-Unifier-clause-falls c =
    let k = c.args.task.now in
    let less : leaf_left k c.next_of_current.new.opened < leaf_left k c.tags.opened = subst (LeavesLess (leaf_left k c.tags.opened) (leaf_left k c.next_of_current.new.opened)) c.in-Unifier.is c.in_ok-next_of_current.ensures.falls in
    lt_of_lt_of_le less c.tags.invariant.less

pub returns-then-not-branch-clause-falls : goal.returns-then-not-branch-clause-falls
returns-then-not-branch-clause-falls c =
    let k = c.args.task.now in
    let new = c.next_of_current.new.opened in
    let less : leaf_left k new ≤ leaf_left k c.tags.opened = subst (LeavesLess (leaf_left k c.tags.opened) (leaf_left k new)) c.in-Nothing.is c.in_ok-next_of_current.ensures.falls in
    let over = subst (IsTurned k c.args.state.now new c.turn.new.opened) c.if-not-branch.true c.in_ok-turn.ensures.turned in
    subst (λ o. leaf_left k o ≤ leaf_left k c.args.opened.now) (sym over.0) (le_trans less c.tags.invariant.less)
