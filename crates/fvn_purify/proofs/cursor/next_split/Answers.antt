-- The same splits are to come until one is found.
use Rattle.std.proofs.Common.{sym, subst, arith, Some, None}
use Rattle.fvn_purify.specs.Parts.{outline}
use Rattle.fvn_purify.specs.Cursor.{HasSamePending}
use Rattle.fvn_purify.specs.inner.Founds.{cursor, IsFoundFrom}
use Rattle.fvn_purify.proofs.Cursors.{same_then_given, same_then_same}
use Rattle.fvn_purify.proofs.Lasts.{on_err}
use Rattle.fvn_purify.proofs.cursor.next_split.Goals as goal

pub returns-in_err-advance_once-clause-no_memory : goal.returns-in_err-advance_once-clause-no_memory
returns-in_err-advance_once-clause-no_memory c =
    let d = c.args.sig.now in
    let o = outline c.args.classes.now in
    on_err c.from_residual.result (subst (λ l. HasSamePending (cursor d o c.args.partials.now.items) (cursor d o l)) (sym c.in_err-advance_once.ensures.no_memory) c.steps.invariant.same)

pub returns-in-Nothing-clause-given : goal.returns-in-Nothing-clause-given
returns-in-Nothing-clause-given c =
    let d = c.args.sig.now in
    let o = outline c.args.classes.now in
    let now = c.steps.partials.items in
    let after = c.advance_once.new.partials.items in
    same_then_given d o c.args.partials.now.items now after None c.steps.invariant.same (subst (IsFoundFrom (cursor d o now) (cursor d o after)) c.in-Nothing.is c.in_ok-advance_once.ensures.found)

pub steps-preserved : goal.steps-preserved
steps-preserved c =
    let d = c.args.sig.now in
    let o = outline c.args.classes.now in
    let now = c.steps.partials.items in
    let after = c.advance_once.new.partials.items in
    let found = subst (IsFoundFrom (cursor d o now) (cursor d o after)) c.in-More.is c.in_ok-advance_once.ensures.found in
    record {
      kept = c.advance_once.ensures.kept;
      less = let l = c.steps.invariant.less in let m = found.1 in omega arith;
      same = same_then_same d o c.args.partials.now.items now after c.steps.invariant.same found.0;
    }

pub returns-in-Split-clause-given : goal.returns-in-Split-clause-given
returns-in-Split-clause-given c =
    let d = c.args.sig.now in
    let o = outline c.args.classes.now in
    let now = c.steps.partials.items in
    let after = c.advance_once.new.partials.items in
    same_then_given d o c.args.partials.now.items now after (Some c.in-Split.split) c.steps.invariant.same (subst (IsFoundFrom (cursor d o now) (cursor d o after)) c.in-Split.is c.in_ok-advance_once.ensures.found).0

pub returns-in-Split-clause-falls : goal.returns-in-Split-clause-falls
returns-in-Split-clause-falls c =
    let d = c.args.sig.now in
    let o = outline c.args.classes.now in
    let now = c.steps.partials.items in
    let after = c.advance_once.new.partials.items in
    let found = subst (IsFoundFrom (cursor d o now) (cursor d o after)) c.in-Split.is c.in_ok-advance_once.ensures.found in
    let l = c.steps.invariant.less in
    let m = found.1 in
    omega arith
