-- What the steps give.
use Rattle.std.proofs.Common.{◌<◌, subst}
use Rattle.std.specs.Prelude.{IfSome}
use Rattle.fvn_purify.specs.Parts.{outline}
use Rattle.fvn_purify.specs.Splits.{HasOneFree}
use Rattle.fvn_purify.specs.Cursor.{HasSamePending, IsGivenFrom}
use Rattle.fvn_purify.specs.inner.Founds.{cursor}
use Rattle.fvn_purify.specs.Weight.{cursor_weight}
use Rattle.fvn_purify.proofs.Lasts.{given_free, on_err}
use Rattle.fvn_purify.proofs.cursor.Splits.advance.Goals as goal

pub returns-in_err-found-clause-no_memory : goal.returns-in_err-found-clause-no_memory
returns-in_err-found-clause-no_memory c =
    on_err c.from_residual.result (subst (λ k. HasSamePending k (cursor c.self.inside.sig.now (outline c.self.inside.classes.now) c.next_split.new.partials.items)) c.self.view_is c.in_err-found.ensures.no_memory)

pub returns-clause-given : goal.returns-clause-given
returns-clause-given c =
    subst (λ k. IsGivenFrom k (cursor c.self.inside.sig.now (outline c.self.inside.classes.now) c.next_split.new.partials.items) c.in_ok-found.found) c.self.view_is c.in_ok-found.ensures.given

pub returns-clause-one_free : goal.returns-clause-one_free
returns-clause-one_free c =
    let d = c.self.inside.sig.now in
    let o = outline c.self.inside.classes.now in
    subst (λ k. IfSome c.in_ok-found.found (HasOneFree k.declarations k.outline)) c.self.view_is
    (given_free d o c.self.inside.partials.items c.next_split.new.partials.items c.in_ok-found.found c.in_ok-found.ensures.given)

pub returns-clause-falls : goal.returns-clause-falls
returns-clause-falls c =
    let d = c.self.inside.sig.now in
    let o = outline c.self.inside.classes.now in
    subst (λ k. IfSome c.in_ok-found.found (λ s. cursor_weight (cursor d o c.next_split.new.partials.items) < cursor_weight k)) c.self.view_is c.in_ok-found.ensures.falls
