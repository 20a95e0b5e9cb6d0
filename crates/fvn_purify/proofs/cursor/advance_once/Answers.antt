-- The last one is expanded, or is the split that is given.
use Rattle.std.proofs.Common.{◌≡◌, ◌-◌, ◌∷◌, ◌++◌, [], length, take, ap, ◌∙◌, subst, slice_get}
use Rattle.fvn_purify.specs.Parts.{outline}
use Rattle.fvn_purify.specs.inner.Choices.{IsStepOf}
use Rattle.fvn_purify.proofs.Lasts.{last_split, last_kept, last_same, last_falls, whole_kept, whole_given, without_last_falls}
use Rattle.fvn_purify.proofs.cursor.advance_once.Goals.{In-Some}
use Rattle.fvn_purify.proofs.cursor.advance_once.Goals as goal

is : (c : goal.In-Some) → c.args.partials.now.items ≡ take (length c.args.partials.now.items - 1) c.args.partials.now.items ++ c.in-Some.top.now ∷ []
is c = last_split c.args.partials.now.items c.in-Some.top.now (c.in-Some.ensures.value ∙ ap (λ l. slice_get l (length l - 1)) c.as_slice.ensures.value)

pub returns-in_ok-replace_last-in-More-clause-kept : goal.returns-in_ok-replace_last-in-More-clause-kept
returns-in_ok-replace_last-in-More-clause-kept c =
    let d = c.args.sig.now in
    let o = outline c.args.classes.now in
    let before = c.args.partials.now.items in
    last_kept d o before (take (length before - 1) before) c.in-Some.top.now (is (goal.at.returns-in_ok-replace_last-in-More-clause-kept c).In-Some) c.requires.kept
    c.in-More.parts (subst (IsStepOf d o c.in-Some.top.now) c.in-More.is c.in_ok-given-in-Some.ensures) c.replace_last.new.partials.items c.in_ok-replace_last-in-More.ensures.ok

pub returns-in_ok-replace_last-in-More-clause-found : goal.returns-in_ok-replace_last-in-More-clause-found
returns-in_ok-replace_last-in-More-clause-found c =
    let d = c.args.sig.now in
    let o = outline c.args.classes.now in
    let before = c.args.partials.now.items in
    let below = take (length before - 1) before in
    let top = c.in-Some.top.now in
    let at = is (goal.at.returns-in_ok-replace_last-in-More-clause-found c).In-Some in
    let expansion = subst (IsStepOf d o top) c.in-More.is c.in_ok-given-in-Some.ensures in (
      last_same d o before below top at c.requires.kept c.in-More.parts expansion c.replace_last.new.partials.items c.in_ok-replace_last-in-More.ensures.ok,
      last_falls d o before below top at c.requires.kept c.in-More.parts expansion c.replace_last.new.partials.items c.in_ok-replace_last-in-More.ensures.ok,
    )

pub returns-in-Whole-clause-kept : goal.returns-in-Whole-clause-kept
returns-in-Whole-clause-kept c =
    let d = c.args.sig.now in
    let o = outline c.args.classes.now in
    let before = c.args.partials.now.items in
    let top = c.in-Some.top.now in
    whole_kept d o before (take (length before - 1) before) top (is (goal.at.returns-in-Whole-clause-kept c).In-Some) c.requires.kept
    c.in-Whole.split (subst (IsStepOf d o top) c.in-Whole.is c.in_ok-given-in-Some.ensures) c.pop-top.new.self.items (c.pop-top.ensures.rest ∙ ap (λ n. take (n - 1) before) c.args.partials.now.ok.0)

pub returns-in-Whole-clause-found : goal.returns-in-Whole-clause-found
returns-in-Whole-clause-found c =
    let d = c.args.sig.now in
    let o = outline c.args.classes.now in
    let before = c.args.partials.now.items in
    let below = take (length before - 1) before in
    let top = c.in-Some.top.now in
    let at = is (goal.at.returns-in-Whole-clause-found c).In-Some in
    let now = c.pop-top.ensures.rest ∙ ap (λ n. take (n - 1) before) c.args.partials.now.ok.0 in (
      whole_given d o before below top at c.requires.kept c.in-Whole.split (subst (IsStepOf d o top) c.in-Whole.is c.in_ok-given-in-Some.ensures) c.pop-top.new.self.items now,
      without_last_falls d o before below top at c.pop-top.new.self.items now,
    )
