-- The operator takes what was pushed.
use Rattle.std.proofs.Common.{sym, ap, ◌∙◌, subst}
use Rattle.fvn_forms.specs.Canon.{build}
use Rattle.fvn_flat.specs.Fits.{AllFit, Takes}
use Rattle.fvn_narrow.proofs.Parted.{pushed_two}
use Rattle.fvn_narrow.proofs.pairing.sum_of_two.Goals as goal

pub app-requires-clause-fit : goal.app-requires-clause-fit
app-requires-clause-fit c =
    subst (AllFit c.args.sig.now) (sym (pushed_two c.new-two.result.items c.push.new.self.items c.push-2.new.self.items c.args.t c.args.u c.new-two.ensures.items c.in_ok-push.ensures.items c.in_ok-push-2.ensures.items)) c.requires.fit

pub app-requires-clause-takes : goal.app-requires-clause-takes
app-requires-clause-takes c =
    subst (Takes c.args.sig.now c.args.f) (sym (pushed_two c.new-two.result.items c.push.new.self.items c.push-2.new.self.items c.args.t c.args.u c.new-two.ensures.items c.in_ok-push.ensures.items c.in_ok-push-2.ensures.items)) c.requires.takes

pub returns-clause-exact : goal.returns-clause-exact
returns-clause-exact c =
    c.in_ok-whole.ensures.exact
    ∙ ap (build c.args.sig.now c.args.f) (pushed_two c.new-two.result.items c.push.new.self.items c.push-2.new.self.items c.args.t c.args.u c.new-two.ensures.items c.in_ok-push.ensures.items c.in_ok-push-2.ensures.items)

pub returns-clause-fits : goal.returns-clause-fits
returns-clause-fits c = c.in_ok-whole.ensures.fits
