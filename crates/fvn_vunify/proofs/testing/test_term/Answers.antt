-- What the normal form of the term tells.
use Rattle.std.proofs.Common.{sym, ◌∙◌}
use Rattle.std.proofs.lemmas.Bool.{false≢true}
use Rattle.fvn_vunify.proofs.Passing.{passes, fails, unfinished, grows}
use Rattle.fvn_vunify.proofs.testing.test_term.Goals as goal

pub returns-then-same : goal.returns-then-same
returns-then-same g c =
    passes (g.E.Expander.setting c.args.expander.now) c.args.t.now c.in-Form.form (rw c.in-Form.is at c.in_ok-form.ensures.normal) (c.same.ensures.exact.0 c.if-same.true)

pub returns-in-Form : goal.returns-in-Form
returns-in-Form g c =
    let s = g.E.Expander.setting c.args.expander.now in
    fails s c.args.t.now c.in-Form.form (c.rewriting_is_lawful.ensures s.declarations s.equations) c.requires.term (rw c.in-Form.is at c.in_ok-form.ensures.normal)
    (λ e. false≢true (sym c.if-same.false ∙ c.same.ensures.exact.1 e))

pub returns-in-Steps : goal.returns-in-Steps
returns-in-Steps g c =
    unfinished (g.E.Expander.setting c.args.expander.now) c.args.t.now c.in-Steps.end c.in-Steps.start (rw c.in-Steps.is at c.in_ok-form.ensures.normal)

pub returns : goal.returns
returns g c = grows (g.E.Expander.setting c.args.expander.now) c.args.t.now c.in-Size.form (rw c.in-Size.is at c.in_ok-form.ensures.normal)
