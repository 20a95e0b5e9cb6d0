-- No form at the end of the path, one without a head, or a part.
use Rattle.std.proofs.Common.{sym, ◌∙◌, subst}
use Rattle.fvn_critical.specs.inner.Choosing.{AreAmong}
use Rattle.fvn_critical.specs.inner.Testing.{Each, JoinWith, inner_rules, IsJoinedAt}
use Rattle.fvn_critical.proofs.Covering.{weaker, nowhere, headless, with_all, inner_among}
use Rattle.fvn_critical.proofs.testing.fault_at.Goals as goal

pub returns-in_default : goal.returns-in_default
returns-in_default g c =
    nowhere c.args.tester.now.rewriter c.args.new.now.rule c.args.path.now (inner_rules c.args.tester.now.chosen.now c.args.later.now c.args.path.now) (rw c.in_default.is at c.form_at.ensures)

pub returns-in_default-head : goal.returns-in_default-head
returns-in_default-head g c =
    headless c.args.tester.now.rewriter c.args.new.now.rule c.args.path.now (inner_rules c.args.tester.now.chosen.now c.args.later.now c.args.path.now) c.in-Some.at.now
    (rw c.in-Some.is at c.form_at.ensures) (sym c.head.ensures ∙ c.in_default-head.is)

pub fault_by-requires-clause-part : goal.fault_by-requires-clause-part
fault_by-requires-clause-part g c lives order = record { listed = c.requires.path; leads = rw c.in-Some.is at c.form_at.ensures; heads = sym c.head.ensures ∙ c.in-Some-head.is }

pub fault_by-requires-clause-inner : goal.fault_by-requires-clause-inner
fault_by-requires-clause-inner g c lives order =
    let rules = c.args.tester.now.rewriter.rules.rules in
    subst (λ l. AreAmong l rules) (sym c.inner_at-inner.ensures) (inner_among c.args.tester.now.chosen.now c.args.later.now rules c.requires.chosen c.requires.later c.args.path.now)

pub returns : goal.returns
returns g c =
    let r = c.args.tester.now.rewriter in
    let outer = c.args.new.now.rule in
    let chosen = c.args.tester.now.chosen.now in
    let later = c.args.later.now in
    let path = c.args.path.now in
    weaker r (g.A.AxiomSolver.drawn c.args.tester.now.solver.now) (g.A.AxiomSolver.most_unifiers c.args.tester.now.solver.now) (Each (JoinWith r outer path) c.inner_at-inner.result.now) (IsJoinedAt r chosen later outer path)
    (λ h. with_all r outer path (inner_rules chosen later path) (subst (Each (JoinWith r outer path)) c.inner_at-inner.ensures h)) c.in_ok-fault.fault c.in_ok-fault.ensures
