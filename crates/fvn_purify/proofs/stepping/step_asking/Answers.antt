-- A question that is asked, or none is open.
use Rattle.std.proofs.Common.{sym, subst}
use Rattle.fvn_combine_nodes.specs.States.{IsOpen}
use Rattle.fvn_purify.specs.Parts.{outline}
use Rattle.fvn_purify.specs.inner.Choices.{IsSplitQuestion, IsExpansion}
use Rattle.fvn_purify.specs.declared.choosing.Partial.TheVariants.{Asking}
use Rattle.fvn_purify.proofs.Decided.{question_within}
use Rattle.fvn_purify.proofs.Expanding.{asked_expands, settled_expands}
use Rattle.fvn_purify.proofs.stepping.step_asking.Goals.{In-Some}
use Rattle.fvn_purify.proofs.stepping.step_asking.Goals as goal

asked : (c : goal.In-Some) → IsSplitQuestion (outline c.args.classes.now) c.args.state.now c.in-Some.i c.in-Some.j × IsOpen c.args.state.now c.in-Some.i c.in-Some.j
asked c = c.in-Some.ensures

pub asked-requires-clause-left : goal.asked-requires-clause-left
asked-requires-clause-left c = let q = asked (goal.at.asked-requires-clause-left c).In-Some in (question_within c.args.sig.now (outline c.args.classes.now) c.requires.fit c.args.state.now c.in-Some.i c.in-Some.j q.0).0

pub asked-requires-clause-right : goal.asked-requires-clause-right
asked-requires-clause-right c = let q = asked (goal.at.asked-requires-clause-right c).In-Some in (question_within c.args.sig.now (outline c.args.classes.now) c.requires.fit c.args.state.now c.in-Some.i c.in-Some.j q.0).1

pub returns-in_ok-list-in-Some : goal.returns-in_ok-list-in-Some
returns-in_ok-list-in-Some c =
    let q = asked (goal.at.returns-in_ok-list-in-Some c).In-Some in
    let e = c.in_ok-list-in-Some.ensures in
    subst (IsExpansion c.args.sig.now (outline c.args.classes.now) (Asking c.args.state.now)) (sym e.2) (asked_expands c.args.sig.now (outline c.args.classes.now) c.requires.fit c.args.state.now c.requires.closed c.in-Some.i c.in-Some.j q.0 e.0 e.1)

pub returns-in_ok-list-in-None : goal.returns-in_ok-list-in-None
returns-in_ok-list-in-None c =
    subst (IsExpansion c.args.sig.now (outline c.args.classes.now) (Asking c.args.state.now)) (sym c.in_ok-list-in-None.ensures) (settled_expands c.args.sig.now (outline c.args.classes.now) c.requires.fit c.args.state.now c.requires.closed c.in-None.ensures)
