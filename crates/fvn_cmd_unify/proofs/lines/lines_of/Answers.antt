-- One more line.
use Rattle.std.proofs.Common.{sym, subst}
use Rattle.fvn_answer.specs.Asked.{HaveSorts}
use Rattle.fvn_flat.specs.Bindings.{BindingsFit}
use Rattle.fvn_cmd_unify.proofs.Listing.{line-of, lines-more}
use Rattle.fvn_cmd_unify.proofs.lines.lines_of.Goals as goal

pub loop-s-preserved : goal.loop-s-preserved
loop-s-preserved c =
    lines-more c.args.declared.now c.args.problem.now c.args.unifiers.now c.loop-s.s-index c.s-item.result c.loop-s-test.true c.s-item.is c.loop-s.lines.items _ c.in_ok-line.line
    c.loop-s.invariant (line-of c.args.declared.now c.args.problem.now _ _ c.as_slice.ensures _ c.in_ok-line.ensures.reads c.in_ok-line.ensures.least c.in_ok-line.ensures.plain) c.in_ok-push.ensures.items

pub line_of-requires-clause-fit : goal.line_of-requires-clause-fit
line_of-requires-clause-fit c = subst (BindingsFit c.args.declared.now.signature) (sym c.s-item.is) (c.requires.fit c.loop-s.s-index c.s-item.result c.loop-s-test.true)

pub line_of-requires-clause-sorts : goal.line_of-requires-clause-sorts
line_of-requires-clause-sorts c =
    subst (λ v. HaveSorts c.args.declared.now.signature v c.s-item.result) (sym c.as_slice.ensures)
    (subst (HaveSorts c.args.declared.now.signature c.args.problem.now.vars) (sym c.s-item.is) (c.requires.sorts c.loop-s.s-index c.s-item.result c.loop-s-test.true))
