-- The rule is passed over, or tried.
use Rattle.std.proofs.Common.{inl, inr}
use Rattle.fvn_narrow.specs.inner.Turns.{try_of, TryLifts, TryLiftsAmong}
use Rattle.fvn_narrow.proofs.Joined.{nothing_found, found_so}
use Rattle.fvn_narrow.proofs.trying.by_rule_unless.Goals as goal

pub is_passed_over-requires : goal.is_passed_over-requires
is_passed_over-requires g c = c.requires.fits

pub by_needed-requires : goal.by_needed-requires
by_needed-requires g c = record { ready = c.requires.ready; turn = c.requires.turn; fits = c.requires.fits }

pub returns-then-over : goal.returns-then-over
returns-then-over g c =
    let n = c.args.tools.now in
    let unifiers = g.S.Solves.most_unifiers n.solver.now in
    let may = g.S.Solves.drawn n.solver.now in
    let v = c.args.start.now.variant in
    let try = try_of c.args.part.now.at.now c.args.rule.now in
    nothing_found n.rewriter.now unifiers may v (TryLiftsAmong n.rewriter.now unifiers v c.args.passes c.args.rules.now try) c.no_children.result c.no_children.ensures.children c.no_children.ensures.end
    (inr (c.in_ok-over.ensures c.if-over.true))

pub returns : goal.returns
returns g c =
    let n = c.args.tools.now in
    let unifiers = g.S.Solves.most_unifiers n.solver.now in
    let may = g.S.Solves.drawn n.solver.now in
    let v = c.args.start.now.variant in
    let try = try_of c.args.part.now.at.now c.args.rule.now in
    found_so n.rewriter.now unifiers may v (TryLifts n.rewriter.now unifiers v try) (TryLiftsAmong n.rewriter.now unifiers v c.args.passes c.args.rules.now try) c.in_ok-e.e (λ h. inl h) c.in_ok-e.ensures
