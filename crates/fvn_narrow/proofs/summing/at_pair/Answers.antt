-- All needed rules, at the sum of two summands.
use Rattle.std.proofs.Common.{◌≡◌, false, Some, sym, subst}
use Rattle.std.specs.Prelude.{All}
use Rattle.fvn_terms.specs.declared.declarations.Declarations.{Declarations}
use Rattle.fvn_flat.specs.Forms.{args_of}
use Rattle.fvn_rewrite_rules.specs.declared.rule.Rule.{Rule}
use Rattle.fvn_rewrite_rules.specs.Given.{headed}
use Rattle.fvn_narrow.specs.inner.Pairing.{IsFitSum, AreOthers}
use Rattle.fvn_narrow.specs.inner.Turns.{turn_of, IsTurnAt, IsTryOf, IsTryAt, ForEach, TryLifts, TryLiftsUnless}
use Rattle.fvn_narrow.proofs.Joined.{found_so}
use Rattle.fvn_narrow.proofs.Whole.{rules_are}
use Rattle.fvn_narrow.proofs.Two.{sum_of, pair_turns, tries_lift}
use Rattle.fvn_narrow.proofs.summing.at_pair.Goals as goal

pub pair_of-requires-clause-sum : goal.pair_of-requires-clause-sum
pair_of-requires-clause-sum g c =
    let r = c.args.tools.now.rewriter.now in
    let p = c.args.sum.now in
    subst (λ (d : Declarations). IsFitSum d c.args.f p.at.now) (sym c.signature.ensures)
    (sum_of r c.recall.ensures.good c.args.start.now.variant c.requires.ready.flat.terms p.member p.path.now c.args.f p.at.now c.requires.sum)

pub by_rules-requires-clause-turns : goal.by_rules-requires-clause-turns
by_rules-requires-clause-turns g c =
    let n = c.args.tools.now in
    let unifiers = g.S.Solves.most_unifiers n.solver.now in
    let may = g.S.Solves.drawn n.solver.now in
    let v = c.args.start.now.variant in
    let r = n.rewriter.now in
    let p = c.args.sum.now in
    let at = c.in_ok-at.at in
    let others = c.from_vec.result in
    let same : c.headed.result.now ≡ headed r.rules c.args.f = rules_are r c.rules.result.now c.args.f c.headed.result.now c.headed.ensures c.rules.ensures in
    let left : AreOthers (args_of p.at.now) c.args.i c.args.j others =
    subst (AreOthers (args_of p.at.now) c.args.i c.args.j) (sym c.from_vec.ensures) (subst (λ ts. AreOthers ts c.args.i c.args.j c.in_ok-others.others.items) c.args-2.ensures.exact c.in_ok-others.ensures) in
    let sum = sum_of r c.recall.ensures.good v c.requires.ready.flat.terms p.member p.path.now c.args.f p.at.now c.requires.sum in
    subst (All (λ (rule : Rule). IsTurnAt r v at (turn_of p.member p.path.now (Some (c.args.f, others)) rule))) (sym same)
    (pair_turns r unifiers v c.recall.ensures.good p.member p.path.now c.args.f p.at.now c.requires.sum sum c.args.i c.args.j c.requires.places.0 at c.in_ok-at.ensures others left)

pub returns : goal.returns
returns g c =
    let n = c.args.tools.now in
    let unifiers = g.S.Solves.most_unifiers n.solver.now in
    let may = g.S.Solves.drawn n.solver.now in
    let v = c.args.start.now.variant in
    let r = n.rewriter.now in
    let at = c.in_ok-at.at in
    let ts = args_of c.args.sum.now.at.now in
    let same : c.headed.result.now ≡ headed r.rules c.args.f = rules_are r c.rules.result.now c.args.f c.headed.result.now c.headed.ensures c.rules.ensures in
    found_so r unifiers may v (ForEach (TryLiftsUnless r unifiers v false) (IsTryOf at c.headed.result.now)) (ForEach (TryLifts r unifiers v) (IsTryAt c.args.f ts (headed r.rules c.args.f) (c.args.i, c.args.j))) c.in_ok-e.e
    (λ h. tries_lift r unifiers v c.args.f ts (headed r.rules c.args.f) c.args.i c.args.j at c.in_ok-at.ensures c.in_ok-e.e.children (subst (λ l. ForEach (TryLiftsUnless r unifiers v false) (IsTryOf at l) c.in_ok-e.e.children) same h)) c.in_ok-e.ensures
