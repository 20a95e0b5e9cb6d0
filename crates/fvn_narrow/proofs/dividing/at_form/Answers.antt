-- By parts, or by all rules at the whole.
use Rattle.std.proofs.Common.{◌≡◌, false, sym, subst}
use Rattle.std.specs.Prelude.{All}
use Rattle.fvn_rewrite_rules.specs.declared.rule.Rule.{Rule}
use Rattle.fvn_rewrite_rules.specs.Given.{headed}
use Rattle.fvn_narrow.specs.inner.Turns.{turn_of, IsTurnAt, IsTryOf, ForEach, TryLiftsUnless, TryLiftsByParts}
use Rattle.fvn_narrow.proofs.Joined.{found_so}
use Rattle.fvn_narrow.proofs.Whole.{rules_are, whole_turns, unless_parts}
use Rattle.fvn_narrow.proofs.dividing.at_form.Goals as goal

pub by_parts-requires : goal.by_parts-requires
by_parts-requires g c = record {
  ready = c.requires.ready;
  sum = let h = c.in_ok-divided.ensures c.if-divided.true in record { form = c.requires.form; associative = h.0; many = h.1 };
  whole = c.requires.whole;
}

pub by_rules-requires : goal.by_rules-requires
by_rules-requires g c =
    let r = c.args.tools.now.rewriter.now in
    let p = c.args.form.now in
    let same : c.headed-rules.result.now ≡ headed r.rules c.args.f = rules_are r c.rules.result.now c.args.f c.headed-rules.result.now c.headed-rules.ensures c.rules.ensures in record {
      ready = c.requires.ready;
      turns = subst (All (λ (rule : Rule). IsTurnAt r c.args.start.now.variant p.at.now (turn_of p.member p.path.now p.beside rule))) (sym same)
          (whole_turns r c.args.start.now.variant p.member p.path.now c.args.f p.at.now c.requires.form p.beside c.requires.whole);
    }

pub returns : goal.returns
returns g c =
    let n = c.args.tools.now in
    let unifiers = g.S.Solves.most_unifiers n.solver.now in
    let may = g.S.Solves.drawn n.solver.now in
    let v = c.args.start.now.variant in
    let r = n.rewriter.now in
    let at = c.args.form.now.at.now in
    let same : c.headed-rules.result.now ≡ headed r.rules c.args.f = rules_are r c.rules.result.now c.args.f c.headed-rules.result.now c.headed-rules.ensures c.rules.ensures in
    found_so r unifiers may v (ForEach (TryLiftsUnless r unifiers v false) (IsTryOf at c.headed-rules.result.now)) (ForEach (TryLiftsByParts r unifiers v) (IsTryOf at (headed r.rules c.args.f))) c.in_ok-e.e
    (unless_parts r unifiers v at (headed r.rules c.args.f) c.headed-rules.result.now same c.in_ok-e.e.children) c.in_ok-e.ensures
