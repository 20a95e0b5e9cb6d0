-- All pairs, and then the whole.
use Rattle.std.proofs.Common.{◌≡◌, ◌++◌, true, sym, subst}
use Rattle.std.specs.Prelude.{All, length}
use Rattle.fvn_flat.specs.Forms.{args_of}
use Rattle.fvn_rewrite_rules.specs.declared.rule.Rule.{Rule}
use Rattle.fvn_rewrite_rules.specs.Given.{headed}
use Rattle.fvn_narrow.specs.inner.Turns.{turn_of, IsTurnAt, IsTryOf, IsTryBefore, ForEach, TryLifts, TryLiftsUnless, TryLiftsByParts, AreFound}
use Rattle.fvn_narrow.proofs.Joined.{AreSoFar, joined, both_found, stopped, not_whole}
use Rattle.fvn_narrow.proofs.Whole.{rules_are, whole_turns, both_parts, nothing_before}
use Rattle.fvn_narrow.proofs.dividing.by_parts.Goals as goal

pub at_pairs-requires : goal.at_pairs-requires
at_pairs-requires g c = record { ready = c.requires.ready; sum = c.requires.sum }

pub by_rules-requires : goal.by_rules-requires
by_rules-requires g c =
    let r = c.args.tools.now.rewriter.now in
    let p = c.args.sum.now in
    let same : c.headed.result.now ≡ headed r.rules c.args.f = rules_are r c.rules.result.now c.args.f c.headed.result.now c.headed.ensures c.rules.ensures in record {
      ready = c.requires.ready;
      turns = subst (All (λ (rule : Rule). IsTurnAt r c.args.start.now.variant p.at.now (turn_of p.member p.path.now p.beside rule))) (sym same)
          (whole_turns r c.args.start.now.variant p.member p.path.now c.args.f p.at.now c.requires.sum.form p.beside c.requires.whole);
    }

pub returns-then-not-is_whole : goal.returns-then-not-is_whole
returns-then-not-is_whole g c =
    let n = c.args.tools.now in
    let unifiers = g.S.Solves.most_unifiers n.solver.now in
    let may = g.S.Solves.drawn n.solver.now in
    let v = c.args.start.now.variant in
    let r = n.rewriter.now in
    let at = c.args.sum.now.at.now in
    let pairs = ForEach (TryLifts r unifiers v) (IsTryBefore c.args.f (args_of at) (headed r.rules c.args.f) (length (args_of at))) in
    let Holds = ForEach (TryLiftsByParts r unifiers v) (IsTryOf at (headed r.rules c.args.f)) in
    subst (λ l. AreFound r unifiers may v Holds record { children = l; end = c.in_ok-children.end }) (sym c.from_vec.ensures)
    (stopped r unifiers may v (λ l. Unit {0}) pairs c.new.result.items c.in_ok-pairs.pairs c.in_ok-children.children.items c.in_ok-children.end (nothing_before r unifiers may v c.new.result.items c.new.ensures.items) c.in_ok-pairs.ensures c.in_ok-children.ensures
    Holds (not_whole c.is_whole.result c.in_ok-children.end c.is_whole.ensures c.if-not-is_whole.true))

pub returns : goal.returns
returns g c =
    let n = c.args.tools.now in
    let unifiers = g.S.Solves.most_unifiers n.solver.now in
    let may = g.S.Solves.drawn n.solver.now in
    let v = c.args.start.now.variant in
    let r = n.rewriter.now in
    let at = c.args.sum.now.at.now in
    let pairs = ForEach (TryLifts r unifiers v) (IsTryBefore c.args.f (args_of at) (headed r.rules c.args.f) (length (args_of at))) in
    let Holds = ForEach (TryLiftsByParts r unifiers v) (IsTryOf at (headed r.rules c.args.f)) in
    let same : c.headed.result.now ≡ headed r.rules c.args.f = rules_are r c.rules.result.now c.args.f c.headed.result.now c.headed.ensures c.rules.ensures in
    let so_far : AreSoFar r unifiers may v pairs c.in_ok-children.children.items =
    joined r unifiers may v (λ l. Unit {0}) pairs c.new.result.items c.in_ok-pairs.pairs c.in_ok-children.children.items c.in_ok-children.end (nothing_before r unifiers may v c.new.result.items c.new.ensures.items) c.in_ok-pairs.ensures c.in_ok-children.ensures
    pairs (λ none h. subst (λ l. pairs (l ++ c.in_ok-pairs.pairs.children)) (sym c.new.ensures.items) h) (c.is_whole.ensures.0 c.if-not-is_whole.false) in
    subst (λ l. AreFound r unifiers may v Holds record { children = l; end = c.in_ok-all.last }) (sym c.from_vec-2.ensures)
    (both_found r unifiers may v pairs (ForEach (TryLiftsUnless r unifiers v true) (IsTryOf at c.headed.result.now)) c.in_ok-children.children.items c.in_ok-rest.rest c.in_ok-all.all.items c.in_ok-all.last so_far c.in_ok-rest.ensures c.in_ok-all.ensures
    Holds (λ p h. both_parts r unifiers v at c.args.f c.requires.sum.form.heads c.headed.result.now same c.in_ok-children.children.items c.in_ok-rest.rest.children p h))
