-- One rule more; those in whose place others serve are covered by these.
use Rattle.std.proofs.Common.{◌≡◌, ◌+◌, [], take, sym, subst}
use Rattle.std.specs.Prelude.{Contains}
use Rattle.std.proofs.lemmas.List.{take_all}
use Rattle.std.proofs.lemmas.List.Elements.{All-contains, Contains-get_or}
use Rattle.fvn_base.proofs.Membership.{contains_none}
use Rattle.fvn_rewrite.specs.Usable.{equations_by}
use Rattle.fvn_rewrite_rules.specs.declared.rule.Rule.{Rule}
use Rattle.fvn_exploring.specs.declared.ends.ExpandEnd.TheVariants.{Whole}
use Rattle.fvn_narrow.specs.inner.Turns.{Try, turn_of, try_of, IsTurnAt, IsTryOf, ForEach, TryLiftsUnless, TryLiftsAmong, AreFound}
use Rattle.fvn_narrow.proofs.Joined.{AreSoFar, none_so_far, more_found, found_so, stopped, all_found, among_grows, rule_more, not_whole, for_one}
use Rattle.fvn_narrow.proofs.Served.{part_fits, all_served}
use Rattle.fvn_narrow.proofs.trying.by_rules.Goals as goal

pub loop-rule-init : goal.loop-rule-init
loop-rule-init g c =
    let n = c.args.tools.now in
    let unifiers = g.S.Solves.most_unifiers n.solver.now in
    let may = g.S.Solves.drawn n.solver.now in
    let v = c.args.start.now.variant in
    let so_far = ForEach (TryLiftsAmong n.rewriter.now unifiers v c.args.passes c.args.rules.now) (IsTryOf c.args.part.now.at.now []) in
    subst (AreSoFar n.rewriter.now unifiers may v so_far) (sym c.new-children.ensures.items) (none_so_far n.rewriter.now unifiers may v so_far (λ try k. absurd (contains_none try.rule k.1)))

pub by_rule_unless-requires : goal.by_rule_unless-requires
by_rule_unless-requires g c =
    let p = c.args.part.now in
    let r = c.args.tools.now.rewriter.now in
    let usable = c.recall.ensures.usable in
    let laws = c.rules_are_lawful.ensures r.signature c.recall.ensures.good c.recall.ensures.completed (equations_by r) (λ e i. (usable.admissible e i).kinded.kinds) in
    let rule : Rule = c.rule-item.result in
    let listed = subst (Contains c.args.rules.now) (sym c.rule-item.is) (Contains-get_or c.args.rules.now c.loop-rule.rule-index rule c.loop-rule-test.true) in record {
      ready = c.requires.ready;
      turn = All-contains (λ (rule : Rule). IsTurnAt r c.args.start.now.variant p.at.now (turn_of p.member p.path.now p.beside rule)) c.args.rules.now rule c.requires.turns listed;
      fits = part_fits r c.recall.ensures.good usable laws (g.S.Solves.most_unifiers c.args.tools.now.solver.now) c.args.start.now.variant c.args.start.now.next c.requires.ready p.member p.path.now p.beside p.at.now c.args.rules.now c.requires.turns rule listed;
    }

pub loop-rule-preserved : goal.loop-rule-preserved
loop-rule-preserved g c =
    let n = c.args.tools.now in
    let unifiers = g.S.Solves.most_unifiers n.solver.now in
    let may = g.S.Solves.drawn n.solver.now in
    let v = c.args.start.now.variant in
    let at = c.args.part.now.at.now in
    let rules = c.args.rules.now in
    let i = c.loop-rule.rule-index in
    let rule : Rule = c.rule-item.result in
    let Holds = TryLiftsAmong n.rewriter.now unifiers v c.args.passes rules in
    let found = found_so n.rewriter.now unifiers may v (Holds (try_of at rule)) (ForEach Holds (λ (try : Try). try ≡ try_of at rule)) c.in_ok-next.next (for_one Holds (try_of at rule) c.in_ok-next.next.children) c.in_ok-next.ensures in
    more_found n.rewriter.now unifiers may v Holds (among_grows n.rewriter.now unifiers v c.args.passes rules)
    (IsTryOf at (take i rules)) (λ (try : Try). try ≡ try_of at rule) (IsTryOf at (take (i + 1) rules)) (rule_more at rules i rule c.loop-rule-test.true c.rule-item.is)
    c.loop-rule.children.items c.in_ok-next.next c.in_ok-all.all.items c.in_ok-all.end c.loop-rule.invariant found c.in_ok-all.ensures (c.is_whole.ensures.0 c.if-not-is_whole.false)

pub returns-then-not-is_whole : goal.returns-then-not-is_whole
returns-then-not-is_whole g c =
    let n = c.args.tools.now in
    let unifiers = g.S.Solves.most_unifiers n.solver.now in
    let may = g.S.Solves.drawn n.solver.now in
    let v = c.args.start.now.variant in
    let at = c.args.part.now.at.now in
    let rules = c.args.rules.now in
    let rule : Rule = c.rule-item.result in
    let Holds = TryLiftsAmong n.rewriter.now unifiers v c.args.passes rules in
    let Wanted = ForEach (TryLiftsUnless n.rewriter.now unifiers v c.args.passes) (IsTryOf at rules) in
    subst (λ l. AreFound n.rewriter.now unifiers may v Wanted record { children = l; end = c.in_ok-all.end }) (sym c.from_vec.ensures)
    (stopped n.rewriter.now unifiers may v (ForEach Holds (IsTryOf at (take c.loop-rule.rule-index rules))) (Holds (try_of at rule)) c.loop-rule.children.items c.in_ok-next.next c.in_ok-all.all.items c.in_ok-all.end
    c.loop-rule.invariant c.in_ok-next.ensures c.in_ok-all.ensures Wanted (not_whole c.is_whole.result c.in_ok-all.end c.is_whole.ensures c.if-not-is_whole.true))

pub returns : goal.returns
returns g c =
    let n = c.args.tools.now in
    let r = n.rewriter.now in
    let unifiers = g.S.Solves.most_unifiers n.solver.now in
    let may = g.S.Solves.drawn n.solver.now in
    let v = c.args.start.now.variant in
    let p = c.args.part.now in
    let at = p.at.now in
    let rules = c.args.rules.now in
    let i = c.loop-rule.rule-index in
    let usable = c.recall.ensures.usable in
    let laws = c.rules_are_lawful.ensures r.signature c.recall.ensures.good c.recall.ensures.completed (equations_by r) (λ e i. (usable.admissible e i).kinded.kinds) in
    let Holds = TryLiftsAmong r unifiers v c.args.passes rules in
    let Wanted = ForEach (TryLiftsUnless r unifiers v c.args.passes) (IsTryOf at rules) in
    subst (λ l. AreFound r unifiers may v Wanted record { children = l; end = Whole }) (sym c.from_vec-2.ensures)
    (all_found r unifiers may v (ForEach Holds (IsTryOf at (take i rules))) Wanted c.loop-rule.children.items
    (λ h. all_served r c.recall.ensures.good usable laws unifiers v c.args.start.now.next c.requires.ready p.member p.path.now p.beside at rules c.requires.turns c.args.passes c.loop-rule.children.items
    (λ try k. h try (k.0, subst (λ l. Contains l try.rule) (sym (take_all i rules c.loop-rule-test.false)) k.1))) c.loop-rule.invariant)
