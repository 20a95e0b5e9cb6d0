-- The rule itself, or the one that replaces it.
use Rattle.std.proofs.Common.{sym, ap, ◌∙◌, subst}
use Rattle.std.specs.Prelude.{Contains}
use Rattle.fvn_terms.specs.declared.declarations.Declarations.{Declarations}
use Rattle.fvn_flat.specs.Fits.{Fits}
use Rattle.fvn_rewrite.specs.Usable.{equations_by}
use Rattle.fvn_narrow.specs.inner.Serving.{ServesAt}
use Rattle.fvn_narrow.specs.inner.Turns.{turn_of, try_of, TryLifts}
use Rattle.fvn_narrow.proofs.Fit.{meeting_of}
use Rattle.fvn_narrow.proofs.Joined.{found_so}
use Rattle.fvn_narrow.proofs.Served.{other_meets, other_lifts}
use Rattle.fvn_narrow.proofs.trying.by_needed.Goals as goal

pub replacement-requires : goal.replacement-requires
replacement-requires g c = subst (λ (d : Declarations). Fits d c.args.part.now.at.now) (sym c.signature.ensures) c.requires.fits

pub by_rule-requires : goal.by_rule-requires
by_rule-requires g c =
    let r = c.args.tools.now.rewriter.now in
    let p = c.args.part.now in
    let usable = c.recall.ensures.usable in
    let laws = c.rules_are_lawful.ensures r.signature c.recall.ensures.good c.recall.ensures.completed (equations_by r) (λ e i. (usable.admissible e i).kinded.kinds) in record {
      ready = c.requires.ready;
      turn = meeting_of r c.recall.ensures.good usable laws c.args.start.now.variant p.at.now (turn_of p.member p.path.now p.beside c.args.rule.now) c.requires.turn;
    }

pub by_rule-requires-2 : goal.by_rule-requires-2
by_rule-requires-2 g c =
    let r = c.args.tools.now.rewriter.now in
    let p = c.args.part.now in
    let usable = c.recall.ensures.usable in
    let laws = c.rules_are_lawful.ensures r.signature c.recall.ensures.good c.recall.ensures.completed (equations_by r) (λ e i. (usable.admissible e i).kinded.kinds) in
    let all = c.rules-all.ensures ∙ ap (λ l. l.rules) c.rules.ensures in
    let other = c.in-Some.other.now in record {
      ready = c.requires.ready;
      turn = other_meets r c.recall.ensures.good usable laws c.args.start.now.variant p.member p.path.now p.beside p.at.now c.args.rule.now other c.requires.turn
          (subst (λ l. Contains l other) all c.in-Some.ensures.0) (subst (λ (d : Declarations). ServesAt d p.at.now other.left c.args.rule.now.left) c.signature.ensures c.in-Some.ensures.1);
    }

pub returns : goal.returns
returns g c =
    let n = c.args.tools.now in
    let r = n.rewriter.now in
    let unifiers = g.S.Solves.most_unifiers n.solver.now in
    let may = g.S.Solves.drawn n.solver.now in
    let v = c.args.start.now.variant in
    let p = c.args.part.now in
    let usable = c.recall.ensures.usable in
    let laws = c.rules_are_lawful.ensures r.signature c.recall.ensures.good c.recall.ensures.completed (equations_by r) (λ e i. (usable.admissible e i).kinded.kinds) in
    let all = c.rules-all.ensures ∙ ap (λ l. l.rules) c.rules.ensures in
    let other = c.in-Some.other.now in
    found_so r unifiers may v (TryLifts r unifiers v (try_of p.at.now other)) (TryLifts r unifiers v (try_of p.at.now c.args.rule.now)) c.in_ok-by_other.by_other
    (other_lifts r c.recall.ensures.good usable laws v p.member p.path.now p.beside p.at.now c.args.rule.now other c.requires.turn
    (subst (λ l. Contains l other) all c.in-Some.ensures.0) (subst (λ (d : Declarations). ServesAt d p.at.now other.left c.args.rule.now.left) c.signature.ensures c.in-Some.ensures.1) unifiers c.requires.fits c.in_ok-by_other.by_other.children) c.in_ok-by_other.ensures
