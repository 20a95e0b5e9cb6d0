-- A clash, or the solver's answer and what its unifiers make.
use Rattle.std.proofs.Common.{sym, subst}
use Rattle.std.specs.Prelude.{All}
use Rattle.std.proofs.lemmas.List.Elements.{All-weaker}
use Rattle.fvn_terms.specs.declared.declarations.Declarations.{Declarations}
use Rattle.fvn_flat.specs.Bindings.{Bindings, BindsOnce, BindingsFit}
use Rattle.fvn_flat.specs.Fits.{Fits}
use Rattle.fvn_flat.specs.Solving.{problem_of, Binds, IsGiven, AreUnifiers, AreBindings, AreNumbered, AreApart, AreComplete, HasCause}
use Rattle.fvn_rewrite.specs.Usable.{equations_by}
use Rattle.fvn_places.specs.Clashes.{NeverMeet}
use Rattle.fvn_narrow.specs.inner.Turns.{turn_of, AreGrownAt}
use Rattle.fvn_narrow.proofs.Posed.{fit_here, may_be_given, found_none}
use Rattle.fvn_narrow.proofs.RuleTurn.{IsAnswered}
use Rattle.fvn_narrow.proofs.Found.{found_here}
use Rattle.fvn_narrow.proofs.stepping.by_rule.Goals as goal

pub clash-clashing-requires : goal.clash-clashing-requires
clash-clashing-requires g c =
    let r = c.args.tools.now.rewriter.now in
    let v = c.args.start.now.variant in
    let turn = turn_of c.args.part.now.member c.args.part.now.path.now c.args.part.now.beside c.args.rule.now in
    let usable = c.recall.ensures.usable in
    let rules = c.rules_are_lawful.ensures r.signature c.recall.ensures.good c.recall.ensures.completed (equations_by r) (λ e i. (usable.admissible e i).kinded.kinds) in
    let fit = fit_here r c.recall.ensures.good usable rules v c.args.start.now.next c.requires.ready c.args.part.now.at.now turn c.requires.turn in record {
      first = subst (λ (d : Declarations). Fits d c.args.part.now.at.now) (sym c.signature.ensures) fit.at_fits;
      second = subst (λ (d : Declarations). Fits d c.args.rule.now.left) (sym c.signature.ensures) fit.left_fits;
    }

pub solve-requires : goal.solve-requires
solve-requires g c =
    let r = c.args.tools.now.rewriter.now in
    let v = c.args.start.now.variant in
    let turn = turn_of c.args.part.now.member c.args.part.now.path.now c.args.part.now.beside c.args.rule.now in
    let usable = c.recall.ensures.usable in
    let rules = c.rules_are_lawful.ensures r.signature c.recall.ensures.good c.recall.ensures.completed (equations_by r) (λ e i. (usable.admissible e i).kinded.kinds) in
    subst (λ (d : Declarations). IsGiven d c.in_ok-given.given c.args.start.now.next) (sym c.args.tools.now.one_signature)
    (may_be_given r c.recall.ensures.good usable rules v c.args.start.now.next c.requires.ready c.args.part.now.at.now turn c.requires.turn c.in_ok-given.given c.in_ok-given.ensures)

pub children-requires : goal.children-requires
children-requires g c =
    let r = c.args.tools.now.rewriter.now in record {
      ready = c.requires.ready;
      turn = c.requires.turn;
      unifiers = subst (All (BindingsFit r.signature)) (sym c.as_slice.ensures)
          (All-weaker (λ (b : Bindings). Binds (problem_of c.in_ok-given.given) b × BindsOnce b × BindingsFit (g.S.Solves.signature c.args.tools.now.solver.now) b) (BindingsFit r.signature)
          (λ b h. subst (λ (d : Declarations). BindingsFit d b) c.args.tools.now.one_signature h.2) c.in_ok-solved.solved.unifiers c.in_ok-solved.ensures.binds);
    }

pub returns-then-clashing : goal.returns-then-clashing
returns-then-clashing g c =
    let r = c.args.tools.now.rewriter.now in
    let v = c.args.start.now.variant in
    let turn = turn_of c.args.part.now.member c.args.part.now.path.now c.args.part.now.beside c.args.rule.now in
    let usable = c.recall.ensures.usable in
    let rules = c.rules_are_lawful.ensures r.signature c.recall.ensures.good c.recall.ensures.completed (equations_by r) (λ e i. (usable.admissible e i).kinded.kinds) in
    let never = subst (λ (d : Declarations). NeverMeet d c.args.part.now.at.now c.args.rule.now.left) c.signature.ensures (c.clash-clashing.ensures c.if-clashing.true) in
    found_none r c.recall.ensures.good usable rules v c.args.start.now.next c.requires.ready c.args.part.now.at.now turn c.requires.turn
    (g.S.Solves.most_unifiers c.args.tools.now.solver.now) (g.S.Solves.drawn c.args.tools.now.solver.now) never c.no_children.result c.no_children.ensures.children c.no_children.ensures.end

pub returns : goal.returns
returns g c =
    let n = c.args.tools.now in
    let r = n.rewriter.now in
    let v = c.args.start.now.variant in
    let next = c.args.start.now.next in
    let at = c.args.part.now.at.now in
    let turn = turn_of c.args.part.now.member c.args.part.now.path.now c.args.part.now.beside c.args.rule.now in
    let given = c.in_ok-given.given in
    let solved = c.in_ok-solved.solved in
    let unifiers = g.S.Solves.most_unifiers n.solver.now in
    let may = g.S.Solves.drawn n.solver.now in
    let good = c.recall.ensures.good in
    let usable = c.recall.ensures.usable in
    let rules = c.rules_are_lawful.ensures r.signature good c.recall.ensures.completed (equations_by r) (λ e i. (usable.admissible e i).kinded.kinds) in
    let t = fit_here r good usable rules v next c.requires.ready at turn c.requires.turn in
    let same = n.one_signature in
    let e = c.in_ok-solved.ensures in
    let a : IsAnswered r may next at turn.rule.left given solved = record {
      given_is = c.in_ok-given.ensures;
      sound = subst (λ (d : Declarations). AreUnifiers d given solved) same e.sound;
      drawn_all = e.drawn;
      binds = subst (λ (d : Declarations). AreBindings d given solved) same e.binds;
      fresh = subst (λ (d : Declarations). AreNumbered d given next solved) same e.fresh;
      bounded = e.bounded;
      apart = subst (λ (d : Declarations). AreApart d given solved) same e.apart;
      complete = subst (λ (d : Declarations). AreComplete d given solved) same e.complete;
    } in
    let cause : HasCause r.signature given unifiers (g.S.Solves.most_symbols n.solver.now) solved = subst (λ (d : Declarations). HasCause d given unifiers (g.S.Solves.most_symbols n.solver.now) solved) same e.cause in
    let here : AreGrownAt r v turn solved.unifiers c.in_ok-grown.grown = subst (λ l. AreGrownAt r v turn l c.in_ok-grown.grown) c.as_slice.ensures c.in_ok-grown.ensures in
    found_here r good c.recall.ensures.completed usable (λ left right i. (usable.admissible (left, right) i).kinded.brings_none) (c.rewriting_is_lawful.ensures r.signature (equations_by r)) (c.lists_are_lawful.ensures r.signature (equations_by r)) rules
    c.successors_are_steps.ensures c.turns_lift.ensures unifiers may v next c.requires.ready at turn t given solved a (g.S.Solves.most_symbols n.solver.now) n.one_size cause c.in_ok-grown.grown c.ended.result here c.ended.ensures
