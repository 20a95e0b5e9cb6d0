-- One place more.
use Rattle.std.proofs.Common.{◌+◌, [], take, sym, subst}
use Rattle.std.specs.Prelude.{Contains}
use Rattle.std.proofs.lemmas.List.{take_all}
use Rattle.std.proofs.lemmas.List.Elements.{All-contains, Contains-get_or}
use Rattle.fvn_base.proofs.Membership.{contains_none}
use Rattle.fvn_exploring.specs.declared.ends.ExpandEnd.TheVariants.{Whole}
use Rattle.fvn_rewrite_rules.specs.Given.{headed}
use Rattle.fvn_narrow.specs.declared.placing.Place.{Place}
use Rattle.fvn_narrow.specs.inner.Placing.{IsPlaceIn, IsTryIn}
use Rattle.fvn_narrow.specs.inner.Turns.{IsTryOf, ForEach, TryLiftsByParts, AreFound}
use Rattle.fvn_narrow.proofs.Joined.{AreSoFar, none_so_far, more_found, stopped, all_found, parts_grow, place_more, not_whole}
use Rattle.fvn_narrow.proofs.expanding.at_places.Goals as goal

pub loop-place-init : goal.loop-place-init
loop-place-init g c =
    let n = c.args.tools.now in
    let r = n.rewriter.now in
    let unifiers = g.S.Solves.most_unifiers n.solver.now in
    let may = g.S.Solves.drawn n.solver.now in
    let v = c.args.start.now.variant in
    let so_far = ForEach (TryLiftsByParts r unifiers v) (IsTryIn r.rules []) in
    subst (AreSoFar r unifiers may v so_far) (sym c.new-children.ensures.items) (none_so_far r unifiers may v so_far (λ try k. absurd (contains_none k.0 k.1)))

pub at_place-requires : goal.at_place-requires
at_place-requires g c =
    let place : Place = c.place-item.result in
    let listed = subst (Contains c.args.places.now) (sym c.place-item.is) (Contains-get_or c.args.places.now c.loop-place.place-index place c.loop-place-test.true) in record {
      ready = c.requires.ready;
      place = All-contains (IsPlaceIn c.args.start.now.variant.terms) c.args.places.now place c.requires.places listed;
    }

pub loop-place-preserved : goal.loop-place-preserved
loop-place-preserved g c =
    let n = c.args.tools.now in
    let r = n.rewriter.now in
    let unifiers = g.S.Solves.most_unifiers n.solver.now in
    let may = g.S.Solves.drawn n.solver.now in
    let v = c.args.start.now.variant in
    let places = c.args.places.now in
    let i = c.loop-place.place-index in
    let place : Place = c.place-item.result in
    more_found r unifiers may v (TryLiftsByParts r unifiers v) (parts_grow r unifiers v)
    (IsTryIn r.rules (take i places)) (IsTryOf place.at.now (headed r.rules place.head)) (IsTryIn r.rules (take (i + 1) places)) (place_more r.rules places i place c.loop-place-test.true c.place-item.is)
    c.loop-place.children.items c.in_ok-next.next c.in_ok-all.all.items c.in_ok-all.end c.loop-place.invariant c.in_ok-next.ensures c.in_ok-all.ensures (c.is_whole.ensures.0 c.if-not-is_whole.false)

pub returns-then-not-is_whole : goal.returns-then-not-is_whole
returns-then-not-is_whole g c =
    let n = c.args.tools.now in
    let r = n.rewriter.now in
    let unifiers = g.S.Solves.most_unifiers n.solver.now in
    let may = g.S.Solves.drawn n.solver.now in
    let v = c.args.start.now.variant in
    let places = c.args.places.now in
    let place : Place = c.place-item.result in
    let Wanted = ForEach (TryLiftsByParts r unifiers v) (IsTryIn r.rules places) in
    subst (λ l. AreFound r unifiers may v Wanted record { children = l; end = c.in_ok-all.end }) (sym c.from_vec.ensures)
    (stopped r unifiers may v (ForEach (TryLiftsByParts r unifiers v) (IsTryIn r.rules (take c.loop-place.place-index places))) (ForEach (TryLiftsByParts r unifiers v) (IsTryOf place.at.now (headed r.rules place.head)))
    c.loop-place.children.items c.in_ok-next.next c.in_ok-all.all.items c.in_ok-all.end
    c.loop-place.invariant c.in_ok-next.ensures c.in_ok-all.ensures Wanted (not_whole c.is_whole.result c.in_ok-all.end c.is_whole.ensures c.if-not-is_whole.true))

pub returns : goal.returns
returns g c =
    let n = c.args.tools.now in
    let r = n.rewriter.now in
    let unifiers = g.S.Solves.most_unifiers n.solver.now in
    let may = g.S.Solves.drawn n.solver.now in
    let v = c.args.start.now.variant in
    let places = c.args.places.now in
    let i = c.loop-place.place-index in
    let Lifts = TryLiftsByParts r unifiers v in
    let Wanted = ForEach Lifts (IsTryIn r.rules places) in
    subst (λ l. AreFound r unifiers may v Wanted record { children = l; end = Whole }) (sym c.from_vec-2.ensures)
    (all_found r unifiers may v (ForEach Lifts (IsTryIn r.rules (take i places))) Wanted c.loop-place.children.items
    (subst (λ l. ForEach Lifts (IsTryIn r.rules l) c.loop-place.children.items) (take_all i places c.loop-place-test.false)) c.loop-place.invariant)
