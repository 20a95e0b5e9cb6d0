-- One place for each form is enough.
use Rattle.std.proofs.Common.{List, sym, subst}
use Rattle.std.specs.Prelude.{All}
use Rattle.fvn_rewrite_rules.specs.Given.{RuleLists}
use Rattle.fvn_narrow.specs.declared.placing.Place.{Place}
use Rattle.fvn_narrow.specs.inner.Placing.{IsPlaceIn, IsTryIn, ArePlaces}
use Rattle.fvn_narrow.specs.inner.Turns.{ForEach, TryLiftsByParts, AreFound}
use Rattle.fvn_narrow.proofs.Along.{in_places}
use Rattle.fvn_narrow.proofs.expanding.in_terms.Goals as goal

pub at_places-requires : goal.at_places-requires
at_places-requires g c =
    let v = c.args.start.now.variant in
    let terms = c.as_slice-terms.result.now in record {
      ready = c.requires.ready;
      places = subst (All (IsPlaceIn v.terms)) (sym c.as_slice.ensures.value) (subst (λ l. All (IsPlaceIn l) c.in_ok-places.places.items) c.as_slice-terms.ensures c.in_ok-places.ensures.sound);
    }

pub returns : goal.returns
returns g c =
    let n = c.args.tools.now in
    let r = n.rewriter.now in
    let unifiers = g.S.Solves.most_unifiers n.solver.now in
    let may = g.S.Solves.drawn n.solver.now in
    let v = c.args.start.now.variant in
    let list : List Place = c.in_ok-places.places.items in
    let are : ArePlaces r.rules v.terms list = subst (λ l. ArePlaces r.rules l list) c.as_slice-terms.ensures (subst (λ (l : RuleLists). ArePlaces l c.as_slice-terms.result.now list) c.rules-rules.ensures c.in_ok-places.ensures) in
    in_places r unifiers may v list are c.in_ok-e.e (subst (λ l. AreFound r unifiers may v (ForEach (TryLiftsByParts r unifiers v) (IsTryIn r.rules l)) c.in_ok-e.e) c.as_slice.ensures.value c.in_ok-e.ensures)
