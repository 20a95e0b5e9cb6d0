-- The outlook of one argument more, and of the operator over all.
use Rattle.std.proofs.Common.{◌≡◌, ◌<◌, ◌≤◌, List, map, length, take, sym, ap, ◌∙◌, subst, arith}
use Rattle.std.specs.List.{AllZip}
use Rattle.std.proofs.lemmas.List.{take_more_set, map_more, take_all, length-set, length-take}
use Rattle.std.proofs.Math.Nat.{min-eq_left}
use Rattle.fvn_terms.specs.declared.plain.Plain.{Plain}
use Rattle.fvn_terms.specs.Plain.{term, terms}
use Rattle.fvn_rewrite_laws.specs.Shapes.{shape_in, shapes_in}
use Rattle.fvn_cohere.specs.inner.Outlooks.{Suits}
use Rattle.fvn_cohere.proofs.Arguments.{take_short, argument, few}
use Rattle.fvn_cohere.proofs.Foreseen.{suits_push, arguments_fit, shapes_of_terms}
use Rattle.fvn_cohere.proofs.outlooks.PartialChoice.+outlook.Goals as goal

pub outlook-returns-in-Var : goal.outlook-returns-in-Var
outlook-returns-in-Var t c = λ filled h.
    subst (λ u. Suits c.args.self.now.sig.now c.variable_outlook.result (shape_in c.args.self.now.sig.now filled u)) (sym (ap term c.in-Var.is)) (c.variable_outlook.ensures filled h)

pub outlook_app-outlook-requires : goal.outlook_app-outlook-requires
outlook_app-outlook-requires t c =
    let d = c.args.self.now.sig.now in
    let whole : terms c.deref-u-items.result.now ≡ c.args.us.now = ap terms c.deref-u-items.ensures.value ∙ c.us.view_is in
    let u = argument d c.args.f c.deref-u-items.result.now c.args.us.now whole c.requires.term c.loop-u.u-index c.u-item.result c.loop-u-test.true c.u-item.is in
    (omega (arith, u.0), (c.requires.identities, u.1))

pub outlook_app-bounds-parts-i : goal.outlook_app-bounds-parts-i
outlook_app-bounds-parts-i t c =
    let whole : terms c.deref-u-items.result.now ≡ c.args.us.now = ap terms c.deref-u-items.ensures.value ∙ c.us.view_is in
    omega (arith, few c.args.self.now.sig.now c.args.f c.deref-u-items.result.now c.args.us.now whole c.requires.term c.recall_good.ensures)

pub outlook_app-slice_bounds-parts-end : goal.outlook_app-slice_bounds-parts-end
outlook_app-slice_bounds-parts-end t c =
    let whole : terms c.deref-u-items.result.now ≡ c.args.us.now = ap terms c.deref-u-items.ensures.value ∙ c.us.view_is in
    let room : length c.loop-u.parts ≡ 8 = c.loop-u.invariant.room in
    omega (arith, few c.args.self.now.sig.now c.args.f c.deref-u-items.result.now c.args.us.now whole c.requires.term c.recall_good.ensures)

pub outlook_app-slice_bounds-outlook_over-end : goal.outlook_app-slice_bounds-outlook_over-end
outlook_app-slice_bounds-outlook_over-end t c =
    let whole : terms c.deref-u-items.result.now ≡ c.args.us.now = ap terms c.deref-u-items.ensures.value ∙ c.us.view_is in
    let room : length c.loop-u.parts ≡ 8 = c.loop-u.invariant.room in
    let short : c.loop-u.i ≤ length c.loop-u.parts = omega (arith, few c.args.self.now.sig.now c.args.f c.deref-u-items.result.now c.args.us.now whole c.requires.term c.recall_good.ensures) in
    sym (length-take c.loop-u.i c.loop-u.parts ∙ min-eq_left short)

pub outlook_app-loop-u-preserved : goal.outlook_app-loop-u-preserved
outlook_app-loop-u-preserved t c =
    let d = c.args.self.now.sig.now in
    let whole : terms c.deref-u-items.result.now ≡ c.args.us.now = ap terms c.deref-u-items.ensures.value ∙ c.us.view_is in
    let list : List Plain = c.deref-u-items.result.now in
    let short = few d c.args.f list c.args.us.now whole c.requires.term c.recall_good.ensures in
    let room : length c.loop-u.parts ≡ 8 = c.loop-u.invariant.room in
    let within : c.loop-u.i < length c.loop-u.parts = omega (arith, short) in
    record {
      count = omega arith;
      room = length-set c.loop-u.parts c.loop-u.i c.outlook.result ∙ room;
      suits = λ filled h.
          let of = λ (u : Plain). shape_in d filled (term u) in
          rw (take_more_set c.loop-u.parts c.loop-u.i c.outlook.result within, map_more of list c.loop-u.u-index c.u-item.result c.loop-u-test.true)
          (suits_push d (take c.loop-u.i c.loop-u.parts) (map of (take c.loop-u.u-index list)) c.outlook.result (of _) (c.loop-u.invariant.suits filled h)
          (subst (λ (v : Plain). Suits d c.outlook.result (of v)) c.u-item.is (c.outlook.ensures filled h)));
    }

pub outlook_app-outlook_over-requires : goal.outlook_app-outlook_over-requires
outlook_app-outlook_over-requires t c = record {
  few = take_short c.loop-u.i c.loop-u.parts 8 c.loop-u.invariant.room;
  identities = c.requires.identities;
}

pub outlook_app-returns : goal.outlook_app-returns
outlook_app-returns t c = λ filled h.
    let d = c.args.self.now.sig.now in
    let whole : terms c.deref-u-items.result.now ≡ c.args.us.now = ap terms c.deref-u-items.ensures.value ∙ c.us.view_is in
    let list : List Plain = c.deref-u-items.result.now in
    let all =
    ap (map (λ (u : Plain). shape_in d filled (term u))) (take_all c.loop-u.u-index list c.loop-u-test.false)
    ∙ shapes_of_terms d filled list
    ∙ ap (shapes_in d filled) whole in
    c.outlook_over.ensures (shapes_in d filled c.args.us.now)
    (subst (AllZip (Suits d) (take c.loop-u.i c.loop-u.parts)) all (c.loop-u.invariant.suits filled h))
    (arguments_fit d c.recall_good.ensures filled h.allowed c.args.f c.args.us.now c.requires.term.0 c.requires.term.1)
