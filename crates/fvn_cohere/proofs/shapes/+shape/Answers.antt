-- The shape of one argument more, and of the operator over all.
use Rattle.std.proofs.Common.{◌≡◌, ◌<◌, ◌++◌, List, [], ◌∷◌, map, length, take, refl, sym, ap, ◌∙◌, arith}
use Rattle.std.proofs.lemmas.List.{take_more_set, map_more, take_all, length-set}
use Rattle.fvn_terms.specs.declared.plain.Plain.{Plain}
use Rattle.fvn_terms.specs.declared.plain.Var.{Var}
use Rattle.fvn_terms.specs.declared.declarations.Declarations.{Declarations}
use Rattle.fvn_terms.specs.Plain.{term, terms}
use Rattle.fvn_rewrite_laws.specs.declared.shapes.Shape.{Shape}
use Rattle.fvn_rewrite_laws.specs.Shapes.{shape_over, shape_in, shapes_in}
use Rattle.fvn_cohere.specs.inner.Searching.{shapes_by}
use Rattle.fvn_cohere.proofs.Arguments.{take_short, argument, few}
use Rattle.fvn_cohere.proofs.shapes.+shape.Goals as goal

shapes_of_terms : (d : Declarations) (env : Var → Shape) (items : List Plain) → map (λ (t : Plain). shape_in d env (term t)) items ≡ shapes_in d env (terms items)
shapes_of_terms d env [] = refl
shapes_of_terms d env (t ∷ items) = ap (λ l. shape_in d env (term t) ∷ l) (shapes_of_terms d env items)

pub shape_app-shape-requires : goal.shape_app-shape-requires
shape_app-shape-requires t c =
    let whole : terms c.deref-u-items.result.now ≡ c.args.us.now = ap terms c.deref-u-items.ensures.value ∙ c.us.view_is in
    let u = argument c.args.sig.now c.args.f c.deref-u-items.result.now c.args.us.now whole c.requires c.loop-u.u-index c.u-item.result c.loop-u-test.true c.u-item.is in
    (omega (arith, u.0), u.1)

pub shape_app-bounds-shapes-i : goal.shape_app-bounds-shapes-i
shape_app-bounds-shapes-i t c =
    let whole : terms c.deref-u-items.result.now ≡ c.args.us.now = ap terms c.deref-u-items.ensures.value ∙ c.us.view_is in
    omega (arith, few c.args.sig.now c.args.f c.deref-u-items.result.now c.args.us.now whole c.requires c.recall_good.ensures)

pub shape_app-loop-u-preserved : goal.shape_app-loop-u-preserved
shape_app-loop-u-preserved t c =
    let whole : terms c.deref-u-items.result.now ≡ c.args.us.now = ap terms c.deref-u-items.ensures.value ∙ c.us.view_is in
    let d = c.args.sig.now in
    let list : List Plain = c.deref-u-items.result.now in
    let of = λ (u : Plain). shape_in d (shapes_by c.args.chosen.now) (term u) in
    let short = few d c.args.f list c.args.us.now whole c.requires c.recall_good.ensures in
    let room : length c.loop-u.shapes ≡ 8 = c.loop-u.invariant.room in
    let within : c.loop-u.i < length c.loop-u.shapes = omega (arith, short) in
    record {
      count = omega arith;
      room = length-set c.loop-u.shapes c.loop-u.i c.shape.result ∙ room;
      shapes =
          take_more_set c.loop-u.shapes c.loop-u.i c.shape.result within
          ∙ ap (λ l. l ++ c.shape.result ∷ []) c.loop-u.invariant.shapes
          ∙ ap (λ s. map of (take c.loop-u.u-index list) ++ s ∷ []) (c.shape.ensures ∙ ap of c.u-item.is)
          ∙ sym (map_more of list c.loop-u.u-index c.u-item.result c.loop-u-test.true);
    }

pub shape_app-shape_over-requires : goal.shape_app-shape_over-requires
shape_app-shape_over-requires t c = take_short c.loop-u.i c.loop-u.shapes 8 c.loop-u.invariant.room

pub shape_app-returns : goal.shape_app-returns
shape_app-returns t c =
    let whole : terms c.deref-u-items.result.now ≡ c.args.us.now = ap terms c.deref-u-items.ensures.value ∙ c.us.view_is in
    let d = c.args.sig.now in
    let list : List Plain = c.deref-u-items.result.now in
    let env = shapes_by c.args.chosen.now in
    c.shape_over.ensures
    ∙ ap (shape_over d c.args.f) (
    c.loop-u.invariant.shapes
    ∙ ap (map (λ (u : Plain). shape_in d env (term u))) (take_all c.loop-u.u-index list c.loop-u-test.false)
    ∙ shapes_of_terms d env list
    ∙ ap (shapes_in d env) whole)
