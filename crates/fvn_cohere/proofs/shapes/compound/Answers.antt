-- One sort more, and all of them.
use Rattle.std.proofs.Common.{◌≡◌, ◌<◌, List, map, length, take, refl, ap, ◌∙◌, arith}
use Rattle.std.proofs.lemmas.List.{take_more_set, take_all, length-set}
use Rattle.fvn_forms.specs.Ranks.{result}
use Rattle.fvn_rewrite_laws.specs.declared.shapes.Shape.{Shape}
use Rattle.fvn_rewrite_laws.specs.Shapes.{compound}
use Rattle.fvn_cohere.proofs.Steps.{sorts-step}
use Rattle.fvn_cohere.proofs.shapes.compound.Goals as goal

pub bounds-sorts-i : goal.bounds-sorts-i
bounds-sorts-i c = omega (arith, c.requires)

pub loop-shape-preserved : goal.loop-shape-preserved
loop-shape-preserved c =
    let list : List Shape = c.args.shapes.now in
    let room : length c.loop-shape.sorts ≡ 8 = c.loop-shape.invariant.room in
    let within : c.loop-shape.i < length c.loop-shape.sorts = omega (arith, c.requires) in
    record {
      count = omega arith;
      room = length-set c.loop-shape.sorts c.loop-shape.i _ ∙ room;
      sorts = take_more_set c.loop-shape.sorts c.loop-shape.i _ within ∙ sorts-step list (take c.loop-shape.i c.loop-shape.sorts) c.loop-shape.shape-index _ _ c.loop-shape-test.true c.loop-shape.invariant.sorts refl;
    }

pub returns : goal.returns
returns c =
    let list : List Shape = c.args.shapes.now in
    ap compound (
    c.result.ensures.exact
    ∙ ap (result c.args.sig.now c.args.f) (c.loop-shape.invariant.sorts ∙ ap (map (λ (s : Shape). s.sort)) (take_all c.loop-shape.shape-index list c.loop-shape-test.false)))
