-- One identity more.
use Rattle.std.proofs.Common.{◌++◌, [], ◌∷◌, map, ap, ◌∙◌}
use Rattle.std.proofs.lemmas.List.{take_all}
use Rattle.fvn_rewrite_laws.specs.Choices.{identity_shape}
use Rattle.fvn_cohere.proofs.Steps.{map-append-step}
use Rattle.fvn_cohere.proofs.choosing.with_identity_shapes.Goals as goal

pub loop-e-preserved : goal.loop-e-preserved
loop-e-preserved c =
    c.in_ok-push.ensures.items
    ∙ ap (λ l. l ++ c.identity_shape-shape.result ∷ []) c.loop-e.invariant
    ∙ map-append-step (identity_shape c.args.sig.now) c.args.shapes.items c.args.es.now c.loop-e.e-index _ c.identity_shape-shape.result c.loop-e-test.true c.identity_shape-shape.ensures

pub returns : goal.returns
returns c = c.loop-e.invariant ∙ ap (λ l. c.args.shapes.items ++ map (identity_shape c.args.sig.now) l) (take_all c.loop-e.e-index c.args.es.now c.loop-e-test.false)
