-- What is read at the place is what stands there.
use Rattle.std.proofs.Common.{◌≡◌, length, get_or, sym, ap, ◌∙◌, arith}
use Rattle.std.proofs.lemmas.List.{length-map}
use Rattle.fvn_lindio.specs.declared.system.Solution.{Solution}
use Rattle.fvn_lindio.specs.Systems.{vectors_of}
use Rattle.fvn_combine_candidates.proofs.Inserted.{vector_at}
use Rattle.fvn_combine_candidates.proofs.alive.stands_at.Goals as goal

pub returns-then-place-list : goal.returns-then-place-list
returns-then-place-list c =
    let list = c.args.list.now in
    let l = c.if-place-list.true in
    let long = length-map list (λ (w : Solution). w.parts) in
    let same : c.as_slice.result.now ≡ get_or (vectors_of list) c.args.place c.args.parts.now =
    c.as_slice.ensures ∙ ap (λ (w : Solution). w.parts) (sym c.index-list-place.is) ∙ sym (vector_at list c.args.place c.index-list-place.result c.args.parts.now l c.index-list-place.is) in
    (λ t. (omega (arith, l, long), sym same ∙ c.is_same.ensures.0 t), λ h. c.is_same.ensures.1 (same ∙ h.1))
