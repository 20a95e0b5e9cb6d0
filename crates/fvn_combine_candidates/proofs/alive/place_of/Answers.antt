-- One vector more from the last on, and the first that stands before.
use Rattle.std.proofs.Common.{◌≡◌, ◌<◌, ◌-◌, ◌+◌, length, get_or, ◌∙◌, sym, ap, subst, refl, arith}
use Rattle.std.proofs.lemmas.List.{length-map}
use Rattle.fvn_base.specs.Order.{IsBefore}
use Rattle.fvn_lindio.specs.declared.system.Solution.{Solution}
use Rattle.fvn_lindio.specs.Systems.{vectors_of}
use Rattle.fvn_base.proofs.MappedLists.{all_mapped_at}
use Rattle.fvn_combine_candidates.proofs.Inserted.{vector_at, place_after, no_place, not_false}
use Rattle.fvn_combine_candidates.proofs.alive.place_of.Goals as goal

pub loop-i-init : goal.loop-i-init
loop-i-init c = λ d l h. omega (arith, l)

pub is_before-requires : goal.is_before-requires
is_before-requires c = all_mapped_at (λ w. w.parts) (λ v. length v ≡ length c.args.parts.now) c.args.list.now (length c.args.list.now - 1 - c.loop-i.i) c.index-list-last.result c.as_slice.result.now (omega (arith, c.loop-i-test.true)) c.index-list-last.is (c.as_slice.ensures ∙ ap (λ (w : Solution). w.parts) (sym c.index-list-last.is)) c.requires.sized

pub returns-then-is_before : goal.returns-then-is_before
returns-then-is_before c =
    let list = c.args.list.now in
    let at = length list - 1 - c.loop-i.i in
    let within : at < length list = omega (arith, c.loop-i-test.true) in
    let before : IsBefore c.as_slice.result.now c.args.parts.now = c.if-is_before.ensures.0 refl in
    let next : at + 1 ≡ length list - c.loop-i.i = omega (arith, c.loop-i-test.true) in
    place_after (vectors_of list) c.args.parts.now at c.requires.ordered (omega (arith, within, length-map list (λ w. w.parts)))
    (λ d. subst (λ v. IsBefore v c.args.parts.now) (c.as_slice.ensures ∙ ap (λ (w : Solution). w.parts) (sym c.index-list-last.is) ∙ sym (vector_at list at c.index-list-last.result d within c.index-list-last.is)) before)
    (λ d l h. c.loop-i.invariant d (omega (arith, l, length-map list (λ w. w.parts))) (subst (λ k. IsBefore (get_or (vectors_of list) k d) c.args.parts.now) next h))

pub loop-i-preserved : goal.loop-i-preserved
loop-i-preserved c =
    let list = c.args.list.now in
    let at = length list - 1 - c.loop-i.i in
    let within : at < length list = omega (arith, c.loop-i-test.true) in
    let never = not_false c.is_before.result c.if-is_before.false c.is_before.ensures.1 in
    let here : at ≡ length list - (c.loop-i.i + 1) = omega (arith, c.loop-i-test.true) in
    λ d l h. never (subst (λ v. IsBefore v c.args.parts.now) (sym (c.as_slice.ensures ∙ ap (λ (w : Solution). w.parts) (sym c.index-list-last.is) ∙ sym (vector_at list at c.index-list-last.result d within c.index-list-last.is))) (subst (λ k. IsBefore (get_or (vectors_of list) k d) c.args.parts.now) (sym here) h))

pub returns : goal.returns
returns c = no_place (vectors_of c.args.list.now) c.args.parts.now (length c.args.list.now) c.loop-i.i c.loop-i-test.false (length-map c.args.list.now (λ w. w.parts)) c.loop-i.invariant
