-- No declaration so far is bad, with one declaration more.
use Rattle.std.proofs.Common.{◌≡◌, List, refl, sym, subst, arith}
use Rattle.std.specs.List.{Any}
use Rattle.std.proofs.lemmas.Bool.{false≢true}
use Rattle.fvn_signature_draft.specs.declared.collected.Declaration.{Declaration}
use Rattle.fvn_sorts.specs.Faults.{HasBadShape}
use Rattle.fvn_sorts.proofs.ShapeLemmas.{none_more}
use Rattle.fvn_sorts.proofs.conditions.shapes.has_bad_declaration.Goals as goal

pub loop-declaration-init : goal.loop-declaration-init
loop-declaration-init c k d l w = absurd (omega (arith, l))

pub loop-declaration-preserved : goal.loop-declaration-preserved
loop-declaration-preserved c = none_more (λ (e : Declaration). (e.op ≡ c.args.op) × HasBadShape c.args.collected.now e) c.as_slice-declaration-items.result.now c.loop-declaration.declaration-index c.declaration-item.result c.loop-declaration-test.true c.declaration-item.is c.loop-declaration.invariant (λ h. false≢true (c.if-is_bad_of.ensures.1 h))

pub returns-then-is_bad_of : goal.returns-then-is_bad_of
returns-then-is_bad_of c =
    let P = λ (e : Declaration). (e.op ≡ c.args.op) × HasBadShape c.args.collected.now e in
    let here : Any P c.as_slice-declaration-items.result.now = (c.loop-declaration.declaration-index, c.declaration-item.result, c.loop-declaration-test.true, sym c.declaration-item.is, c.if-is_bad_of.ensures.0 refl) in
    (λ _. subst (λ (l : List Declaration). Any P l) c.as_slice-declaration-items.ensures here, λ _. refl)

pub returns : goal.returns
returns c = (
  λ h. absurd (false≢true h),
  λ w.
      let P = λ (e : Declaration). (e.op ≡ c.args.op) × HasBadShape c.args.collected.now e in
      let one : Any P c.as_slice-declaration-items.result.now = subst (λ (l : List Declaration). Any P l) (sym c.as_slice-declaration-items.ensures) w in
      absurd (c.loop-declaration.invariant one.0 one.1 (let past = c.loop-declaration-test.false in let within = one.2 in omega (arith, within)) (subst P (sym one.3) one.4)),
)
