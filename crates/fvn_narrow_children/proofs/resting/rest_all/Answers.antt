-- One more normal form, or an end.
use Rattle.std.proofs.Common.{◌≡◌, ap, ◌∙◌, subst}
use Rattle.fvn_terms.specs.declared.declarations.Declarations.{Declarations}
use Rattle.fvn_narrow_children.specs.Growing.{IsFormOf}
use Rattle.fvn_forms.specs.Canon.{inst}
use Rattle.fvn_flat.specs.Bindings.{value}
use Rattle.fvn_narrow_children.proofs.RestFacts.{form_of, unrested, overlarge, one_more_form, all_forms, told_at}
use Rattle.fvn_narrow_children.proofs.resting.rest_all.Goals as goal

pub loop-t-preserved : goal.loop-t-preserved
loop-t-preserved c =
    let r = c.args.rewriter.now in
    let g = inst r.signature (value c.args.s.now) in
    let is : c.in_ok-u.u ≡ g c.t-item.result = c.in_ok-u.ensures.exact ∙ ap (λ (d : Declarations). inst d (value c.args.s.now) c.t-item.result) c.signature.ensures in
    let form = form_of r c.in_ok-u.u c.in-Form.form (rw c.in-Form.is at c.in_ok-normal.ensures) in
    rw c.in_ok-push-in-Form.ensures.items
    (one_more_form r g c.args.ts.now c.loop-t.forms.items c.loop-t.t-index c.t-item.result c.in-Form.form c.loop-t-test.true c.t-item.is c.loop-t.invariant (subst (λ w. IsFormOf r w c.in-Form.form) is form))

pub returns-in-Steps : goal.returns-in-Steps
returns-in-Steps c =
    let r = c.args.rewriter.now in
    let g = inst r.signature (value c.args.s.now) in
    let is : c.in_ok-u.u ≡ g c.t-item.result = c.in_ok-u.ensures.exact ∙ ap (λ (d : Declarations). inst d (value c.args.s.now) c.t-item.result) c.signature.ensures in
    unrested r _ c.in_ok-u.u c.in-Steps.start c.in-Steps.end (told_at g c.args.ts.now c.loop-t.t-index c.t-item.result c.in_ok-u.u c.loop-t-test.true c.t-item.is is) (rw c.in-Steps.is at c.in_ok-normal.ensures)

pub returns-in-Size : goal.returns-in-Size
returns-in-Size c =
    let r = c.args.rewriter.now in
    let g = inst r.signature (value c.args.s.now) in
    let is : c.in_ok-u.u ≡ g c.t-item.result = c.in_ok-u.ensures.exact ∙ ap (λ (d : Declarations). inst d (value c.args.s.now) c.t-item.result) c.signature.ensures in
    overlarge r _ c.in_ok-u.u c.in-Size.large (told_at g c.args.ts.now c.loop-t.t-index c.t-item.result c.in_ok-u.u c.loop-t-test.true c.t-item.is is) (rw c.in-Size.is at c.in_ok-normal.ensures)

pub returns : goal.returns
returns c =
    let r = c.args.rewriter.now in
    rw c.from_vec.ensures (all_forms r (inst r.signature (value c.args.s.now)) c.args.ts.now c.loop-t.forms.items c.loop-t.t-index c.loop-t-test.false c.loop-t.invariant)
