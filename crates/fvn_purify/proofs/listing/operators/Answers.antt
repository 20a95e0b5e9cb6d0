-- One more operator.
use Rattle.std.proofs.Common.{ℕ, ◌+◌, ◌<◌, ◌∙◌, List, length, sym, ap, subst, arith, Option, Contains}
use Rattle.std.specs.Prelude.{MatchOption}
use Rattle.fvn_terms.specs.declared.plain.OpId.{OpId}
use Rattle.fvn_purify.specs.Parts.{IsEach}
use Rattle.fvn_purify.specs.inner.Standing.{HeadsWithAxioms}
use Rattle.fvn_purify.proofs.Listed.{operator_skip, operator_next, operators_done}
use Rattle.fvn_purify.proofs.listing.operators.Goals.{in-None, in-Some+in_ok-push-in-Some}
use Rattle.fvn_purify.proofs.listing.operators.Goals as goal

pub loop-i-preserved : goal.loop-i-preserved
loop-i-preserved c =
    let d = c.args.sig.now in
    let t = c.args.table.now in
    let i = c.loop-i.i in
    let items = c.loop-i.list.items in
    let each = c.loop-i.invariant in
    let P = λ (l : List OpId) (r : Option OpId). MatchOption r ((f : OpId) → HeadsWithAxioms d t i f → Contains l f) (λ f. HeadsWithAxioms d t i f × (Contains l f → ⊥)) in
    let Q = λ (l : List OpId). IsEach (λ (f : OpId). (k : ℕ) × (k < i + 1) × HeadsWithAxioms d t k f) l in
    let found : P items c.new_operator.result = subst (λ l. P l c.new_operator.result) c.as_slice.ensures.value c.new_operator.ensures in
    elim c.match-new_operator.branch [
      | in-None w ↦ subst Q (sym (ap (λ v. v.items) w.list-is)) (operator_skip d t items i each (subst (P items) w.in-None.is found))
      | in-Some+in_ok-push-in-Some w ↦
          let h = subst (P items) w.in-Some.is found in
          subst Q (sym (ap (λ v. v.items) w.list-is ∙ w.in_ok-push-in-Some.ensures.items)) (operator_next d t items i each w.in-Some.f h.0 h.1)
    ]

pub returns : goal.returns
returns c =
    let end = c.loop-i-test.false in
    let n = ap length c.nodes-i-end.ensures in
    operators_done c.args.sig.now c.args.table.now c.loop-i.list.items c.loop-i.i (omega arith) c.loop-i.invariant
