-- Equal patterns more.
use Rattle.std.proofs.Common.{◌≡◌, [], length, sym, ap, ◌∙◌, subst, arith}
use Rattle.std.proofs.lemmas.Bool.{eqb-true}
use Rattle.std.proofs.lemmas.List.{nil_from_length, length-drop}
use Rattle.fvn_match.specs.inner.Summands.{references}
use Rattle.fvn_match.specs.inner.Refusing.{AreMultiples}
use Rattle.fvn_match.proofs.Runs.{length_references, references-drop}
use Rattle.fvn_match.proofs.WholeSteps.{not_zero}
use Rattle.fvn_match.proofs.Hopeless.{no_patterns_multiple, multiples_more}
use Rattle.fvn_match.proofs.refusing.are_multiples.Goals as goal

pub loop-rest-init : goal.loop-rest-init
loop-rest-init c = λ h. h

pub returns-then-is_empty : goal.returns-then-is_empty
returns-then-is_empty c = λ yes.
    let rest = c.loop-rest.rest.now in
    let none : references rest ≡ [] = nil_from_length (references rest) (length_references rest ∙ eqb-true (length rest) 0 (sym c.is_empty.ensures ∙ c.if-is_empty.true)) in
    c.loop-rest.invariant (subst (AreMultiples c.args.k) (sym none) (no_patterns_multiple c.args.k))

pub alike-n-requires : goal.alike-n-requires
alike-n-requires c = not_zero (length c.loop-rest.rest.now) (sym c.is_empty.ensures ∙ c.if-is_empty.false)

pub is_multiple-is-requires : goal.is_multiple-is-requires
is_multiple-is-requires c = c.requires

pub after-others-requires : goal.after-others-requires
after-others-requires c = let w = c.alike-n.ensures.within in let l = length_references c.loop-rest.rest.now in omega arith

pub loop-rest-smaller : goal.loop-rest-smaller
loop-rest-smaller c =
    let rest = c.loop-rest.rest.now in
    let some = c.alike-n.ensures.some in
    let w = c.alike-n.ensures.within in
    let l = length_references rest in
    let e = ap length c.after-others.ensures in
    let f = length-drop c.alike-n.result rest in
    omega arith

pub loop-rest-preserved : goal.loop-rest-preserved
loop-rest-preserved c = λ h.
    let rest = c.loop-rest.rest.now in
    let others = ap references c.after-others.ensures ∙ references-drop c.alike-n.result rest in
    c.loop-rest.invariant (multiples_more c.args.k c.alike-n.result (c.is_multiple-is.ensures.0 c.if-not-is.false) (references rest) c.alike-n.ensures (subst (AreMultiples c.args.k) others h))
