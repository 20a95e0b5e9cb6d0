-- Equal patterns more.
use Rattle.std.proofs.Common.{length, sym, ap, ◌∙◌, subst, arith}
use Rattle.std.proofs.lemmas.List.{length-drop}
use Rattle.fvn_match.specs.inner.Summands.{references}
use Rattle.fvn_match.proofs.Runs.{length_references, references-drop}
use Rattle.fvn_match.proofs.WholeSteps.{not_zero}
use Rattle.fvn_match.proofs.Copies.{Copied, copied_none, copied_more, copied_enough}
use Rattle.fvn_match.proofs.refusing.have_copies.Goals as goal

pub loop-rest-init : goal.loop-rest-init
loop-rest-init c = copied_none c.args.k c.args.many (references c.args.patterns.now)

pub alike-m-requires : goal.alike-m-requires
alike-m-requires c = not_zero (length c.loop-rest.rest.now) (sym c.is_empty.ensures ∙ c.if-is_empty.false)

pub returns-then-left-one : goal.returns-then-left-one
returns-then-left-one c = λ yes.
    let rest = c.loop-rest.rest.now in
    let some = not_zero (length rest) (sym c.is_empty.ensures ∙ c.if-is_empty.false) in
    let long = length_references rest in
    copied_enough c.args.k c.args.many (references c.args.patterns.now) c.loop-rest.left c.alike-m.result c.one_from-one.result c.one_from-one.ensures (references rest) (omega arith) c.alike-m.ensures c.loop-rest.invariant (omega arith)

pub after-others-requires : goal.after-others-requires
after-others-requires c = let w = c.alike-m.ensures.within in let l = length_references c.loop-rest.rest.now in omega arith

pub loop-rest-smaller : goal.loop-rest-smaller
loop-rest-smaller c =
    let rest = c.loop-rest.rest.now in
    let some = c.alike-m.ensures.some in
    let w = c.alike-m.ensures.within in
    let l = length_references rest in
    let e = ap length c.after-others.ensures in
    let f = length-drop c.alike-m.result rest in
    omega arith

pub loop-rest-preserved : goal.loop-rest-preserved
loop-rest-preserved c =
    let rest = c.loop-rest.rest.now in
    let some = not_zero (length rest) (sym c.is_empty.ensures ∙ c.if-is_empty.false) in
    let long = length_references rest in
    let others = ap references c.after-others.ensures ∙ references-drop c.alike-m.result rest in
    subst (Copied c.args.k c.args.many (references c.args.patterns.now) _) (sym others)
    (copied_more c.args.k c.args.many (references c.args.patterns.now) c.loop-rest.left c.alike-m.result c.one_from-one.result c.one_from-one.ensures (references rest) (omega arith) c.alike-m.ensures c.loop-rest.invariant _ (omega arith))
