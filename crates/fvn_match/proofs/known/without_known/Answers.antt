-- one pattern more
use Rattle.std.proofs.Common.{sym, ◌∙◌, subst, arith}
use Rattle.std.proofs.lemmas.List.{drop_all}
use Rattle.fvn_match.specs.inner.Summands.{references}
use Rattle.fvn_match.specs.inner.Goals.{bindings_of}
use Rattle.fvn_match.specs.inner.Known.{IsKnown}
use Rattle.fvn_match.proofs.Runs.{length_references}
use Rattle.fvn_match.proofs.KnownSteps.{Leaving, leaving_all, known_settled, flat_at, step_open, step_taken, step_refused, step_end}
use Rattle.fvn_match.proofs.known.without_known.Goals as goal

pub loop-p-init : goal.loop-p-init
loop-p-init c = rw (c.new-patterns.ensures.items, c.in_ok-left.ensures) (leaving_all c.args.sig.now (bindings_of c.args.bound.now) c.args.goal.now)

pub loop-p-preserved-in-None : goal.loop-p-preserved-in-None
loop-p-preserved-in-None c =
    rw c.in_ok-push-in-None.ensures.items (step_open c.args.sig.now (bindings_of c.args.bound.now) c.args.goal.now c.args.goal.now.patterns.now c.loop-p.p-index c.p-item.result c.loop-p-test.true c.p-item.is c.loop-p.patterns.items c.loop-p.left.items c.loop-p.invariant)

pub take-requires-clause-settled : goal.take-requires-clause-settled
take-requires-clause-settled c =
    let d = c.args.sig.now in
    let b = bindings_of c.args.bound.now in
    let known : IsKnown b c.p-item.result.now c.in-Some.v.now = c.in-Some.ensures in
    known_settled d b c.p-item.result.now c.in-Some.v.now known (flat_at d b c.args.goal.now c.requires.fits c.loop-p.p-index c.p-item.result c.loop-p-test.true c.p-item.is) c.requires.bound

pub take-requires-clause-associative : goal.take-requires-clause-associative
take-requires-clause-associative c = c.requires.fits.associative

pub take-requires-clause-long : goal.take-requires-clause-long
take-requires-clause-long c = c.loop-p.invariant.long ∙ c.requires.fits.long

pub returns-then-not-take : goal.returns-then-not-take
returns-then-not-take c =
    step_refused c.args.sig.now (bindings_of c.args.bound.now) c.args.goal.now c.args.goal.now.patterns.now c.loop-p.p-index c.p-item.result c.loop-p-test.true c.p-item.is c.loop-p.patterns.items c.loop-p.left.items c.loop-p.invariant
    c.in-Some.v.now c.in-Some.ensures (flat_at c.args.sig.now (bindings_of c.args.bound.now) c.args.goal.now c.requires.fits c.loop-p.p-index c.p-item.result c.loop-p-test.true c.p-item.is) c.take.new.left.items (rw c.if-not-take.true at c.take.ensures)

pub loop-p-preserved : goal.loop-p-preserved
loop-p-preserved c =
    step_taken c.args.sig.now (bindings_of c.args.bound.now) c.args.goal.now c.args.goal.now.patterns.now c.loop-p.p-index c.p-item.result c.loop-p-test.true c.p-item.is c.loop-p.patterns.items c.loop-p.left.items c.loop-p.invariant
    c.in-Some.v.now c.in-Some.ensures (flat_at c.args.sig.now (bindings_of c.args.bound.now) c.args.goal.now c.requires.fits c.loop-p.p-index c.p-item.result c.loop-p-test.true c.p-item.is) _ (c.requires.fits.long ∙ sym (length_references c.args.goal.now.pieces.now)) (rw c.if-not-take.false at c.take.ensures)

pub returns : goal.returns
returns c =
    let past = drop_all c.loop-p.p-index (references c.args.goal.now.patterns.now) (let z = length_references c.args.goal.now.patterns.now in omega arith) in
    step_end c.args.sig.now (bindings_of c.args.bound.now) c.args.goal.now _
    (subst (Leaving c.args.sig.now (bindings_of c.args.bound.now) c.args.goal.now (references c.loop-p.patterns.items) c.loop-p.left.items) past c.loop-p.invariant)
