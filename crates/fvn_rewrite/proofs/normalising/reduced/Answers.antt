-- One turn more.
use Rattle.std.proofs.Common.{◌+◌, arith}
use Rattle.fvn_theory.specs.Equations.{equations_of}
use Rattle.fvn_rewrite.proofs.Reaching.{reached_more}
use Rattle.fvn_rewrite.proofs.Ending.{form_end, unfinished_end, large_end, unfinished_at_once}
use Rattle.fvn_rewrite.proofs.normalising.reduced.Goals as goal

pub returns-then-none : goal.returns-then-none
returns-then-none c =
    let d = c.args.sig.now in
    let E = equations_of c.args.rules.now.equations in
    unfinished_at_once d E c.args.t.now c.args.bounds c.in_ok-start.start c.in_ok-end.end c.args.next c.in_ok-start.ensures c.in_ok-end.ensures c.requires.term (omega (arith, c.if-none.true)) c.requires.next

pub begin-requires : goal.begin-requires
begin-requires c = record { term = c.requires.term; rules = c.requires.rules; next = c.requires.next.1; some = omega (arith, c.if-none.false) }

pub loop-reached-init : goal.loop-reached-init
loop-reached-init c = let b = c.in_ok-begun.ensures in (b.count, b.spent, b.reached)

pub take_turn-requires : goal.take_turn-requires
take_turn-requires c = record { term = c.loop-reached.invariant.2.fits; rules = c.requires.rules }

pub loop-reached-preserved : goal.loop-reached-preserved
loop-reached-preserved c =
    let d = c.args.sig.now in
    let E = equations_of c.args.rules.now.equations in
    let k = c.loop-reached.invariant.0 in
    (k + 1, omega (arith, c.loop-reached.invariant.1), reached_more d E c.rewriting_is_lawful.ensures k c.args.t.now c.loop-reached.reached c.in-Next.u c.loop-reached.invariant.2 (rw c.in-Next.is at c.in_ok-now.ensures).1)

pub returns-in-Large : goal.returns-in-Large
returns-in-Large c =
    let d = c.args.sig.now in
    let E = equations_of c.args.rules.now.equations in
    large_end d E c.args.t.now c.args.bounds c.loop-reached.invariant.0 c.loop-reached.reached (omega (arith, c.loop-reached.invariant.1)) c.loop-reached.invariant.2 (rw c.in-Large.is at c.in_ok-now.ensures)

pub returns-in-Irreducible : goal.returns-in-Irreducible
returns-in-Irreducible c =
    let d = c.args.sig.now in
    let E = equations_of c.args.rules.now.equations in
    form_end d E c.args.t.now c.args.bounds c.loop-reached.invariant.0 c.loop-reached.reached (omega (arith, c.loop-reached.invariant.1)) c.loop-reached.invariant.2 (rw c.in-Irreducible.is at c.in_ok-now.ensures)

pub returns-then-spent : goal.returns-then-spent
returns-then-spent c =
    let d = c.args.sig.now in
    let E = equations_of c.args.rules.now.equations in
    unfinished_end d E c.args.t.now c.args.bounds c.loop-reached.invariant.0 c.in_ok-start-in-Next.start c.loop-reached.reached c.in-Next.u c.in_ok-start-in-Next.ensures (omega (arith, c.loop-reached.invariant.1, c.if-spent.true)) c.loop-reached.invariant.2 (rw c.in-Next.is at c.in_ok-now.ensures)
