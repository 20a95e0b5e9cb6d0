-- Another head, or an overlap.
use Rattle.std.proofs.Common.{subst}
use Rattle.fvn_rewrite.specs.Usable.{equations_by}
use Rattle.fvn_critical_pairs.specs.Overlaps.{Joins}
use Rattle.fvn_critical.specs.inner.Testing.{HeadsAs, JoinWith}
use Rattle.fvn_critical.proofs.Covering.{weaker, other_head, with_this}
use Rattle.fvn_critical.proofs.testing.fault_with.Goals as goal

pub returns-then-not-heads : goal.returns-then-not-heads
returns-then-not-heads g c =
    let part = c.args.part.now in
    other_head c.args.tester.now.rewriter c.args.new.now.rule part.path.now part.at.now c.requires.part.leads part.head c.requires.part.heads c.args.inner.now
    (subst (HeadsAs part.head c.args.inner.now.left) c.if-not-heads.true c.heads.ensures)

pub overlap_fault-requires-clause-overlap : goal.overlap_fault-requires-clause-overlap
overlap_fault-requires-clause-overlap g c lives order =
    let part = c.args.part.now in record {
      rule = c.requires.outer.0;
      given = c.requires.outer.1;
      renewed = c.requires.outer.2;
      overlaps = record {
        listed = c.requires.part.listed;
        leads = c.requires.part.leads;
        operator = part.head;
        heads = c.requires.part.heads;
        given = c.requires.inner;
        heads_inner = subst (HeadsAs part.head c.args.inner.now.left) c.if-not-heads.false c.heads.ensures;
      };
    }

pub returns : goal.returns
returns g c =
    let r = c.args.tester.now.rewriter in
    let part = c.args.part.now in
    let outer = c.args.new.now.rule in
    weaker r (g.A.AxiomSolver.drawn c.args.tester.now.solver.now) (g.A.AxiomSolver.most_unifiers c.args.tester.now.solver.now)
    (Joins r.signature (equations_by r) record { outer = outer; path = part.path.now; at = part.at.now; inner = c.args.inner.now }) (JoinWith r outer part.path.now c.args.inner.now)
    (with_this r outer part.path.now part.at.now c.requires.part.leads part.head c.requires.part.heads c.args.inner.now) c.in_ok-fault.fault c.in_ok-fault.ensures
