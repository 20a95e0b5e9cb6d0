-- One term more.
use Rattle.std.proofs.Common.{[], sym, subst, arith}
use Rattle.fvn_narrow.specs.inner.Placing.{StandsAmong, ArePlacesWith}
use Rattle.fvn_narrow.proofs.Placed.{among_none, term_added, all_added}
use Rattle.fvn_narrow.proofs.placing.all_places.Goals as goal

pub loop-member-init : goal.loop-member-init
loop-member-init c =
    let rules = c.args.rules.now in
    let terms = c.args.terms.now in
    subst (ArePlacesWith rules terms (StandsAmong terms 0) []) (sym c.new-all.ensures.items) (among_none rules terms [])

pub with_member-requires : goal.with_member-requires
with_member-requires c = omega (arith, c.loop-member-test.true)

pub loop-member-preserved : goal.loop-member-preserved
loop-member-preserved c = term_added c.args.rules.now c.args.terms.now c.loop-member.member [] c.loop-member.all.items c.in_ok-all.all.items c.loop-member.invariant c.in_ok-all.ensures

pub returns : goal.returns
returns c = all_added c.args.rules.now c.args.terms.now c.loop-member.member (omega (arith, c.loop-member-test.false)) c.loop-member.all.items c.loop-member.invariant
