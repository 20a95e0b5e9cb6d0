-- The rules by one identity more.
use Rattle.fvn_rewrite_laws.specs.Choices.{identities_below}
use Rattle.fvn_rewrite_rules.proofs.Steps.{listed_at}
use Rattle.fvn_rewrite_rules.proofs.Choosing.{identities_step}
use Rattle.fvn_rewrite_rules.proofs.instances.by_identities.Goals as goal

pub sent_to-requires : goal.sent_to-requires
sent_to-requires c = listed_at c.args.es.now (identities_below c.args.sig.now c.args.x.sort) c.requires.below c.loop-e.e-index _ c.loop-e-test.true

pub loop-e-preserved : goal.loop-e-preserved
loop-e-preserved c =
    identities_step c.args.sig.now c.args.x c.args.rules.now c.args.es.now c.loop-e.e-index _ c.loop-e-test.true c.loop-e.all.items c.in_ok-all.all.items c.in_ok-s.s
    c.in_ok-all.ensures c.in_ok-s.ensures.is c.loop-e.invariant
