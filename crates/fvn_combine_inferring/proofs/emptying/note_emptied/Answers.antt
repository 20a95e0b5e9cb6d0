-- All have the value of the identity.
use Rattle.fvn_combine_inferring.proofs.Told.{emptied_met}
use Rattle.fvn_combine_inferring.proofs.emptying.note_emptied.Goals as goal

pub note_equal-requires : goal.note_equal-requires
note_equal-requires c = record {
  equal = c.requires.pairs.equal;
  within = c.requires.within;
  right = c.in-Some.ensures.within;
  values = emptied_met c.args.sig.now c.args.table.now c.args.state.now c.args.sorted c.args.f c.requires.sums c.requires.closed c.in-Some.n c.in-Some.ensures.unit c.args.list.now c.requires.sides;
}

pub returns-in_ok-note_equal-in-Some : goal.returns-in_ok-note_equal-in-Some
returns-in_ok-note_equal-in-Some c = record { insides = c.requires.pairs.insides; held = c.requires.pairs.held; equal = c.in_ok-note_equal-in-Some.ensures }
