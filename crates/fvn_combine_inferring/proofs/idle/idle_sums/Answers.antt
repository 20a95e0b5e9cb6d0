-- The identity is a node.
use Rattle.fvn_combine_inferring.proofs.idle.idle_sums.Goals as goal

pub each_idle-requires : goal.each_idle-requires
each_idle-requires c = record {
  closed = c.requires.closed;
  sums = c.requires.sums;
  equal = c.requires.pairs.equal;
  unit = c.in-Some.ensures.unit;
  inside = c.in-Some.ensures.within;
}

pub returns-in_ok-told-in-Some-clause-pairs : goal.returns-in_ok-told-in-Some-clause-pairs
returns-in_ok-told-in-Some-clause-pairs c = record {
  insides = c.requires.pairs.insides;
  held = c.requires.pairs.held;
  equal = c.in_ok-told-in-Some.ensures.equal;
}
