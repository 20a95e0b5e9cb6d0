-- What the solver promises, in one record.
use Rattle.fvn_remembering.proofs.solves.AskingSolves.solve.Goals as goal

pub returns : goal.returns
returns g c = record {
  sound = c.in_ok-solved.ensures.sound;
  are_drawn = c.in_ok-solved.ensures.drawn;
  binds = c.in_ok-solved.ensures.binds;
  fresh = c.in_ok-solved.ensures.fresh;
  next = c.in_ok-solved.ensures.next;
  bounded = c.in_ok-solved.ensures.bounded;
  apart = c.in_ok-solved.ensures.apart;
  complete = c.in_ok-solved.ensures.complete;
  cause = c.in_ok-solved.ensures.cause;
}
