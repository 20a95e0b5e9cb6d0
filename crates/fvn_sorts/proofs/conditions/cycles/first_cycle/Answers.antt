-- Where no sort was found, none is on a cycle.
use Rattle.std.proofs.Common.{inl, inr, arith}
use Rattle.std.proofs.lemmas.Bool.{cases_lt}
use Rattle.fvn_sorts.proofs.ShapeLemmas.{cycle_in_range}
use Rattle.fvn_sorts.proofs.conditions.cycles.first_cycle.Goals as goal

pub returns : goal.returns
returns c s h = elim (cases_lt s.0 c.loop-s.s) [
  | inl l ↦ c.loop-s.invariant s l h
  | inr l ↦ absurd (let within = cycle_in_range c.args.collected.now c.requires.closed s h in let past = c.loop-s-test.false in omega arith)
]
