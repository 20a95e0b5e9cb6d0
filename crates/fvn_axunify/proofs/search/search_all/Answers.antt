-- A unifier is one on kinds, and keeps the sorts of all variables; the combiner is the search, and asks for all.
use Rattle.fvn_axunify.proofs.Ends.{every_settled}
use Rattle.fvn_axunify.proofs.search.search_all.Goals as goal

pub run_through-requires-clause-all : goal.run_through-requires-clause-all
run_through-requires-clause-all c = λ u h. c.in_ok-combiner.ensures.all u (h.0.0, h.1) (λ x _. h.0.1 x)

pub returns-clause-found : goal.returns-clause-found
returns-clause-found c = c.in_ok-f.ensures.found (every_settled c.in_ok-combiner.combiner c.in_ok-combiner.ensures.every c.in_ok-f.f.end)

pub returns-clause-searched : goal.returns-clause-searched
returns-clause-searched c = record {
  start = c.in_ok-combiner.combiner;
  now = c.run_through.new.combiner;
  of = c.in_ok-combiner.ensures.of;
  all = λ u h. c.in_ok-combiner.ensures.all u (h.0.0, h.1) (λ x _. h.0.1 x);
  run = c.in_ok-f.ensures.run (every_settled c.in_ok-combiner.combiner c.in_ok-combiner.ensures.every c.in_ok-f.f.end);
}
