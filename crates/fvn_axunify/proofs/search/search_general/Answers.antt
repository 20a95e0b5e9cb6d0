-- A unifier is one on kinds, and keeps the sorts of all variables; the combiner is the search, and says all but where a sum system is refused.
use Rattle.fvn_axunify.proofs.Ends.{no_refusal_settled}
use Rattle.fvn_axunify.proofs.search.search_general.Goals as goal

pub run_through-requires-clause-all : goal.run_through-requires-clause-all
run_through-requires-clause-all c = λ u h. c.in_ok-combiner.ensures.all u (h.0.0, h.1) (λ x _. h.0.1 x)

pub returns-clause-found : goal.returns-clause-found
returns-clause-found c = λ none. c.in_ok-f.ensures.found (no_refusal_settled c.in_ok-combiner.combiner c.in_ok-f.f.end none)

pub returns-clause-searched : goal.returns-clause-searched
returns-clause-searched c = λ none. record {
  start = c.in_ok-combiner.combiner;
  now = c.run_through.new.combiner;
  of = c.in_ok-combiner.ensures.of;
  all = λ u h. c.in_ok-combiner.ensures.all u (h.0.0, h.1) (λ x _. h.0.1 x);
  run = c.in_ok-f.ensures.run (no_refusal_settled c.in_ok-combiner.combiner c.in_ok-f.f.end none);
}
