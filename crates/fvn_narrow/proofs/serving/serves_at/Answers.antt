-- What the tests told.
use Rattle.std.proofs.Common.{sym, ◌∙◌}
use Rattle.fvn_narrow.proofs.serving.serves_at.Goals as goal

pub returns : goal.returns
returns c = λ yes. record {
  operator = c.in-Some.f;
  variable = c.in-Some-variable_for_two.x;
  heads = sym c.head.ensures ∙ c.in-Some.is;
  other_heads = c.is_headed-headed.ensures c.if-not-headed.false;
  parts = c.in-Some-variable_for_two.ensures;
  sort = c.has_kept_sort.ensures yes;
}
