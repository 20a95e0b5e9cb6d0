-- What the tests told.
use Rattle.std.proofs.Common.{sym, ap, ◌∙◌}
use Rattle.fvn_rewrite.specs.inner.Twins.{has_twins}
use Rattle.fvn_rewrite.proofs.twins.lacks_twins.Goals as goal

pub returns : goal.returns
returns c = λ yes. record {
  operator = c.in-Some.f;
  heads = sym (c.head.ensures) ∙ c.in-Some.is;
  associative = c.makes_sums-sums.ensures c.if-not-sums.false;
  lasting = c.is_lasting.ensures yes;
  twins = ap has_twins (sym c.args-2.ensures.exact) ∙ sym c.has_twins-twins.ensures ∙ c.if-not-twins.false;
  none = ap has_twins (sym c.args-3.ensures.exact) ∙ sym c.has_twins-met.ensures ∙ c.if-met.false;
}
