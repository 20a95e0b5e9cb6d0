-- The children of both.
use Rattle.std.proofs.Common.{◌++◌, ap, ◌∙◌}
use Rattle.fvn_narrow.proofs.trying.with_more.Goals as goal

pub returns : goal.returns
returns c = record {
  children = c.in_ok-append.ensures.items ∙ ap (λ l. c.args.children.items ++ l) (c.into_vec-rest.ensures ∙ ap (λ p. p.0) c.into_parts-more.ensures);
  end_is = ap (λ p. p.1) c.into_parts-more.ensures;
}
