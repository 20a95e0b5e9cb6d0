-- The end at which the children stopped, or that to which the answer leads.
use Rattle.std.proofs.Common.{◌≡◌, true, false, sym, ap, ◌∙◌, inl, inr}
use Rattle.fvn_narrow.proofs.posing.ended.Goals as goal

pub returns-then-is_whole : goal.returns-then-is_whole
returns-then-is_whole c = record {
  children = ap (λ p. p.0) c.into_parts-children.ensures;
  end = inl (sym (ap (λ p. p.1) c.into_parts-children.ensures) ∙ c.is_whole.ensures.0 c.if-is_whole.true, c.end_of.ensures);
}

pub returns : goal.returns
returns c = record {
  children = ap (λ p. p.0) c.into_parts-children.ensures;
  end = inr (λ q. (let z : true ≡ false = sym (c.is_whole.ensures.1 (ap (λ p. p.1) c.into_parts-children.ensures ∙ q)) ∙ c.if-is_whole.false in cc), ap (λ p. p.1) c.into_parts-children.ensures);
}
