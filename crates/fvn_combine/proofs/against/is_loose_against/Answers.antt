-- It has a tag, nothing is noted of it, and it is one of them.
use Rattle.std.proofs.Common.{◌≡◌, Some, None, sym, ◌∙◌}
use Rattle.fvn_combine.proofs.against.is_loose_against.Goals as goal

pub returns-in-Some-tags : goal.returns-in-Some-tags
returns-in-Some-tags c = λ t. record {
  loose_class = c.is_loose.ensures t;
  tagged = λ i. let e : Some c.in-Some-tags.field-0 ≡ None = sym c.in-Some-tags.is ∙ i in cc;
  not_noted = c.in-None.is;
}
