-- The node is the sum of these two.
use Rattle.std.proofs.Common.{refl, sym, ◌∙◌, slice_get}
use Rattle.fvn_combine_systems.proofs.Members.{addends_over}
use Rattle.fvn_combine_inferring.proofs.expressions.split_at.Goals as goal

pub returns-in-Some : goal.returns-in-Some
returns-in-Some c = record {
  member = c.args.i;
  left = c.in-Some.p.0;
  right = c.in-Some.p.1;
  over = addends_over c.args.f (slice_get c.args.table.now.nodes c.args.i) c.in-Some.p (sym c.addends.ensures.is ∙ c.in-Some.is);
  of = refl;
  first = sym c.class_of.ensures;
  second = sym c.class_of-in-Some.ensures;
}
