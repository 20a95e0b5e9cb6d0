-- A member adds classes that have space.
use Rattle.fvn_combine_questions.proofs.labels.has_member.Goals as goal

pub returns-then-has_space : goal.returns-then-has_space
returns-then-has_space c = λ _. record {
  node = c.loop-i.i;
  added = (c.in-Some.left, c.in-Some.right);
  member = c.in-Some.ensures;
  left_space = c.has_space.ensures c.if-not-has_space.false;
  right_space = c.has_space-in-Some.ensures c.if-has_space.true;
}
