-- The classes of the row are nodes, and its sides have the same summands.
use Rattle.fvn_combine_inferring.proofs.held.note_at.Goals as goal

pub note_row-requires : goal.note_row-requires
note_row-requires c = record {
  closed = c.requires.closed;
  sums = c.requires.sums;
  heads = c.requires.heads;
  addition = c.requires.addition;
  held = c.requires.held;
  left = rw c.in-Some.is at c.in_ok-row_at.ensures.left;
  right = rw c.in-Some.is at c.in_ok-row_at.ensures.right;
  sides = rw c.in-Some.is at c.in_ok-row_at.ensures.sides;
}
