-- The pairs so far are walked through.
use Rattle.std.proofs.Common.{take}
use Rattle.fvn_flat.specs.Problems.{subterms_of, plain_pairs}
use Rattle.fvn_combine_tree.specs.inner.Drafts.{AreNodes, HasWalked, AreSides}
use Rattle.fvn_combine_tree.proofs.building.Draft.add_pairs.Given as goal

abbrev pub invariant-loop-left : goal.invariant-loop-left
invariant-loop-left l = record {
  nodes : AreNodes l.self.nodes.items;
  walked : HasWalked l.initial.self l.self (subterms_of (plain_pairs (take l.left-index l.pairs)));
  sides : AreSides l.self.nodes.items l.sides.items (plain_pairs (take l.left-index l.pairs));
}
