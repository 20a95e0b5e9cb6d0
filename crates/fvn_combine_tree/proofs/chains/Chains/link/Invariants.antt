-- The nodes so far are chained.
use Rattle.std.proofs.Common.{◌≡◌}
use Rattle.fvn_combine_tree.specs.inner.Chains.{HasRoom}
use Rattle.fvn_combine_tree.proofs.Chaining.{IsLast, IsBefore}
use Rattle.fvn_combine_tree.proofs.chains.Chains.link.Given as goal

abbrev pub invariant-loop-i : goal.invariant-loop-i
invariant-loop-i l = record {
  room : HasRoom l.count l.self;
  keys : l.self.keys.items ≡ l.fn.self.keys.items;
  last : IsLast l.count l.i l.self.keys.items l.self.last.items;
  before : IsBefore l.i l.self.keys.items l.self.before.items;
}
