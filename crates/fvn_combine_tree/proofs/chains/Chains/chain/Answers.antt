-- Keys, and chains by them.
use Rattle.std.proofs.Common.{sym, subst}
use Rattle.fvn_combine_tree.specs.inner.Chains.{AreKeys}
use Rattle.fvn_combine_tree.proofs.chains.Chains.chain.Goals as goal

pub returns-clause-keys : goal.returns-clause-keys
returns-clause-keys c = subst (AreKeys c.args.table.now.nodes c.args.names.now c.args.by) (sym c.link.ensures.keys) c.key_all.ensures.keys
