-- The sides stand beside a variable of their kind.
use Rattle.fvn_rewrite_rules.proofs.Wide.{left_beside, right_beside}
use Rattle.fvn_rewrite_rules.proofs.extensions.extended.Goals as goal

pub new_variable-z-requires : goal.new_variable-z-requires
new_variable-z-requires c = record { flat = c.requires.kinds.left; kinded = (c.requires.kinds.kinds.kind, c.requires.kinds.kinds.left) }

pub beside-requires-clause-fit : goal.beside-requires-clause-fit
beside-requires-clause-fit c = (left_beside c.args.sig.now c.recall_good.ensures c.args.rule.now c.requires.kinds c.args.f c.requires.head c.requires.associative c.new_variable-z.result c.new_variable-z.ensures).0

pub beside-requires-clause-takes : goal.beside-requires-clause-takes
beside-requires-clause-takes c = (left_beside c.args.sig.now c.recall_good.ensures c.args.rule.now c.requires.kinds c.args.f c.requires.head c.requires.associative c.new_variable-z.result c.new_variable-z.ensures).1

pub beside-requires-2-clause-fit : goal.beside-requires-2-clause-fit
beside-requires-2-clause-fit c = (right_beside c.args.sig.now c.recall_good.ensures c.args.rule.now c.requires.kinds c.args.f c.requires.head c.requires.associative c.new_variable-z.result c.new_variable-z.ensures).0

pub beside-requires-2-clause-takes : goal.beside-requires-2-clause-takes
beside-requires-2-clause-takes c = (right_beside c.args.sig.now c.recall_good.ensures c.args.rule.now c.requires.kinds c.args.f c.requires.head c.requires.associative c.new_variable-z.result c.new_variable-z.ensures).1
