-- The statements that are left have the other pairs.
use Rattle.std.proofs.Common.{◌≡◌, [], drop}
use Rattle.fvn_module_names.specs.Order.{with_pairs}
use Rattle.fvn_module_declarations.proofs.pairs.add_pairs.Given as goal

-- the statements that are left have the other pairs
abbrev pub invariant-loop-statement : goal.invariant-loop-statement
invariant-loop-statement l = record {
  left : with_pairs l.sorts l.pairs.below (drop l.statement-index l.statements) ≡ with_pairs l.sorts [] l.statements;
  others : record l.pairs { below = [] } ≡ record l.fn.builder { below = [] };
}
