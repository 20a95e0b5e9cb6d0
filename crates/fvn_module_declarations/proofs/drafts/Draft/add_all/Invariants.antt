-- The statements that are left declare the rest.
use Rattle.std.proofs.Common.{◌≡◌, drop}
use Rattle.fvn_module_names.specs.Names.{operators_in, with_names}
use Rattle.fvn_module_declarations.specs.inner.Drafts.{with_all_operators}
use Rattle.fvn_module_declarations.proofs.drafts.Draft.add_all.Given as goal

-- the statements that are left declare the rest
abbrev pub invariant-loop-statement : goal.invariant-loop-statement
invariant-loop-statement l = record {
  left : with_all_operators l.v l.draft (drop l.statement-index l.statements) ≡ with_all_operators l.v l.fn.self l.statements;
  texts : with_names operators_in l.draft.names (drop l.statement-index l.statements) ≡ with_names operators_in l.fn.self.names l.statements;
  sorts : l.draft.collected.sorts ≡ l.fn.self.collected.sorts;
}
