-- The names that are left are still to be declared.
use Rattle.std.proofs.Common.{◌≡◌, drop}
use Rattle.fvn_module_names.specs.Names.{with_texts}
use Rattle.fvn_module_declarations.specs.inner.Drafts.{with_names}
use Rattle.fvn_module_declarations.proofs.drafts.Draft.add_names.Given as goal

-- the names that are left are still to be declared
abbrev pub invariant-loop-name : goal.invariant-loop-name
invariant-loop-name l = record {
  left : with_names l.draft l.shape (drop l.name-index l.names) ≡ with_names l.fn.self l.shape l.names;
  texts : with_texts l.draft.names (drop l.name-index l.names) ≡ with_texts l.fn.self.names l.names;
  sorts : l.draft.collected.sorts ≡ l.fn.self.collected.sorts;
}
