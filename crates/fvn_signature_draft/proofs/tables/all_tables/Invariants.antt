-- The invariant of the tables of all operators.
use Rattle.std.proofs.Common.{◌≡◌, [], length, get_or}
use Rattle.fvn_terms.specs.declared.plain.OpId.{OpId}
use Rattle.fvn_signature.specs.Drafts.{IsTable}
use Rattle.fvn_signature_draft.proofs.tables.all_tables.Given as goal

-- the operators so far have their tables
abbrev pub invariant-loop-op : goal.invariant-loop-op
invariant-loop-op l = record {
  as_long : length l.all.items ≡ l.op;
  tables : (f : OpId) → IsTable l.draft.declarations f l.draft.total (get_or l.all.items f.0 []);
}
