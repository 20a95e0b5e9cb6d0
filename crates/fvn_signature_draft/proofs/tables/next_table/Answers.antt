-- The table of an earlier operator with the same declarations is one of this operator.
use Rattle.std.proofs.Common.{sym, subst}
use Rattle.fvn_signature.specs.Drafts.{IsTable}
use Rattle.fvn_signature_draft.proofs.AlikeLemmas.{alike_table}
use Rattle.fvn_signature_draft.proofs.tables.next_table.Goals as goal

pub returns-in_ok-rows-in-Some : goal.returns-in_ok-rows-in-Some
returns-in_ok-rows-in-Some c =
    let d = c.args.draft.now.declarations in
    let n = c.args.draft.now.total in
    let g = c.in-Some.earlier in
    alike_table d g c.args.op c.in-Some.ensures.1 n c.in_ok-rows-in-Some.rows.items (subst (IsTable d g n) (sym c.in_ok-rows-in-Some.ensures) (c.requires.tables g))
