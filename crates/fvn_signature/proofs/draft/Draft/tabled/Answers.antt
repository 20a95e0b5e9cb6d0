-- What a table has is the result.
use Rattle.std.proofs.Common.{◌≡◌, ℕ, List, [], get_or, sym, subst, ◌∙◌}
use Rattle.std.proofs.lemmas.List.{get_or_default}
use Rattle.fvn_terms.specs.declared.plain.SortId.{SortId}
use Rattle.fvn_signature.specs.Drafts.{IsTable}
use Rattle.fvn_signature.proofs.TableLemmas.{looked_up, table-at}
use Rattle.fvn_signature.proofs.draft.Draft.tabled.Goals as goal

pub returns-in-Some-get-2 : goal.returns-in-Some-get-2
returns-in-Some-get-2 c =
    let d = c.args.self.now.declarations in
    let n : ℕ = c.args.self.now.total in
    let tables : List (List (List SortId)) = c.args.self.now.tables.items in
    let rows : List (List SortId) = c.in-Some.rows.now in
    let row : List SortId = c.in-Some-get.row.now in
    let sort : SortId = c.in-Some-get-2.sort.now in
    let is_table = looked_up c.deref.result.now tables c.from.result c.args.op.0 rows c.deref.ensures.value c.from.ensures c.in-Some.ensures.lookup.0 c.in-Some.ensures.lookup.1 in
    let is_row = looked_up c.as_slice.result.now rows c.from-in-Some.result c.args.first.0 row c.as_slice.ensures c.from-in-Some.ensures c.in-Some-get.ensures.lookup.0 c.in-Some-get.ensures.lookup.1 in
    let is_sort = looked_up c.as_slice-in-Some-get.result.now row c.from-in-Some-get.result c.args.second.0 sort c.as_slice-in-Some-get.ensures c.from-in-Some-get.ensures c.in-Some-get-2.ensures.lookup.0 c.in-Some-get-2.ensures.lookup.1 in
    let kept : rows ≡ get_or tables c.args.op.0 [] = is_table.1 ∙ get_or_default tables c.args.op.0 rows [] is_table.0 in
    table-at d c.args.op n rows (subst (IsTable d c.args.op n) (sym kept) (c.args.self.now.sound.tables c.args.op)) c.args.first.0 c.args.second.0 row sort is_row.0 is_row.1 is_sort.0 is_sort.1
