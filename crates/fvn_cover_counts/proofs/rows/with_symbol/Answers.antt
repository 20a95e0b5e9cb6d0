-- the row that is found, or a new one
use Rattle.std.proofs.Common.{◌<◌, ◌≤◌, ◌+◌, ◌++◌, length, replicate, ap, ◌∙◌, rules}
use Rattle.fvn_cover_counts.specs.inner.Rows.{position}
use Rattle.fvn_cover_counts.proofs.Noting.{found_row, new_row}
use Rattle.fvn_cover_counts.proofs.rows.with_symbol.Goals as goal

pub returns-then-at-len : goal.returns-then-at-len
returns-then-at-len c =
    let within : c.position-at.result < length c.args.rows.items = search rules in
    found_row c.args.s (replicate (c.args.more + 1) c.args.place) c.args.rows.items c.position-at.result c.index_mut.result.now c.add.new.self
    (c.position-at.ensures ∙ ap (position c.args.s) c.as_slice.ensures.value) within c.index_mut.ensures.value c.in_ok-add.ensures

pub returns : goal.returns
returns c =
    let beyond : length c.args.rows.items ≤ c.position-at.result = search rules in
    let more = replicate (c.args.more + 1) c.args.place in
    c.in_ok-push.ensures.items
    ∙ new_row c.args.s more c.args.rows.items c.position-at.result _
    (c.position-at.ensures ∙ ap (position c.args.s) c.as_slice.ensures.value) beyond (c.in_ok-add-2.ensures ∙ ap (λ l. l ++ more) c.new-places.ensures)
