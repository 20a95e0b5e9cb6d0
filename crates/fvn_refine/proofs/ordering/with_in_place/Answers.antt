-- At the end, where it stands already, or before the row in its place.
use Rattle.std.proofs.Common.{◌≡◌, length, get_or, sym, ap, subst, ◌∙◌, arith}
use Rattle.std.specs.List.{insert}
use Rattle.fvn_refine.specs.inner.Ordering.{is_before, place}
use Rattle.fvn_refine.proofs.InOrder.{place_within, in_place_last, in_place_there, in_place_before}
use Rattle.fvn_refine.proofs.ordering.with_in_place.Goals as goal

pub returns-then-i-len : goal.returns-then-i-len
returns-then-i-len c =
    let at : c.place-i.result ≡ place c.args.rows.items c.args.row = c.place-i.ensures ∙ ap (λ l. place l c.as_slice-2.result.now) c.as_slice.ensures.value ∙ ap (place c.args.rows.items) c.as_slice-2.ensures in
    c.in_ok-push.ensures.items ∙ sym (in_place_last c.args.rows.items c.args.row (sym at ∙ c.if-i-len.true ∙ c.len.ensures ∙ c.args.rows.ok.0))

pub index-requires : goal.index-requires
index-requires c =
    let at : c.place-i.result ≡ place c.args.rows.items c.args.row = c.place-i.ensures ∙ ap (λ l. place l c.as_slice-2.result.now) c.as_slice.ensures.value ∙ ap (place c.args.rows.items) c.as_slice-2.ensures in
    let long : c.len.result ≡ length c.args.rows.items = c.len.ensures ∙ c.args.rows.ok.0 in
    omega (arith, at, place_within c.args.rows.items c.args.row, long, c.len.ensures, c.if-i-len.false)

pub returns-then-not-is_before : goal.returns-then-not-is_before
returns-then-not-is_before c =
    let at : c.place-i.result ≡ place c.args.rows.items c.args.row = c.place-i.ensures ∙ ap (λ l. place l c.as_slice-2.result.now) c.as_slice.ensures.value ∙ ap (place c.args.rows.items) c.as_slice-2.ensures in
    let long : c.len.result ≡ length c.args.rows.items = c.len.ensures ∙ c.args.rows.ok.0 in
    let test : c.is_before.result ≡ is_before c.args.row c.index.result.now = c.is_before.ensures ∙ ap (λ r. is_before r c.as_slice-4.result.now) c.as_slice-3.ensures ∙ ap (is_before c.args.row) c.as_slice-4.ensures in
    sym (in_place_there c.args.rows.items c.args.row c.index.result.now (omega (arith, at, place_within c.args.rows.items c.args.row, long, c.if-i-len.false))
    (subst (λ n. c.index.result.now ≡ get_or c.args.rows.items n c.index.result.now) at c.index.ensures) (sym test ∙ c.if-not-is_before.true))

pub insert-requires : goal.insert-requires
insert-requires c =
    let at : c.place-i.result ≡ place c.args.rows.items c.args.row = c.place-i.ensures ∙ ap (λ l. place l c.as_slice-2.result.now) c.as_slice.ensures.value ∙ ap (place c.args.rows.items) c.as_slice-2.ensures in
    let long : c.len.result ≡ length c.args.rows.items = c.len.ensures ∙ c.args.rows.ok.0 in
    omega (arith, at, place_within c.args.rows.items c.args.row, long, c.len.ensures)

pub returns : goal.returns
returns c =
    let at : c.place-i.result ≡ place c.args.rows.items c.args.row = c.place-i.ensures ∙ ap (λ l. place l c.as_slice-2.result.now) c.as_slice.ensures.value ∙ ap (place c.args.rows.items) c.as_slice-2.ensures in
    let long : c.len.result ≡ length c.args.rows.items = c.len.ensures ∙ c.args.rows.ok.0 in
    let test : c.is_before.result ≡ is_before c.args.row c.index.result.now = c.is_before.ensures ∙ ap (λ r. is_before r c.as_slice-4.result.now) c.as_slice-3.ensures ∙ ap (is_before c.args.row) c.as_slice-4.ensures in
    c.in_ok-insert.ensures.items
    ∙ ap (λ n. insert c.args.rows.items n c.args.row) at
    ∙ sym (in_place_before c.args.rows.items c.args.row c.index.result.now (omega (arith, at, place_within c.args.rows.items c.args.row, long, c.if-i-len.false))
    (subst (λ n. c.index.result.now ≡ get_or c.args.rows.items n c.index.result.now) at c.index.ensures) (sym test ∙ c.if-not-is_before.false))
