-- Entries are read one after another, each behind a comma.
use Rattle.std.proofs.Common.{◌≡◌, [], ◌∷◌, ◌++◌, sym, ap, subst, ◌∙◌}
use Rattle.fvn_syntax.specs.Pieces.{comma}
use Rattle.fvn_weights_reading.specs.inner.Split.{IsEntrySplit, BeginsWithNoEntry, IsFront}
use Rattle.fvn_weights_reading.proofs.Splitting.{filled-by, front-first, decides-first, front-next, decides-next, no-more, not-whole}
use Rattle.fvn_weights_reading.proofs.split.split_entries.Goals as goal

pub loop-more-init : goal.loop-more-init
loop-more-init c =
    let f = filled-by c.args.row.now c.is_empty-empty.result c.is_empty-empty.ensures c.if-empty.false in
    let items = c.in_ok-push.ensures.items ∙ ap (λ l. l ++ (c.in-Some.first ∷ [])) c.new-list.ensures.items in (
      subst (λ l. IsFront c.args.row.now l c.in-Some.after) (sym items) (front-first c.args.row.now f c.in-Some.first c.in-Some.after c.in-Some.ensures.some),
      decides-first c.args.row.now f c.in-Some.first c.in-Some.after c.in-Some.ensures.some,
    )

pub returns-in_default-split_entry-clause-none : goal.returns-in_default-split_entry-clause-none
returns-in_default-split_entry-clause-none c =
    let f = filled-by c.args.row.now c.is_empty-empty.result c.is_empty-empty.ensures c.if-empty.false in
    no-more c.args.row.now f c.loop-more.rest c.in-Some-behind_comma.more c.loop-more.invariant.1 (sym c.pieces.ensures ∙ c.in-Some-behind_comma.ensures.some)
    (subst BeginsWithNoEntry c.pieces-in-Some-behind_comma.ensures c.in_default-split_entry.ensures.none)

pub loop-more-preserved : goal.loop-more-preserved
loop-more-preserved c =
    let f = filled-by c.args.row.now c.is_empty-empty.result c.is_empty-empty.ensures c.if-empty.false in
    let e : c.loop-more.rest ≡ comma ∷ c.in-Some-behind_comma.more = sym c.pieces.ensures ∙ c.in-Some-behind_comma.ensures.some in
    let a = subst (λ x. IsEntrySplit x c.in-Some-split_entry.entry c.in-Some-split_entry.after) c.pieces-in-Some-behind_comma.ensures c.in-Some-split_entry.ensures.some in (
      subst (λ l. IsFront c.args.row.now l c.in-Some-split_entry.after) (sym c.in_ok-push-2.ensures.items)
          (front-next c.args.row.now f c.loop-more.list.items c.loop-more.rest c.in-Some-behind_comma.more c.in-Some-split_entry.entry c.in-Some-split_entry.after c.loop-more.invariant.0 e a),
      decides-next c.args.row.now f c.loop-more.rest c.in-Some-behind_comma.more c.in-Some-split_entry.entry c.in-Some-split_entry.after c.loop-more.invariant.1 e a,
    )

pub returns-then-not-ended-clause-none : goal.returns-then-not-ended-clause-none
returns-then-not-ended-clause-none c =
    let f = filled-by c.args.row.now c.is_empty-empty.result c.is_empty-empty.ensures c.if-empty.false in
    let some = filled-by c.pieces-2.result.now c.is_empty-ended.result c.is_empty-ended.ensures c.if-not-ended.true in
    not-whole c.args.row.now f c.loop-more.rest c.loop-more.invariant.1 (λ r e. c.in_default-behind_comma.ensures.none r (c.pieces.ensures ∙ e)) (λ e. some (c.pieces-2.ensures ∙ e))
