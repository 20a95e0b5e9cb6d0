-- Pairs are read one after another, each behind a separator.
use Rattle.std.proofs.Common.{◌≡◌, [], ◌∷◌, ◌++◌, sym, ap, subst, ◌∙◌}
use Rattle.fvn_problems.specs.inner.Split.{IsFront, IsPairSplit, BeginsWithNoPair, ArePairsSplit}
use Rattle.fvn_problems.proofs.Splitting.{no-pair, no-more, front-first, decides-first, front-next, decides-next, whole}
use Rattle.fvn_problems.proofs.split.split_pairs.Goals as goal

pub returns-in_default-clause-none : goal.returns-in_default-clause-none
returns-in_default-clause-none c = no-pair c.args.between.now c.args.separator.now c.requires c.args.row.now (rw c.in_default.is at c.in_ok-pair.ensures.none)

pub loop-more-init : goal.loop-more-init
loop-more-init c =
    let a = rw c.in-Some.is at c.in_ok-pair.ensures.some in
    let items = c.in_ok-push.ensures.items ∙ ap (λ l. l ++ (c.in-Some.pair ∷ [])) c.new-list.ensures.items in (
      subst (λ l. IsFront c.args.between.now c.args.separator.now c.args.row.now l c.in-Some.after) (sym items)
          (front-first c.args.between.now c.args.separator.now c.requires c.args.row.now c.in-Some.pair c.in-Some.after a),
      decides-first c.args.between.now c.args.separator.now c.requires c.args.row.now c.in-Some.pair c.in-Some.after a,
    )

pub returns-in_default-2-clause-none : goal.returns-in_default-2-clause-none
returns-in_default-2-clause-none c =
    let n = rw c.in_default-2.is at c.in_ok-pair-2.ensures.none in
    no-more c.args.between.now c.args.separator.now c.requires c.args.row.now c.loop-more.rest c.in-Some-behind.more c.loop-more.invariant.1
    (sym c.pieces.ensures ∙ c.in-Some-behind.ensures.some)
    (subst (BeginsWithNoPair c.args.between.now) c.pieces-in-Some-behind.ensures n)

pub loop-more-preserved : goal.loop-more-preserved
loop-more-preserved c =
    let e : c.loop-more.rest ≡ c.args.separator.now ∷ c.in-Some-behind.more = sym c.pieces.ensures ∙ c.in-Some-behind.ensures.some in
    let b = rw c.in-Some-2.is at c.in_ok-pair-2.ensures.some in
    let a = subst (λ x. IsPairSplit c.args.between.now x c.in-Some-2.pair c.in-Some-2.after) c.pieces-in-Some-behind.ensures b in (
      subst (λ l. IsFront c.args.between.now c.args.separator.now c.args.row.now l c.in-Some-2.after) (sym c.in_ok-push-2.ensures.items)
          (front-next c.args.between.now c.args.separator.now c.requires c.args.row.now c.loop-more.list.items c.loop-more.rest c.in-Some-behind.more c.in-Some-2.pair c.in-Some-2.after c.loop-more.invariant.0 e a),
      decides-next c.args.between.now c.args.separator.now c.requires c.args.row.now c.loop-more.rest c.in-Some-behind.more c.in-Some-2.pair c.in-Some-2.after c.loop-more.invariant.1 e a,
    )

pub returns-clause-some : goal.returns-clause-some
returns-clause-some c =
    subst (λ l. ArePairsSplit c.args.between.now c.args.separator.now c.args.row.now l c.loop-more.rest) (sym c.from_vec.ensures)
    (whole c.args.between.now c.args.separator.now c.requires c.args.row.now c.loop-more.list.items c.loop-more.rest c.loop-more.invariant.0 c.loop-more.invariant.1
    (λ r e. c.in_default-behind.ensures.none r (c.pieces.ensures ∙ e)))
