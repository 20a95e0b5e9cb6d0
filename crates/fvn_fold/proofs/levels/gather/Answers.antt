-- the children of whole expansions, or of those up to the first that is not
use Rattle.std.proofs.Common.{◌≡◌, length, take, refl, sym, ap, ◌∙◌, subst, inl}
use Rattle.std.proofs.lemmas.Bool.{false≢true}
use Rattle.std.proofs.lemmas.List.{map-id}
use Rattle.std.proofs.lemmas.Iterator.Adapters.{YieldsList-from_vec}
use Rattle.std.proofs.lemmas.Iterator.Consumers.{YieldsList-turn, YieldsList-so_far, YieldsList-end}
use Rattle.fvn_fold.specs.inner.Gathering.{all_children, AreWhole}
use Rattle.fvn_fold.proofs.Gathers.{gathered_more, whole_more, gathered_here}
use Rattle.fvn_fold.proofs.levels.gather.Goals as goal

pub returns-then-not-is_whole : goal.returns-then-not-is_whole
returns-then-not-is_whole c =
    let all = c.args.expansions.items in
    let e = c.in-Some.expansion in
    let before = c.loop-expansion.yielded in
    let gives = c.into_iter-expansion-iterator.ensures.into_iter_gives in
    let road = YieldsList-from_vec all gives.0 (gives.1 ∙ c.args.expansions.ok.0) in
    let turn = YieldsList-turn road before c.loop-expansion.expansion-iterator c.loop-expansion.yielded_by c.next.result c.next.new.self e c.in-Some.is c.next.ensures.steps in
    let so_far : before ≡ take (length before) all = sym (map-id before) ∙ YieldsList-so_far road before c.loop-expansion.expansion-iterator c.loop-expansion.yielded_by in
    rw (c.in_ok-append.ensures.items, c.into_vec-more.ensures)
    (gathered_here all before e c.loop-expansion.candidates.items c.into_parts-children.result.0 c.into_parts-children.result.1 so_far turn.0 turn.1 c.into_parts-children.ensures c.loop-expansion.invariant.0
    (λ w. false≢true (sym c.if-not-is_whole.true ∙ c.is_whole.ensures.1 w)))

pub loop-expansion-preserved : goal.loop-expansion-preserved
loop-expansion-preserved c =
    let e = c.in-Some.expansion in
    let before = c.loop-expansion.yielded in (
      rw (c.in_ok-append.ensures.items, c.into_vec-more.ensures) (gathered_more before e c.loop-expansion.candidates.items c.into_parts-children.result.0 c.into_parts-children.result.1 c.into_parts-children.ensures c.loop-expansion.invariant.0),
      whole_more before e c.into_parts-children.result.0 c.into_parts-children.result.1 c.into_parts-children.ensures (c.is_whole.ensures.0 c.if-not-is_whole.false) c.loop-expansion.invariant.1,
    )

pub returns : goal.returns
returns c =
    let all = c.args.expansions.items in
    let gives = c.into_iter-expansion-iterator.ensures.into_iter_gives in
    let road = YieldsList-from_vec all gives.0 (gives.1 ∙ c.args.expansions.ok.0) in
    let end = YieldsList-end road c.loop-expansion.yielded c.loop-expansion.expansion-iterator c.loop-expansion.yielded_by c.next.result c.next.new.self c.in-None.is c.next.ensures.steps in
    let whole : c.loop-expansion.yielded ≡ all = sym (map-id c.loop-expansion.yielded) ∙ end.0 in
    inl (subst AreWhole whole c.loop-expansion.invariant.1, c.loop-expansion.invariant.0 ∙ ap all_children whole, refl)
