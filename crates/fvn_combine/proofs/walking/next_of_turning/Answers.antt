-- The numbers that are passed cover nothing, or only what is given.
use Rattle.std.proofs.Common.{refl, sym, subst, inl, inr, arith}
use Rattle.fvn_combine_nodes.specs.States.{class_of}
use Rattle.fvn_combine_leaves.specs.Readings.{IsReading}
use Rattle.fvn_combine_drawing.specs.CombineTriangularReady.{AreListed, IsReady}
use Rattle.fvn_combine_drawing.specs.Choices.{IsListedChoice}
use Rattle.fvn_combine_drawing.specs.Drawn.{IsDrawnBy}
use Rattle.fvn_combine_drawing.specs.CombineAdmissibleListed.{tag_in, systems_of, choice_of}
use Rattle.fvn_combine.specs.Tasks.{Combining}
use Rattle.fvn_combine.proofs.Current.{listed, fewer_under, passed_or_to_come, still_turning}
use Rattle.fvn_combine.proofs.walking.next_of_turning.Goals as goal

pub returns-in-None-clause-drawn : goal.returns-in-None-clause-drawn
returns-in-None-clause-drawn c = λ labels u h.
    let now = c.choices.invariant.kept labels u h in
    c.in-None.ensures.exhausted.0 refl now.numbers now.pending

pub draw-requires-clause-listed : goal.draw-requires-clause-listed
draw-requires-clause-listed c =
    let t = c.choices.invariant.turning in
    subst (λ (k : Combining). AreListed k.table c.args.reading.now c.args.bases.now c.in-Some.numbers.now) (sym c.task.view_is)
    (listed c.args.task.now c.args.state.now c.args.reading.now c.args.bases.now c.recall.ensures c.tables_are_small.ensures c.requires.reading c.requires.bases
    (tag_in c.choices.turning.tags) c.choices.turning.wheels.wheels t.are_wheels c.in-Some.numbers.now c.in-Some.ensures.greatest.0.0)

pub draw-requires-clause-choice : goal.draw-requires-clause-choice
draw-requires-clause-choice c =
    let k = c.args.task.now in
    let class = class_of c.args.state.now in
    let r = c.args.reading.now in
    let b = c.args.bases.now in
    let n = c.in-Some.numbers.now in
    let t = c.choices.invariant.turning in
    let choice : IsListedChoice k.declarations k.table class r b c.choices.turning.tags n = record {
      sorted = k.sorted;
      shared = c.args.shared.now;
      are_shared = c.requires.shared;
      options = t.options;
      are_tags = t.are_tags;
      wheels = c.choices.turning.wheels.wheels;
      are_wheels = t.are_wheels;
      valid = c.in-Some.ensures.greatest.0.0;
    } in
    subst (λ (k : Combining). IsListedChoice k.declarations k.table class r b c.as_slice.result.now n) (sym c.task.view_is)
    (subst (λ l. IsListedChoice k.declarations k.table class r b l n) (sym c.as_slice.ensures) choice)

pub choices-preserved : goal.choices-preserved
choices-preserved c =
    let k = c.args.task.now in
    let s = c.args.state.now in
    let r = c.args.reading.now in
    let b = c.args.bases.now in
    let tags = c.choices.turning.tags in
    let old = c.choices.turning.wheels in
    let new = c.advance.new.self in
    let drawn = subst (λ (k : Combining). IsDrawnBy k.declarations k.given k.first k.size k.table s (systems_of r b) (choice_of r tags c.in-Some.numbers.now) c.in_ok-drawn.drawn) c.task.view_is
    (subst (λ l. IsDrawnBy c.task.inside.sig.now c.task.inside.problem.now c.task.inside.first c.task.inside.size c.task.inside.table s (systems_of r b) (choice_of r l c.in-Some.numbers.now) c.in_ok-drawn.drawn) c.as_slice.ensures c.in_ok-drawn.ensures) in
    let none = subst (IsDrawnBy k.declarations k.given k.first k.size k.table s (systems_of r b) (choice_of r tags c.in-Some.numbers.now)) c.in-Nothing.is drawn in
    record {
      turning = still_turning k s r b tags old new c.advance.ensures.taken c.args.shared.now c.advance.ensures.wheels c.choices.invariant.turning;
      fewer = λ labels u h. c.choices.invariant.fewer labels u (fewer_under k s r b tags old new c.advance.ensures.taken labels u h);
      kept = λ labels u h. elim (passed_or_to_come k s r b tags old new c.advance.ensures.taken c.in-Some.numbers.now c.in-Some.ensures.value labels u (c.choices.invariant.kept labels u h)) [
        | inl e ↦ absurd (none u e.covering)
        | inr n ↦ n
      ];
      less = let l = c.choices.invariant.less in let f = c.advance.ensures.falls c.in-Some.numbers.now c.in-Some.ensures.value in omega (arith, l, f);
    }

pub returns-in-Unifier-clause-fewer : goal.returns-in-Unifier-clause-fewer
returns-in-Unifier-clause-fewer c = λ labels u h. c.choices.invariant.fewer labels u (fewer_under c.args.task.now c.args.state.now c.args.reading.now c.args.bases.now c.choices.turning.tags c.choices.turning.wheels c.advance-in-Unifier.new.self c.advance-in-Unifier.ensures.taken labels u h)

pub returns-in-Unifier-clause-drawn : goal.returns-in-Unifier-clause-drawn
returns-in-Unifier-clause-drawn c =
    let k = c.args.task.now in
    let s = c.args.state.now in
    let r = c.args.reading.now in
    let b = c.args.bases.now in
    let tags = c.choices.turning.tags in
    let drawn = subst (λ (k : Combining). IsDrawnBy k.declarations k.given k.first k.size k.table s (systems_of r b) (choice_of r tags c.in-Some.numbers.now) c.in_ok-drawn.drawn) c.task.view_is
    (subst (λ l. IsDrawnBy c.task.inside.sig.now c.task.inside.problem.now c.task.inside.first c.task.inside.size c.task.inside.table s (systems_of r b) (choice_of r l c.in-Some.numbers.now) c.in_ok-drawn.drawn) c.as_slice.ensures c.in_ok-drawn.ensures) in
    let given = subst (IsDrawnBy k.declarations k.given k.first k.size k.table s (systems_of r b) (choice_of r tags c.in-Some.numbers.now)) c.in-Unifier.is drawn in
    λ labels. (
      given.0,
      λ u h. elim (passed_or_to_come k s r b tags c.choices.turning.wheels c.advance-in-Unifier.new.self c.advance-in-Unifier.ensures.taken c.in-Some.numbers.now c.in-Some.ensures.value labels u (c.choices.invariant.kept labels u h)) [
        | inl e ↦ inl (given.1 u e.covering)
        | inr n ↦ inr n
      ],
    )

pub returns-in-Unifier-clause-falls : goal.returns-in-Unifier-clause-falls
returns-in-Unifier-clause-falls c =
    let l = c.choices.invariant.less in
    let f = c.advance-in-Unifier.ensures.falls c.in-Some.numbers.now c.in-Some.ensures.value in
    omega (arith, l, f)

pub returns-in-Unifier-clause-turning : goal.returns-in-Unifier-clause-turning
returns-in-Unifier-clause-turning c =
    still_turning c.args.task.now c.args.state.now c.args.reading.now c.args.bases.now c.choices.turning.tags c.choices.turning.wheels c.advance-in-Unifier.new.self c.advance-in-Unifier.ensures.taken c.args.shared.now c.advance-in-Unifier.ensures.wheels c.choices.invariant.turning

pub returns-in-TooLarge-clause-drawn : goal.returns-in-TooLarge-clause-drawn
returns-in-TooLarge-clause-drawn c =
    let k = c.args.task.now in
    let s = c.args.state.now in
    let r = c.args.reading.now in
    let b = c.args.bases.now in
    let drawn = subst (λ (k : Combining). IsDrawnBy k.declarations k.given k.first k.size k.table s (systems_of r b) (choice_of r c.choices.turning.tags c.in-Some.numbers.now) c.in_ok-drawn.drawn) c.task.view_is
    (subst (λ l. IsDrawnBy c.task.inside.sig.now c.task.inside.problem.now c.task.inside.first c.task.inside.size c.task.inside.table s (systems_of r b) (choice_of r l c.in-Some.numbers.now) c.in_ok-drawn.drawn) c.as_slice.ensures c.in_ok-drawn.ensures) in
    let large = subst (IsDrawnBy k.declarations k.given k.first k.size k.table s (systems_of r b) (choice_of r c.choices.turning.tags c.in-Some.numbers.now)) c.in-TooLarge.is drawn in
    λ labels. (large, c.choices.invariant.kept labels)

pub draw-requires-clause-ready : goal.draw-requires-clause-ready
draw-requires-clause-ready c = subst (λ (k : Combining). IsReady k.declarations k.given k.first k.table c.args.state.now) (sym c.task.view_is) c.requires.ready

pub draw-requires-clause-reading : goal.draw-requires-clause-reading
draw-requires-clause-reading c = subst (λ (k : Combining). IsReading k.declarations k.table (class_of c.args.state.now) c.args.reading.now) (sym c.task.view_is) c.requires.reading
