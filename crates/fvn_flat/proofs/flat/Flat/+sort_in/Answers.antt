-- The sorts of the arguments, and what the operator makes of them.
use Rattle.std.proofs.Common.{◌≡◌, ◌<◌, ◌++◌, false, [], ◌∷◌, map, length, take, Some, sym, ap, ◌∙◌, arith}
use Rattle.std.proofs.lemmas.List.{take_more_set, take_all, length-set}
use Rattle.fvn_forms.specs.Ranks.{result}
use Rattle.fvn_forms.specs.LeastSort.{least_sort}
use Rattle.fvn_flat.specs.inner.SumSorts.{with_summand, sort_so_far, whole_sort}
use Rattle.fvn_flat.proofs.Views.{app_view}
use Rattle.fvn_flat.proofs.SortsOfFlats.{argument_fits, few_arguments, so_far-step, sorts-step, whole_sort_of, sort_of_app}
use Rattle.fvn_flat.proofs.flat.Flat.+sort_in.Goals as goal

pub sort_in-sort-requires : goal.sort_in-sort-requires
sort_in-sort-requires t c =
    let items = c.deref-t-items.result.now in
    let view = app_view c.self.inside.node c.args.self.now c.in-App.f c.in-App.joined c.in-App.ts items c.self.view_is c.in-App.is c.deref-t-items.ensures.value in
    let u = argument_fits c.args.sig.now c.in-App.f c.in-App.joined items c.args.self.now view c.recall_good.ensures c.requires c.loop-t.t-index c.t-item.result c.loop-t-test.true c.t-item.is in
    (omega (arith, u.0), u.1)

pub loop-t-preserved : goal.loop-t-preserved
loop-t-preserved t c =
    let d = c.args.sig.now in
    ap Some (c.with_summand.ensures ∙ (λ i. with_summand d c.in-App.f (c.loop-t.invariant i) (c.sort_in-sort.ensures i)))
    ∙ sym (so_far-step d c.in-App.f c.deref-t-items.result.now c.loop-t.t-index c.t-item.result c.loop-t-test.true c.t-item.is)

pub returns-then-joined : goal.returns-then-joined
returns-then-joined t c =
    let d = c.args.sig.now in
    let items = c.deref-t-items.result.now in
    let view = app_view c.self.inside.node c.args.self.now c.in-App.f c.in-App.joined c.in-App.ts items c.self.view_is c.in-App.is c.deref-t-items.ensures.value in
    c.whole_sort.ensures
    ∙ ap (whole_sort d c.in-App.f) (c.loop-t.invariant ∙ ap (λ l. sort_so_far d c.in-App.f (map (least_sort d) l)) (take_all c.loop-t.t-index items c.loop-t-test.false))
    ∙ whole_sort_of d c.in-App.f c.in-App.joined items c.args.self.now view c.if-joined.true

pub sort_in-requires : goal.sort_in-requires
sort_in-requires t c =
    let items = c.deref-u-items.result.now in
    let view = app_view c.self.inside.node c.args.self.now c.in-App.f c.in-App.joined c.in-App.ts items c.self.view_is c.in-App.is c.deref-u-items.ensures.value in
    let u = argument_fits c.args.sig.now c.in-App.f c.in-App.joined items c.args.self.now view c.recall_good.ensures c.requires c.loop-u.u-index c.u-item.result c.loop-u-test.true c.u-item.is in
    (omega (arith, u.0), u.1)

pub bounds-sorts-i : goal.bounds-sorts-i
bounds-sorts-i t c =
    let items = c.deref-u-items.result.now in
    let view = app_view c.self.inside.node c.args.self.now c.in-App.f c.in-App.joined c.in-App.ts items c.self.view_is c.in-App.is c.deref-u-items.ensures.value in
    omega (arith, few_arguments c.args.sig.now c.in-App.f c.in-App.joined items c.args.self.now view c.recall_good.ensures c.requires c.if-joined.false)

pub loop-u-preserved : goal.loop-u-preserved
loop-u-preserved t c =
    let d = c.args.sig.now in
    let items = c.deref-u-items.result.now in
    let view = app_view c.self.inside.node c.args.self.now c.in-App.f c.in-App.joined c.in-App.ts items c.self.view_is c.in-App.is c.deref-u-items.ensures.value in
    let short = few_arguments d c.in-App.f c.in-App.joined items c.args.self.now view c.recall_good.ensures c.requires c.if-joined.false in
    let room : length c.loop-u.sorts ≡ 8 = c.loop-u.invariant.room in
    let within : c.loop-u.i < length c.loop-u.sorts = omega arith in
    record {
      at = omega arith;
      room = length-set c.loop-u.sorts c.loop-u.i c.sort_in.result ∙ room;
      sorts =
          take_more_set c.loop-u.sorts c.loop-u.i c.sort_in.result within
          ∙ ap (λ l. l ++ c.sort_in.result ∷ []) c.loop-u.invariant.sorts
          ∙ ap (λ s. map (least_sort d) (take c.loop-u.u-index items) ++ s ∷ []) c.sort_in.ensures
          ∙ sym (sorts-step d items c.loop-u.u-index c.u-item.result c.loop-u-test.true c.u-item.is);
    }

pub returns-after-loop-u : goal.returns-after-loop-u
returns-after-loop-u t c =
    let d = c.args.sig.now in
    let items = c.deref-u-items.result.now in
    let view = app_view c.self.inside.node c.args.self.now c.in-App.f c.in-App.joined c.in-App.ts items c.self.view_is c.in-App.is c.deref-u-items.ensures.value in
    c.result.ensures.exact
    ∙ ap (result d c.in-App.f) (c.loop-u.invariant.sorts ∙ ap (map (least_sort d)) (take_all c.loop-u.u-index items c.loop-u-test.false))
    ∙ sym (sort_of_app d c.in-App.f c.in-App.joined items c.args.self.now view false c.if-joined.false)
