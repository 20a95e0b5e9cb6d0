-- The arguments are settled and smaller, and the instance is what the operator builds over theirs.
use Rattle.std.proofs.Common.{◌≡◌, ◌≤◌, length, map, take, sym, ap, ◌∙◌, arith}
use Rattle.std.proofs.lemmas.List.{take_all}
use Rattle.fvn_forms.specs.Canon.{inst}
use Rattle.fvn_flat.specs.Bindings.{value}
use Rattle.fvn_flat.proofs.Views.{app_view, args_view}
use Rattle.fvn_flat.proofs.Smaller.{argument_is_smaller}
use Rattle.fvn_flat.proofs.Instances.{no_items, some_items, none_so_far, begun_so_far, inst_of_same, inst_of_changed, argument_settled}
use Rattle.fvn_flat.proofs.substitution.Subst.+changed_term.Goals as goal

pub changed_term-requires : goal.changed_term-requires
changed_term-requires t c =
    let items = c.deref-u-items.result.now in
    let view = app_view c.t.inside.node c.args.t.now c.in-App.f c.in-App.field-1 c.in-App.ts items c.t.view_is c.in-App.is c.deref-u-items.ensures.value in
    let args = args_view c.t.inside.node c.args.t.now c.in-App.f c.in-App.field-1 c.in-App.ts items c.t.view_is c.in-App.is c.deref-u-items.ensures.value in
    let smaller = argument_is_smaller c.args.t.now items c.loop-u.u-index c.u-item.result args c.loop-u-test.true c.u-item.is in (
      omega (arith, smaller),
      (
        c.requires.values,
        argument_settled c.args.sig.now (value c.args.self.now) c.requires.values c.in-App.f c.in-App.field-1 items c.args.t.now view c.requires.flat c.loop-u.u-index c.u-item.result c.loop-u-test.true c.u-item.is,
      ),
    )

pub returns-then-is_empty : goal.returns-then-is_empty
returns-then-is_empty t c =
    let items = c.deref-u-items.result.now in
    let view = app_view c.t.inside.node c.args.t.now c.in-App.f c.in-App.field-1 c.in-App.ts items c.t.view_is c.in-App.is c.deref-u-items.ensures.value in
    let all = take_all c.loop-u.u-index items c.loop-u-test.false in
    let none : length c.loop-u.copies.items ≡ 0 = no_items _ _ c.loop-u.copies.ok.0 (sym c.is_empty.ensures ∙ c.if-is_empty.true) in
    let same = sym (none_so_far c.loop-u.copies.items (take c.loop-u.u-index items) none) ∙ c.loop-u.invariant.instances in
    inst_of_same c.args.sig.now (value c.args.self.now) c.requires.values c.in-App.f c.in-App.field-1 items c.args.t.now view c.requires.flat (sym all ∙ same ∙ ap (map (inst c.args.sig.now (value c.args.self.now))) all)

pub returns-in_ok-whole-in-App : goal.returns-in_ok-whole-in-App
returns-in_ok-whole-in-App t c =
    let items = c.deref-u-items.result.now in
    let view = app_view c.t.inside.node c.args.t.now c.in-App.f c.in-App.field-1 c.in-App.ts items c.t.view_is c.in-App.is c.deref-u-items.ensures.value in
    let all = take_all c.loop-u.u-index items c.loop-u-test.false in
    let some : 1 ≤ length c.loop-u.copies.items = some_items _ _ c.loop-u.copies.ok.0 (sym c.is_empty.ensures ∙ c.if-is_empty.false) in
    let changed = begun_so_far c.loop-u.copies.items (take c.loop-u.u-index items) some ∙ c.loop-u.invariant.instances ∙ ap (map (inst c.args.sig.now (value c.args.self.now))) all in
    c.in_ok-whole-in-App.ensures ∙ inst_of_changed c.args.sig.now (value c.args.self.now) c.requires.values c.in-App.f c.in-App.field-1 items c.args.t.now view c.requires.flat c.loop-u.copies.items changed
